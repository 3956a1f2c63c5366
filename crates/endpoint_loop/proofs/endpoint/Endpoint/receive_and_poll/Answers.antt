use Rattle.std.proofs.Common.{true, false, refl, ap, ◌∙◌}
use Rattle.endpoint_loop.specs.Polls.{turn_of}
use Rattle.endpoint_loop.proofs.TurnLaw.{fault-stays, goes-further, makes-turn, poll-cause}
use Rattle.endpoint_loop.proofs.endpoint.Endpoint.receive_and_poll.Goals as goal

pub returns-in-Ok : goal.returns-in-Ok
returns-in-Ok g c =
    let p = c.poll-polled in
    record {
      turns = makes-turn g.R.Recorder.log g.L.Link
          g.K.Continuation.given g.V.Service g.W.Workers c.args.now false (turn_of p.result)
          _ _ _ _ _ _ _ _ _ _ _ _ _ c.in-Ok.ensures.receives
          (record {
            sent = c.in-Ok.ensures.sent;
            busies = c.in-Ok.ensures.busies;
            faults = c.in-Ok.ensures.cause;
          }) p.ensures.lists p.ensures.polls (poll-cause _ _ p.result p.ensures.cause) refl;
      goes_on = goes-further g.R.Recorder.log
          g.V.Service g.W.Workers _ _ _ _ _ _ c.in-Ok.ensures.goes_on p.ensures.goes_on;
      busy = rw (← c.in-Ok.ensures.busies) p.ensures.busy;
      team = p.ensures.team
          ∙ ap g.W.Workers.team c.in-Ok.ensures.receives.takes.leaves.workers;
      cause = rw (← c.in-Ok.ensures.cause) p.ensures.cause;
      handed = rw (← c.in-Ok.ensures.receives.takes.handed) p.ensures.handed;
      no_less = p.ensures.no_less;
    }

pub returns-in-Err : goal.returns-in-Err
returns-in-Err g c =
    let p = c.poll-polled in
    record {
      turns = makes-turn g.R.Recorder.log g.L.Link
          g.K.Continuation.given g.V.Service g.W.Workers c.args.now true (turn_of p.result)
          _ _ _ _ _ _ _ _ _ _ _ _ _ c.in-Err.ensures.receives
          (record {
            sent = c.in-Err.ensures.sent;
            busies = c.in-Err.ensures.busies;
            faults = c.in-Err.ensures.cause;
          }) p.ensures.lists p.ensures.polls (poll-cause _ _ p.result p.ensures.cause) refl;
      goes_on = goes-further g.R.Recorder.log
          g.V.Service g.W.Workers _ _ _ _ _ _ c.in-Err.ensures.goes_on p.ensures.goes_on;
      busy = tt;
      team = p.ensures.team
          ∙ ap g.W.Workers.team c.in-Err.ensures.receives.takes.leaves.workers;
      cause = fault-stays _ _ _ p.result c.in-Err.ensures.cause p.ensures.cause;
      handed = rw (← c.in-Err.ensures.receives.takes.handed) p.ensures.handed;
      no_less = p.ensures.no_less;
    }
