use Rattle.endpoint_loop.proofs.TurnLaw.{told-on}
use Rattle.endpoint_loop.proofs.endpoint.Endpoint.turn.Goals as goal

pub returns : goal.returns
returns g c =
    let told = rw (← c.leave_strangers.ensures.kept) at c.receive_and_poll-told.ensures in
    let tells = c.leave_strangers.ensures.tells in
    record {
      turns = told-on g.R.Recorder.log g.L.Link g.K.Continuation.given g.V.Service g.W.Workers _
          c.args.now _ _ _ _ _ _ _ _ _ _ told.turns tells;
      goes_on = told.goes_on;
      busy = rw tells.busies told.busy;
      team = told.team;
      cause = rw tells.faults told.cause;
      handed = told.handed;
      no_less = told.no_less;
    }
