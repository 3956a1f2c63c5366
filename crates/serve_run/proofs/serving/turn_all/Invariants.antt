-- turns were made, and some are left
use Rattle.std.proofs.Common.{◌≡◌, ◌<◌, ◌≤◌, ◌-◌}
use Rattle.rpc_turns.specs.Moments.{outside, where_at}
use Rattle.serve_run.specs.Serving.{ServesOn}
use Rattle.worker_crew.specs.Crews.{team_of}
use Rattle.serve_run.proofs.serving.turn_all.Given as goal

abbrev pub invariant-turns : goal.invariant-turns
invariant-turns g l =
    ServesOn (outside g.L.Link g.C.Clock.gave g.R.Recorder.log)
    (where_at l.initial.run l.initial.link l.initial.clock l.initial.rec)
    (where_at l.run l.link l.clock l.rec)
    × (g.L.Link.faults l.link ≡ g.L.Link.faults l.initial.link)
    × (l.run.made < l.run.turns)
    × (team_of l.run.endpoint.workers ≡ team_of l.initial.run.endpoint.workers)
    × (l.initial.memory ≤ l.memory)

abbrev pub decreases-turns : goal.decreases-turns
decreases-turns g l = l.run.turns - l.run.made
