-- turns were made, and more are left
use Rattle.std.proofs.Common.{◌-◌, ◌≤◌}
use Rattle.load_run.proofs.EndLemmas.{GoesSome}
use Rattle.rpc_turns.specs.Moments.{outside, where_at}
use Rattle.load_run.proofs.loading.turn_all.Given as goal

abbrev pub invariant-turns : goal.invariant-turns
invariant-turns g l =
    GoesSome (outside g.L.Link g.C.Clock.gave g.R.Recorder.log)
    (where_at l.initial.run l.initial.link l.initial.clock l.initial.rec)
    (where_at l.run l.link l.clock l.rec) × (l.initial.memory ≤ l.memory)

abbrev pub decreases-turns : goal.decreases-turns
decreases-turns g l = l.run.turns - l.run.made
