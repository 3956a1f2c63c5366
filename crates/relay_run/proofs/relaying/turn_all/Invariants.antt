-- turns were made, and some are left
use Rattle.std.proofs.Common.{◌≡◌, ◌<◌, ◌≤◌, ◌-◌}
use Rattle.relay_run.specs.Runs.{IsRelaying, RelaysOn}
use Rattle.rpc_turns.specs.Moments.{outside, where_at}
use Rattle.relay_run.proofs.relaying.turn_all.Given as goal

abbrev pub invariant-turns : goal.invariant-turns
invariant-turns g l =
    RelaysOn (outside g.L.Link g.C.Clock.gave g.R.Recorder.log)
    (where_at l.initial.run l.initial.link l.initial.clock l.initial.rec)
    (where_at l.run l.link l.clock l.rec)
    × (g.L.Link.faults l.link ≡ g.L.Link.faults l.initial.link)
    × (l.run.made < l.run.turns)
    × IsRelaying l.run
    × (l.initial.memory ≤ l.memory)

abbrev pub decreases-turns : goal.decreases-turns
decreases-turns g l = l.run.turns - l.run.made
