-- the jobs so far were passed on
use Rattle.std.proofs.Common.{[], ◌≤◌, length}
use Rattle.relay_steps.specs.Passing.{PassesSome, relayed}
use Rattle.relays.specs.Relaying.{Stands}
use Rattle.relay_steps.proofs.passing.pass_all.Given as goal

abbrev pub invariant-jobs : goal.invariant-jobs
invariant-jobs g l =
    Stands l.endpoint.workers [] l.relays
    × PassesSome g.R.Recorder.log g.V.Service g.D.Duty.answer
    (relayed l.initial.endpoint l.initial.relays) (relayed l.endpoint l.relays) l.initial.rec l.rec
    × (l.initial.memory ≤ l.memory)

abbrev pub decreases-jobs : goal.decreases-jobs
decreases-jobs g l = length l.endpoint.workers.waiting
