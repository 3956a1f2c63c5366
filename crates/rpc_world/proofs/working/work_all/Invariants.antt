use Rattle.std.proofs.Common.{◌≡◌, length}
use Rattle.node_laws.specs.Kept.{Kept}
use Rattle.rpc_world.proofs.WorkingLemmas.{WorksSome}
use Rattle.rpc_world.proofs.working.work_all.Given as goal

abbrev pub invariant-jobs : goal.invariant-jobs
invariant-jobs l =
    Kept l.initial.working.timed.lists × (l.me ≡ l.initial.working.timed.lists.me)
    × WorksSome l.initial.working l.working l.initial.rec l.rec

abbrev pub decreases-jobs : goal.decreases-jobs
decreases-jobs l = length l.working.workers.waiting
