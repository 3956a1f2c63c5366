use Rattle.std.proofs.Common.{◌≡◌, ◌==◌, not, length}
use Rattle.std.specs.List.{filter}
use Rattle.rpc_world.proofs.finished.leave_out.Given as goal

abbrev pub invariant-jobs : goal.invariant-jobs
invariant-jobs l =
    filter (λ w. not (w.node == l.node)) l.worked
    ≡ filter (λ w. not (w.node == l.node)) l.initial.worked

abbrev pub decreases-jobs : goal.decreases-jobs
decreases-jobs l = length l.worked
