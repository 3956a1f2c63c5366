-- the take-backs of the jobs that are out were lost
use Rattle.std.proofs.Common.{◌≡◌, ◌+◌, ◌≤◌, ◌++◌, [], length, IsPermutation}
use Rattle.std.specs.List.{AllByRecursion}
use Rattle.std.specs.VecDeque.{deque_capacity}
use Rattle.worker_board.specs.Moves.{LostBefore}
use Rattle.worker_crew.specs.Dispatching.{jobs_in}
use Rattle.worker_crew.specs.Leaving.{jobs_of, IsLeft}
use Rattle.worker_crew.proofs.crew.stopping.collect_each.Given as goal

abbrev pub invariant-loop-dispatcher : goal.invariant-loop-dispatcher
invariant-loop-dispatcher g l = record {
  out : IsPermutation (jobs_of l.fn.left.items ++ jobs_in l.fn.dispatcher)
      (jobs_of l.left.items ++ jobs_in l.dispatcher);
  left : AllByRecursion (IsLeft g.D.Duty.answer l.dispatcher.view) l.left.items;
  lost : AllByRecursion (LostBefore l.dispatcher.view) l.dispatcher.busy;
  room : length l.left.items + length l.dispatcher.busy ≤ deque_capacity l.left;
  board : l.dispatcher.board ≡ l.fn.dispatcher.board;
  put : l.dispatcher.put ≡ l.fn.dispatcher.put;
  told : l.dispatcher.told ≡ l.fn.dispatcher.told;
  hands : l.dispatcher.view.out ≡ [];
}

abbrev pub decreases-loop-dispatcher : goal.decreases-loop-dispatcher
decreases-loop-dispatcher g l = length l.dispatcher.busy
