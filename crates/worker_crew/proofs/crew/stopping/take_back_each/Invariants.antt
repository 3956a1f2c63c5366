-- the take-backs of the jobs before i were lost
use Rattle.std.proofs.Common.{◌≡◌, ◌+◌, ◌-◌, ◌≤◌, ◌++◌, length, take, IsPermutation}
use Rattle.std.specs.List.{AllByRecursion}
use Rattle.std.specs.VecDeque.{deque_capacity}
use Rattle.worker_board.specs.Moves.{LostBefore}
use Rattle.worker_crew.specs.Dispatching.{jobs_in}
use Rattle.worker_crew.specs.Leaving.{jobs_of, IsLeft}
use Rattle.worker_crew.proofs.crew.stopping.take_back_each.Given as goal

abbrev pub invariant-loop-i : goal.invariant-loop-i
invariant-loop-i g l = record {
  out : IsPermutation (jobs_in l.fn.dispatcher) (jobs_of l.left.items ++ jobs_in l.dispatcher);
  left : AllByRecursion (IsLeft g.D.Duty.answer l.dispatcher.view) l.left.items;
  lost : AllByRecursion (LostBefore l.dispatcher.view) (take l.i l.dispatcher.busy);
  inside : l.i ≤ length l.dispatcher.busy;
  room : length l.left.items + length l.dispatcher.busy ≤ deque_capacity l.left;
  board : l.dispatcher.board ≡ l.fn.dispatcher.board;
  put : l.dispatcher.put ≡ l.fn.dispatcher.put;
  hands : l.dispatcher.view.out ≡ l.fn.dispatcher.view.out;
}

abbrev pub decreases-loop-i : goal.decreases-loop-i
decreases-loop-i g l = length l.dispatcher.busy - l.i
