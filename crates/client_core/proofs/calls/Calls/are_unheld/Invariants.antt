-- the calls that were looked at are fine: it remains to look at the rest
use Rattle.std.proofs.Common.{◌≡◌, drop}
use Rattle.std.specs.List.{AllByRecursion}
use Rattle.client_core.specs.Replies.{IsUnheld}
use Rattle.client_core.proofs.calls.Calls.are_unheld.Given as goal

abbrev pub invariant-loop-call : goal.invariant-loop-call
invariant-loop-call l =
    (AllByRecursion (IsUnheld l.fn.pool) (drop l.call-index l.call-items)
    → AllByRecursion (IsUnheld l.fn.pool) l.fn.self) × (l.call-items ≡ l.fn.self)
