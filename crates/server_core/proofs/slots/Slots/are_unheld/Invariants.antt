-- the requests that were looked at are fine: it remains to look at the rest
use Rattle.std.proofs.Common.{◌≡◌, drop}
use Rattle.std.specs.List.{AllByRecursion}
use Rattle.server_core.specs.Serving.{IsUnheld}
use Rattle.server_core.proofs.slots.Slots.are_unheld.Given as goal

abbrev pub invariant-loop-request : goal.invariant-loop-request
invariant-loop-request l =
    (AllByRecursion (IsUnheld l.fn.pool) (drop l.request-index l.request-items)
    → AllByRecursion (IsUnheld l.fn.pool) l.fn.self) × (l.request-items ≡ l.fn.self)
