-- the calls that were looked at are fine: it remains to look at the rest
use Rattle.std.proofs.Common.{◌≡◌, drop}
use Rattle.client_core.specs.KeepsPool.{CanHold}
use Rattle.client_core.proofs.calls.Calls.can_hold.Given as goal

abbrev pub invariant-loop-call : goal.invariant-loop-call
invariant-loop-call l =
    (CanHold l.fn.pool (drop l.call-index l.call-items) → CanHold l.fn.pool l.fn.self)
    × (l.call-items ≡ l.fn.self)
