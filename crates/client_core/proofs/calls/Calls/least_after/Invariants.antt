-- the least so far and the least of the rest give the least of all
use Rattle.std.proofs.Common.{◌≡◌, drop}
use Rattle.rpc_base.specs.Least.{least_number}
use Rattle.rpc_base.proofs.LeastLemmas.{lesser}
use Rattle.client_core.specs.Watching.{call_number, is_after}
use Rattle.client_core.proofs.calls.Calls.least_after.Given as goal

abbrev pub invariant-loop-call : goal.invariant-loop-call
invariant-loop-call l =
    (least_number (is_after l.fn.after) call_number l.fn.self
    ≡ lesser l.least (least_number (is_after l.fn.after) call_number
    (drop l.call-index l.call-items))) × (l.call-items ≡ l.fn.self)
