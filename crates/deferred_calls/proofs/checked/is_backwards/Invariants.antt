-- the bytes so far are those asked, from the end on
use Rattle.std.proofs.Common.{◌≡◌, ◌<◌, ◌-◌, ℕ, length, slice_index}
use Rattle.deferred_calls.proofs.checked.is_backwards.Given as goal

abbrev pub invariant-loop-i : goal.invariant-loop-i
invariant-loop-i l = (k : ℕ) → k < l.i → slice_index l.fn.out k ≡ slice_index l.fn.ask (length l.fn.ask - 1 - k)
