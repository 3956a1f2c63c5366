-- the bytes so far count up
use Rattle.std.proofs.Common.{◌≡◌, ◌<◌, ◌%◌, ℕ, slice_index}
use Rattle.deferred_calls.proofs.checked.counts_up.Given as goal

abbrev pub invariant-loop-j : goal.invariant-loop-j
invariant-loop-j l = (k : ℕ) → k < l.j → slice_index l.fn.out k ≡ k % 256
