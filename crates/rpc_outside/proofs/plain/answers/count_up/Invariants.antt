use Rattle.std.proofs.Common.{◌≡◌, ◌<◌, ℕ, length, ◌%◌, slice_index}
use Rattle.rpc_outside.proofs.plain.answers.count_up.Given as goal

abbrev pub invariant-loop-j : goal.invariant-loop-j
invariant-loop-j l = (length l.out ≡ length l.initial.out) × ((k : ℕ) → k < l.j → slice_index l.out k ≡ k % 256)
