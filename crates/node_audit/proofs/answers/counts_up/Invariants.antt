use Rattle.std.proofs.Common.{◌≡◌, ◌<◌, ℕ, ◌%◌, slice_index}
use Rattle.node_audit.proofs.answers.counts_up.Given as goal

abbrev pub invariant-loop-j : goal.invariant-loop-j
invariant-loop-j l = (k : ℕ) → k < l.j → slice_index l.bytes k ≡ k % 256
