-- no job before this one has the number
use Rattle.std.proofs.Common.{◌≡◌, ◌≢◌, ℕ, ◌<◌, slice_get, Some}
use Rattle.deferred_calls.specs.declared.job.Numbered.{Numbered}
use Rattle.relays.proofs.relays.place_of.Given as goal

abbrev pub invariant-loop-i : goal.invariant-loop-i
invariant-loop-i l =
    (j : ℕ) (n : Numbered) → j < l.i → slice_get l.fn.asked.items j ≡ Some n → n.number ≢ l.fn.number
