-- The first part of a text that is split at a byte.
use Rattle.std.proofs.Common.{◌≡◌, ℕ, ◌+◌, ◌-◌, ◌≤◌, Bool, cond, nat_lt, List, [], ◌∷◌, length}
use Rattle.std.proofs.Common.{take, drop, take_all, length-drop, Some, None, subst, arith}
use Rattle.std.specs.List.{slice_split, position, position_or_len}
use Rattle.std.proofs.lemmas.Bool.Decides.{nat_tests}
use Rattle.std.proofs.lemmas.List.Quantifiers.{position-Some}
use Rattle.std.proofs.lemmas.List.Splits.{slice_split_first, slice_split_none}
use Rattle.std.proofs.lemmas.List.Sums.{position_or_len_is, fails_before_first}

none_before : (a n : ℕ) → cond (nat_lt a n) (Some a) None ≡ None → n ≤ a
none_before a n e = grind (arith, nat_tests)

-- where the byte stands at i, the first part is what stands before it
pub split_at_position : (p : ℕ → Bool) (xs : List ℕ) (i : ℕ) → position p xs ≡ Some i
    → slice_split p xs ≡ take i xs ∷ slice_split p (take (length xs - (i + 1)) (drop (i + 1) xs))
split_at_position p xs i e =
    let (within, passes, before) = position-Some p xs i 0 e in
    let same : position_or_len p xs ≡ i = position_or_len_is p xs i 0 (omega arith) before (λ _. passes) in
    let whole : take (length xs - (i + 1)) (drop (i + 1) xs) ≡ drop (i + 1) xs =
    take_all _ _ (omega (arith, length-drop {A = ℕ})) in
    rw whole (subst (λ k. slice_split p xs ≡ take k xs ∷ slice_split p (drop (k + 1) xs)) same
    (slice_split_first p xs 0 (omega arith)))

-- where it stands nowhere, the text is its only part
pub split_nowhere : (p : ℕ → Bool) (xs : List ℕ) → position p xs ≡ None → slice_split p xs ≡ xs ∷ []
split_nowhere p xs e =
    let far = none_before (position_or_len p xs) (length xs) e in
    slice_split_none p xs (λ k d l. fails_before_first p xs k d (omega arith))

pub ruleset cuts = (split_at_position, split_nowhere)
