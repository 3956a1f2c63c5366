-- A clock that goes on by a step.
use Rattle.std.proofs.Common.{◌≡◌, ℕ, ◌+◌, List, [], ◌∷◌, ◌++◌, length, suc, zero, refl, ap, subst, arith, ◌∙◌}
use Rattle.std.specs.Prelude.{Some, min, slice_get}
use Rattle.memory_count.specs.Faults.{end_of_count}
use Rattle.rpc_outside.specs.Ticking.{GoesBySteps, step_at}

-- what holds of each answer, and of one more, holds of each of them all
each-last : (P : ℕ → ℕ → Type 0) → (xs : List ℕ) → (x : ℕ)
    → ((i y : ℕ) → slice_get xs i ≡ Some y → P i y) → P (length xs) x
    → (i y : ℕ) → slice_get (xs ++ x ∷ []) i ≡ Some y → P i y
each-last P [] x each last zero y at = let same : x ≡ y = cc in subst (λ z. P 0 z) same last
each-last P [] x each last (suc i) y at = cc
each-last P (x₀ ∷ xs) x each last zero y at = each 0 y at
each-last P (x₀ ∷ xs) x each last (suc i) y at =
    each-last (λ j z. P (suc j) z) xs x (λ j z h. each (suc j) z h) last i y at

-- the answer after the next one
step-on : (start step n : ℕ)
    → min (step_at start step n + step) end_of_count ≡ step_at start step (suc n)
step-on start step n = omega arith

-- the next answer is given
pub goes_on : (start step next then : ℕ) (answers : List ℕ) → GoesBySteps start step next answers
    → then ≡ min (next + step) end_of_count → GoesBySteps start step then (answers ++ next ∷ [])
goes_on start step next then answers before is = record {
  each = each-last (λ i t. t ≡ step_at start step i) answers next before.each before.ahead;
  ahead = is ∙ ap (λ n. min (n + step) end_of_count) before.ahead ∙ step-on start step (length answers)
      ∙ ap (step_at start step) (length-last answers next);
}
  where
    length-last : (xs : List ℕ) (x : ℕ) → suc (length xs) ≡ length (xs ++ x ∷ [])
    length-last [] x = refl
    length-last (y ∷ xs) x = ap suc (length-last xs x)
