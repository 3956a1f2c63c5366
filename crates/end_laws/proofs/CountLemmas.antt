-- How many elements of a list pass a test.
use Rattle.std.proofs.Common.{◌≡◌, ◌+◌, Bool, true, false, cond, List, [], ◌∷◌, ◌++◌, Some, refl}
use Rattle.std.proofs.Common.{sym, ◌∙◌, arith}
use Rattle.std.specs.Prelude.{count_by, option_to_list}
use Rattle.std.specs.List.{find, AllByRecursion}
use Rattle.std.proofs.lemmas.List.Sums.{sum_by-cons, sum_by-append}
use Rattle.rpc_base.specs.Tables.{without_first}

module _ {A : Type 0} (p : A → Bool) where
  pub count-append : (xs ys : List A) → count_by p (xs ++ ys) ≡ count_by p xs + count_by p ys
  count-append xs ys = sum_by-append (λ x. cond (p x) 1 0) xs ys

  count-cons : (x : A) (xs : List A) → count_by p (x ∷ xs) ≡ cond (p x) 1 0 + count_by p xs
  count-cons x xs = sum_by-cons (λ x. cond (p x) 1 0) x xs

  pub count-one : (x : A) (b : Bool) → p x ≡ b → count_by p (x ∷ []) ≡ cond b 1 0
  count-one x b t = rw t (omega arith)

  out-cons : (q : A → Bool) (x : A) (xs : List A) (b : Bool)
      → count_by p (without_first q xs) + count_by p (option_to_list (find q xs)) ≡ count_by p xs
      → count_by p (cond b xs (x ∷ without_first q xs))
      + count_by p (option_to_list (cond b (Some x) (find q xs))) ≡ count_by p (x ∷ xs)
  out-cons q x xs true ih =
      let whole = count-cons x xs in
      let one = count-cons x [] in
      omega arith
  out-cons q x xs false ih =
      let whole = count-cons x xs in
      let rest = count-cons x (without_first q xs) in
      omega arith

  -- what is taken out, and the rest
  pub count-out : (q : A → Bool) (xs : List A)
      → count_by p (without_first q xs) + count_by p (option_to_list (find q xs)) ≡ count_by p xs
  count-out q [] = refl
  count-out q (x ∷ xs) = out-cons q x xs (q x) (count-out q xs)

  none-cons : (x : A) (xs : List A) (b : Bool) → p x ≡ b → cond b 1 0 + count_by p xs ≡ 0
      → (p x ≡ false) × (count_by p xs ≡ 0)
  none-cons x xs true t h = absurd (omega arith)
  none-cons x xs false t h = (t, omega arith)

  -- where none is counted none passes
  pub count-none : (xs : List A) → count_by p xs ≡ 0 → AllByRecursion (λ x. p x ≡ false) xs
  count-none [] h = tt
  count-none (x ∷ xs) h = let n = none-cons x xs (p x) refl (sym (count-cons x xs) ∙ h) in (n.0, count-none xs n.1)
