-- The jobs that were worked, a fact later.
use Rattle.std.proofs.Common.{◌≡◌, ℕ, ◌+◌, ◌≤◌, ◌==◌, ◌||◌, ◌&&◌, not, Bool, true, false, cond, List, [], ◌∷◌, ◌++◌}
use Rattle.std.proofs.Common.{refl, sym, ap, ◌∙◌, arith, eq-eqb}
use Rattle.std.specs.Prelude.{◌↔◌, count_by}
use Rattle.std.specs.List.{list_any}
use Rattle.std.proofs.lemmas.Bool.{and_parts, eqb-true}
use Rattle.std.proofs.lemmas.List.Folds.{list_any-append}
use Rattle.std.proofs.lemmas.List.Sums.{sum_by-cons}
use Rattle.end_laws.proofs.CountLemmas.{count-append}
use Rattle.rpc_base.proofs.BasicLemmas.{not-true, or-false}
use Rattle.rpc_base.specs.declared.event.Event.{Event}
use Rattle.rpc_base.specs.declared.event.Event.TheVariants.{Worked}
use Rattle.rpc_base.specs.declared.fact.Fact.{Fact}
use Rattle.rpc_laws.specs.AtMostOnce.{works_request}
use Rattle.node_audit.specs.Worked.{AreWorked, has_job, is_new, WorkedOnce}

-- none passes a test where none is counted
module _ {A : Type 0} (p : A → Bool) where
  count-cons : (x : A) (xs : List A) → count_by p (x ∷ xs) ≡ cond (p x) 1 0 + count_by p xs
  count-cons x xs = sum_by-cons (λ y. cond (p y) 1 0) x xs

  pub none-zero : (xs : List A) → list_any p xs ≡ false → count_by p xs ≡ 0
  none-zero [] e = refl
  none-zero (x ∷ xs) e =
      let parts = or-false (p x) (list_any p xs) e in
      let cons = count-cons x xs in
      let head : cond {A = ℕ} (p x) 1 0 ≡ 0 = ap (λ (b : Bool). cond {A = ℕ} b 1 0) parts.0 in
      let rest = none-zero xs parts.1 in
      omega arith

  pub zero-none : (xs : List A) → count_by p xs ≡ 0 → list_any p xs ≡ false
  zero-none [] e = refl
  zero-none (x ∷ xs) e = by (p x) refl (zero-none xs)
    where
      by : (b : Bool) → p x ≡ b → (count_by p xs ≡ 0 → list_any p xs ≡ false) → list_any p (x ∷ xs) ≡ false
      by true is rest =
          let cons = count-cons x xs in
          let head : cond {A = ℕ} (p x) 1 0 ≡ 1 = ap (λ (b : Bool). cond {A = ℕ} b 1 0) is in
          absurd (omega arith)
      by false is rest =
          let cons = count-cons x xs in
          let head : cond {A = ℕ} (p x) 1 0 ≡ 0 = ap (λ (b : Bool). cond {A = ℕ} b 1 0) is in
          let none : count_by p xs ≡ 0 = omega arith in
          ap (λ (b : Bool). b || list_any p xs) is ∙ rest none

  pub count-next : (xs : List A) (x : A) → count_by p (xs ++ x ∷ []) ≡ count_by p xs + cond (p x) 1 0
  count-next xs x =
      let all = count-append p xs (x ∷ []) in
      let cons = count-cons x [] in
      let none : count_by p [] ≡ 0 = refl in
      omega arith

  pub any-next : (xs : List A) (x : A) → list_any p (xs ++ x ∷ []) ≡ (p x || list_any p xs)
  any-next xs x = list_any-append p xs (x ∷ []) ∙ by (list_any p xs) (p x)
    where
      by : (a b : Bool) → (a || (b || false)) ≡ (b || a)
      by true true = refl
      by true false = refl
      by false true = refl
      by false false = refl

-- which job an event works
new-is : (jobs : List (ℕ × ℕ)) (e : Event) (t r : ℕ) → works_request t r e ≡ true → is_new jobs e ≡ true
    → has_job t r jobs ≡ false
new-is jobs (Worked s q) t r w e =
    let parts = and_parts (s == t) (q == r) w in
    rw (← (eqb-true s t parts.0), ← (eqb-true q r parts.1)) (not-true (has_job s q jobs) e)
new-is jobs _ t r w e = cc

module _ (jobs : List (ℕ × ℕ)) (g : List Fact) (f : Fact) (a : AreWorked jobs g) where
  worked-so : (t r : ℕ) → count_by (λ (x : Fact). works_request t r x.event) g ≤ 1 → is_new jobs f.event ≡ true
      → count_by (λ (x : Fact). works_request t r x.event) (g ++ f ∷ []) ≤ 1
  worked-so t r few e = by (works_request t r f.event) refl
    where
      by : (b : Bool) → works_request t r f.event ≡ b
          → count_by (λ (x : Fact). works_request t r x.event) (g ++ f ∷ []) ≤ 1
      by true is =
          let none = none-zero (λ (x : Fact). works_request t r x.event) g
          (sym (a t r) ∙ new-is jobs f.event t r is e) in
          let all = count-next (λ (x : Fact). works_request t r x.event) g f in
          let one : cond {A = ℕ} (works_request t r f.event) 1 0 ≡ 1 = ap (λ (b : Bool). cond {A = ℕ} b 1 0) is in
          omega arith
      by false is =
          let all = count-next (λ (x : Fact). works_request t r x.event) g f in
          let one : cond {A = ℕ} (works_request t r f.event) 1 0 ≡ 0 = ap (λ (b : Bool). cond {A = ℕ} b 1 0) is in
          omega arith

  new-so : (e : Event) → f.event ≡ e → WorkedOnce (g ++ f ∷ []) → is_new jobs e ≡ true
  new-so (Worked t r) is once =
      let few = once t r in
      let all = count-next (λ (x : Fact). works_request t r x.event) g f in
      let same : works_request t r f.event ≡ true =
      ap (works_request t r) is ∙ rw (eq-eqb t t refl, eq-eqb r r refl) refl in
      let one : cond {A = ℕ} (works_request t r f.event) 1 0 ≡ 1 = ap (λ (b : Bool). cond {A = ℕ} b 1 0) same in
      let none : count_by (λ (x : Fact). works_request t r x.event) g ≡ 0 = omega arith in
      ap not (a t r ∙ zero-none (λ (x : Fact). works_request t r x.event) g none)
  new-so _ is once = refl

  pub worked-next : WorkedOnce g → (is_new jobs f.event ≡ true) ↔ WorkedOnce (g ++ f ∷ [])
  worked-next once = (λ e t r. worked-so t r (once t r) e, λ w. new-so f.event refl w)

  -- the jobs that were worked then
  pub jobs-more : (s q : ℕ) (new : List (ℕ × ℕ)) → f.event ≡ Worked s q
      → ((t r : ℕ) → has_job t r new ≡ cond (s == t && q == r) true (has_job t r jobs))
      → AreWorked new (g ++ f ∷ [])
  jobs-more s q new is more t r =
      more t r ∙ by (s == t && q == r) (has_job t r jobs)
      ∙ ap (λ (b : Bool). (s == t && q == r) || b) (a t r)
      ∙ ap (λ (e : Event). works_request t r e || list_any (λ (x : Fact). works_request t r x.event) g) (sym is)
      ∙ sym (any-next (λ (x : Fact). works_request t r x.event) g f)
    where
      by : (a b : Bool) → cond a true b ≡ (a || b)
      by true b = refl
      by false b = refl
