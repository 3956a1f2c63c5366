-- The places of a call, which no other call names.
use Rattle.std.proofs.Common.{◌≡◌, ◌≢◌, ℕ, ◌+◌, ◌≤◌, Bool, true, false, cond, Some, List, [], ◌∷◌}
use Rattle.std.proofs.Common.{refl, sym, ap, arith, eqb}
use Rattle.std.specs.Prelude.{map}
use Rattle.std.specs.List.{AllByRecursion, find}
use Rattle.std.proofs.lemmas.Bool.{eq-eqb}
use Rattle.rpc_base.specs.Tables.{at_first, without_first}
use Rattle.client_core.specs.declared.call.ActiveCall.{ActiveCall}
use Rattle.client_core.specs.KeepsPool.{names}
use Rattle.rpc_base.proofs.ChangedLemmas.{sum-without}
use Rattle.client_core.proofs.PoolLemmas.{names-cons}
use Rattle.buffer_pool.proofs.PlacesLemmas.{unnamed-cases}

-- how often a call names a place
abbrev pub own_names : ℕ → ActiveCall → ℕ
own_names p c = cond (eqb c.ask p) 1 0 + cond (eqb c.answer p) 1 0

pub names-ask : (c : ActiveCall) → 1 ≤ own_names c.ask c
names-ask c = omega (arith, ap (λ b. cond {A = ℕ} b 1 0) (eq-eqb c.ask c.ask refl))

pub names-answer : (c : ActiveCall) → 1 ≤ own_names c.answer c
names-answer c = omega (arith, ap (λ b. cond {A = ℕ} b 1 0) (eq-eqb c.answer c.answer refl))

-- a call with one place for both names it twice
pub ask-answer : (c : ActiveCall) (n : ℕ) → own_names c.ask c ≤ n → n ≤ 1 → c.ask ≢ c.answer
ask-answer c n few most = λ same.
    let first = ap (λ b. cond {A = ℕ} b 1 0) (eq-eqb c.ask c.ask refl) in
    let second = ap (λ b. cond {A = ℕ} b 1 0) (eq-eqb c.answer c.ask (sym same)) in
    absurd (omega (arith, first, second, few, most))

module _ (p : ℕ) where
  -- a call that doesn't name the place
  unnamed-one : (x : ActiveCall) → own_names p x ≡ 0 → (x.ask ≢ p) × (x.answer ≢ p)
  unnamed-one x e =
      (unnamed-cases x.ask p _ refl (omega (arith, e)), unnamed-cases x.answer p _ refl (omega (arith, e)))

  names-found : (test : ActiveCall → Bool) (c : ActiveCall) (cs : List ActiveCall)
      → find test cs ≡ Some c → own_names p c ≤ names p cs
  names-found test c cs e =
      omega (
        arith,
        sum-without test c (λ x. cond (eqb x.ask p) 1 0 + cond (eqb x.answer p) 1 0) cs
            e,
      )

  -- none of the others names it, where the call is taken out
  pub names-without : (test : ActiveCall → Bool) (c : ActiveCall) (cs : List ActiveCall)
      → find test cs ≡ Some c → 1 ≤ own_names p c → names p cs ≤ 1
      → names p (without_first test cs) ≡ 0
  names-without test c cs e own few =
      omega (
        arith,
        sum-without test c (λ x. cond (eqb x.ask p) 1 0 + cond (eqb x.answer p) 1 0) cs
            e,
        own,
        few,
      )

  module _ (P Q : ActiveCall → Type 0) (step : (x : ActiveCall) → x.ask ≢ p → x.answer ≢ p → P x → Q x) where
    pub unnamed-all : (cs : List ActiveCall) → names p cs ≡ 0 → AllByRecursion P cs → AllByRecursion Q cs
    unnamed-all [] e all = tt
    unnamed-all (c ∷ cs) e all =
        let sum = names-cons p c cs in
        let apart = unnamed-one c (omega (arith, sum, e)) in
        (step c apart.0 apart.1 all.0, unnamed-all cs (omega (arith, sum, e)) all.1)

    -- the call that is found is changed, and none of the others names the place
    module _ (test : ActiveCall → Bool) (f : ActiveCall → ActiveCall) (c : ActiveCall)
        (own : 1 ≤ own_names p c) (new : Q (f c)) where
      others-cons : (y : ActiveCall) (ys : List ActiveCall) (b : Bool) → names p (y ∷ ys) ≤ 1 → P y
          → AllByRecursion P ys
          → (names p ys ≤ 1 → find test ys ≡ Some c → AllByRecursion Q (at_first test f ys))
          → cond b (Some y) (find test ys) ≡ Some c
          → AllByRecursion Q (cond b (f y ∷ ys) (y ∷ at_first test f ys))
      others-cons y ys true few here rest ih e =
          let same : y ≡ c = cc in
          let mine : own_names p y ≡ own_names p c = ap (λ x. own_names p x) same in
          rw same (new, unnamed-all ys (omega (arith, names-cons p y ys, mine, own, few)) rest)
      others-cons y ys false few here rest ih e =
          let sum = names-cons p y ys in
          let some = names-found test c ys e in
          let apart = unnamed-one y (omega (arith, sum, some, own, few)) in
          (step y apart.0 apart.1 here, ih (omega (arith, sum, few)) e)

      pub others-all : (cs : List ActiveCall) → names p cs ≤ 1 → AllByRecursion P cs
          → find test cs ≡ Some c → AllByRecursion Q (at_first test f cs)
      others-all [] few all e = cc
      others-all (y ∷ ys) few all e =
          others-cons y ys (test y) few all.0 all.1 (λ less g. others-all ys less all.1 g) e

  -- what is shown of the calls
  module _ {B : Type 0} (g h : ActiveCall → B) (same : (x : ActiveCall) → x.ask ≢ p → x.answer ≢ p → h x ≡ g x) where
    pub unnamed-map : (cs : List ActiveCall) → names p cs ≡ 0 → map h cs ≡ map g cs
    unnamed-map [] e = refl
    unnamed-map (c ∷ cs) e =
        let sum = names-cons p c cs in
        let apart = unnamed-one c (omega (arith, sum, e)) in
        rw (same c apart.0 apart.1, unnamed-map cs (omega (arith, sum, e))) refl

    module _ (test : ActiveCall → Bool) (t : B → Bool) (f : ActiveCall → ActiveCall)
        (change : B → B) (c : ActiveCall) (tests : (x : ActiveCall) → t (g x) ≡ test x)
        (own : 1 ≤ own_names p c) (new : h (f c) ≡ change (g c)) where
      shown-cons : (y : ActiveCall) (ys : List ActiveCall) (b : Bool) → names p (y ∷ ys) ≤ 1
          → (names p ys ≤ 1 → find test ys ≡ Some c
          → map h (at_first test f ys) ≡ at_first t change (map g ys))
          → cond b (Some y) (find test ys) ≡ Some c
          → map h (cond b (f y ∷ ys) (y ∷ at_first test f ys))
          ≡ cond b (change (g y) ∷ map g ys) (g y ∷ at_first t change (map g ys))
      shown-cons y ys true few ih e =
          let is : y ≡ c = cc in
          let mine : own_names p y ≡ own_names p c = ap (λ x. own_names p x) is in
          let rest = unnamed-map ys (omega (arith, names-cons p y ys, mine, own, few)) in
          rw (is, new, rest) refl
      shown-cons y ys false few ih e =
          let sum = names-cons p y ys in
          let some = names-found test c ys e in
          let apart = unnamed-one y (omega (arith, sum, some, own, few)) in
          rw (same y apart.0 apart.1, ih (omega (arith, sum, few)) e) refl

      pub shown-changed : (cs : List ActiveCall) → names p cs ≤ 1 → find test cs ≡ Some c
          → map h (at_first test f cs) ≡ at_first t change (map g cs)
      shown-changed [] few e = cc
      shown-changed (y ∷ ys) few e =
          rw (tests y) (shown-cons y ys (test y) few (λ less d. shown-changed ys less d) e)

-- a call that is found has two places
pub two-places : (test : ActiveCall → Bool) (c : ActiveCall) (cs : List ActiveCall)
    → find test cs ≡ Some c → names c.ask cs ≤ 1 → c.ask ≢ c.answer
two-places test c cs e few = ask-answer c (names c.ask cs) (names-found c.ask test c cs e) few

-- a call is taken out of what is shown as it is taken out
module _ {B : Type 0} (g : ActiveCall → B) (test : ActiveCall → Bool) (t : B → Bool)
    (tests : (x : ActiveCall) → t (g x) ≡ test x) where
  gone-cons : (y : ActiveCall) (ys : List ActiveCall) (b : Bool)
      → map g (without_first test ys) ≡ without_first t (map g ys)
      → map g (cond b ys (y ∷ without_first test ys))
      ≡ cond b (map g ys) (g y ∷ without_first t (map g ys))
  gone-cons y ys true ih = refl
  gone-cons y ys false ih = ap (λ zs. g y ∷ zs) ih

  pub map-without : (cs : List ActiveCall) → map g (without_first test cs) ≡ without_first t (map g cs)
  map-without [] = refl
  map-without (y ∷ ys) = rw (tests y) (gone-cons y ys (test y) (map-without ys))
