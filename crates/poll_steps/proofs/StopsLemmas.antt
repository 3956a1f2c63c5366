-- Steps that stop before the first fact of another kind, and what follows them, which never begins
-- with one of
-- theirs.
use Rattle.std.proofs.Common.{◌≡◌, ◌+◌, ◌-◌, ℕ, zero, suc, Bool, true, false, Option, Some, None}
use Rattle.std.proofs.Common.{List, [], ◌∷◌, ◌++◌}
use Rattle.std.proofs.Common.{length, take, drop, refl, sym, ap, ap₂, ◌∙◌, subst, append_assoc}
use Rattle.std.proofs.Common.{true≢false}
use Rattle.std.proofs.lemmas.List.{take-append-drop}
use Rattle.rpc_base.specs.declared.event.Event.{Event}
use Rattle.rpc_base.specs.declared.fact.Fact.{Fact}
use Rattle.rpc_laws.specs.declared.tables.Timed.{Timed}
use Rattle.rpc_laws.specs.Steps.{Chain, Rel, Then}
use Rattle.front_laws.specs.Laws.{Same}
use Rattle.front_laws.proofs.OneWayLemmas.{back-same, chain-counted, Counted, none-one, OneWay}
use Rattle.poll_steps.specs.Steps.{AreSteps, begins_with, EndsAt, IsStep, Stops}
use Rattle.poll_steps.proofs.ChainLemmas.{take-plus, within-plus}
use Rattle.poll_steps.proofs.StepLemmas.{from-rest}

-- each such step begins with an event of this kind
abbrev pub BeginsWith : (Event → Bool) → Rel → Type 0
BeginsWith test P = (s : Timed) (x : List Fact) (t : Timed) → P s x t → begins_with test x ≡ true

-- whatever is behind it such a step begins with no event of this kind
abbrev pub BeginsOther : (Event → Bool) → Rel → Type 0
BeginsOther test Q =
    (s : Timed) (x rest : List Fact) (t : Timed) → Q s x t → begins_with test (x ++ rest) ≡ false

begins-front : (test : Event → Bool) (x y : List Fact) → begins_with test x ≡ true
    → begins_with test (x ++ y) ≡ true
begins-front test [] y e = cc
begins-front test (f ∷ x) y e = e

-- no step is there where the facts are of another kind
no-step : (test : Event → Bool) (a b c d : List Fact) → begins_with test a ≡ false
    → begins_with test b ≡ true
    → a ≡ (b ++ c) ++ d → ⊥
no-step test a b c d e f same =
    let whole : a ≡ b ++ (c ++ d) = same ∙ append_assoc b c d in
    true≢false (sym (begins-front test b (c ++ d) f) ∙ (sym (ap (begins_with test) whole) ∙ e))

-- so many steps that stop there: they end at one place
counted-same : (test : Event → Bool) (P : Rel) → OneWay P → BeginsWith test P
    → (i j : ℕ) (s : Timed)
    (x y a b : List Fact) (t u : Timed) → Counted P i s x t → Counted P j s y u
    → begins_with test a ≡ false → begins_with test b ≡ false → x ++ a ≡ y ++ b → Same x y t u
counted-same test P one begins zero zero s x y a b t u h k m n e = none-one s x y t u h k
counted-same test P one begins zero (suc j) s x y a b t u h k m n e =
    let whole : a ≡ (k.front ++ k.back) ++ b =
    ap (λ (z : List Fact). z ++ a) (sym h.0) ∙ (e ∙ ap (λ (z : List Fact). z ++ b) k.joined) in
    absurd (no-step test a k.front k.back b m (begins s k.front k.between k.first) whole)
counted-same test P one begins (suc i) zero s x y a b t u h k m n e =
    let whole : b ≡ (h.front ++ h.back) ++ a =
    ap (λ (z : List Fact). z ++ b) (sym k.0) ∙ (sym e ∙ ap (λ (z : List Fact). z ++ a) h.joined) in
    absurd (no-step test b h.front h.back a n (begins s h.front h.between h.first) whole)
counted-same test P one begins (suc i) (suc j) s x y a b t u h k m n e =
    let left : x ++ a ≡ h.front ++ (h.back ++ a) =
    ap (λ (z : List Fact). z ++ a) h.joined ∙ append_assoc h.front h.back a in
    let right : y ++ b ≡ k.front ++ (k.back ++ b) =
    ap (λ (z : List Fact). z ++ b) k.joined ∙ append_assoc k.front k.back b in
    let whole : h.front ++ (h.back ++ a) ≡ k.front ++ (k.back ++ b) = sym left ∙ (e ∙ right) in
    let first : Same h.front k.front h.between k.between =
    one s h.front k.front (h.back ++ a) (k.back ++ b) h.between k.between h.first k.first whole in
    let moved : Counted P j h.between k.back u =
    subst (λ (z : Timed). Counted P j z k.back u) (sym first.left) k.second in
    let rest : h.back ++ a ≡ k.back ++ b =
    back-same h.front k.front (h.back ++ a) (k.back ++ b) first.facts whole in
    let last : Same h.back k.back t u =
    counted-same test P one begins i j h.between h.back k.back a b t u h.second moved m n rest in
    record {
      facts = h.joined ∙ (ap₂ (λ (c d : List Fact). c ++ d) first.facts last.facts ∙ sym k.joined);
      left = last.left;
    }

-- what is told of such steps, up to where they stop
module _ (test : Event → Bool) (P Q : Rel) where
  parted-so : (facts x rest : List Fact) (s u : Timed) → facts ≡ x ++ rest
      → (h : Then (Chain P) Q s x u)
      → facts ≡ h.front ++ (h.back ++ rest)
  parted-so facts x rest s u e h =
      e ∙ (ap (λ (z : List Fact). z ++ rest) h.joined ∙ append_assoc h.front h.back rest)

  -- where what follows begins is where they stop
  ends-before : BeginsOther test Q → (s : Timed) (facts x rest : List Fact) (u : Timed)
      → facts ≡ x ++ rest
      → (h : Then (Chain P) Q s x u) → EndsAt P (Stops test) s facts h.front h.between
  ends-before other s facts x rest u e h = record {
    rest = h.back ++ rest;
    parted = parted-so facts x rest s u e h;
    steps = h.first;
    over = other h.between h.back rest u h.second;
  }

  -- they are none
  pub stops-unbegun : BeginsOther test Q → (s : Timed) (facts : List Fact) (t v : Timed)
      (o : Option ℕ)
      → AreSteps P (Stops test) s facts t o → o ≡ None → IsStep (Then (Chain P) Q) s facts v None
  stops-unbegun other s facts t v o h e = record {
    some = tt;
    only = λ no x u begins k.
        h.only (rw e refl) k.front k.between (ends-before other s facts x begins.rest u
        begins.parted k);
  }

  -- what follows is none
  pub stops-lost : OneWay P → BeginsWith test P → BeginsOther test Q
      → (s : Timed) (facts : List Fact) (n : ℕ)
      (t u v : Timed) (o a : Option ℕ) → AreSteps P (Stops test) s facts t o → o ≡ Some n
      → IsStep Q t (take (length facts - n) (drop n facts)) u a → a ≡ None
      → IsStep (Then (Chain P) Q) s facts v None
  stops-lost one begin other s facts n t u v o a h e k f =
      let told : AreSteps P (Stops test) s facts t (Some n) =
      subst (λ (z : Option ℕ). AreSteps P (Stops test) s facts t z) e h in
      let stuck : IsStep Q t (drop n facts) u None = from-rest Q facts n t u a None k f in
      let found : EndsAt P (Stops test) s facts (take n facts) t = told.some.1 in
      record {
        some = tt;
        only = λ no x w begins z.
            let parted : facts ≡ z.front ++ (z.back ++ begins.rest) =
            parted-so facts x begins.rest s w begins.parted z in
            let c = chain-counted P s z.first in
            let d = chain-counted P s found.steps in
            let same : Same z.front (take n facts) z.between t =
            counted-same test P one begin c.0 d.0 s z.front (take n facts)
            (z.back ++ begins.rest) found.rest
            z.between t c.1 d.1 (other z.between z.back begins.rest w z.second) found.over
            (sym parted ∙ found.parted) in
            let both : z.front ++ (z.back ++ begins.rest) ≡ take n facts ++ drop n facts =
            sym parted ∙ sym (take-append-drop n facts) in
            stuck.only refl z.back w
            (record {
              rest = begins.rest;
              parted =
                  sym (back-same z.front (take n facts) (z.back ++ begins.rest) (drop n facts)
                  same.facts both);
            })
            (subst (λ (y : Timed). Q y z.back w) same.left z.second);
      }

  -- both are found
  pub stops-found : (s : Timed) (facts : List Fact) (n m : ℕ) (t u : Timed) (o a : Option ℕ)
      → AreSteps P (Stops test) s facts t o → o ≡ Some n
      → IsStep Q t (take (length facts - n) (drop n facts)) u a → a ≡ Some m
      → IsStep (Then (Chain P) Q) s facts u (Some (n + m))
  stops-found s facts n m t u o a h e k f =
      let told : AreSteps P (Stops test) s facts t (Some n) =
      subst (λ (z : Option ℕ). AreSteps P (Stops test) s facts t z) e h in
      let next : IsStep Q t (drop n facts) u (Some m) = from-rest Q facts n t u a (Some m) k f in
      record {
        some = (
          within-plus n m facts told.some.0 next.some.0,
          record {
            between = t;
            front = take n facts;
            back = take m (drop n facts);
            joined = take-plus n m facts;
            first = told.some.1.steps;
            second = next.some.1;
          },
        );
        only = λ no. cc;
      }
