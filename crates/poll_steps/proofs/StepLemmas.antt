-- Steps that a rule tells, steps that follow one another, and steps until it is over, where the
-- answer of each is told of the facts that are left.
use Rattle.std.proofs.Common.{◌≡◌, ◌<◌, ◌≤◌, ◌+◌, ◌-◌, ℕ, zero, suc, Option, Some, None, List, []}
use Rattle.std.proofs.Common.{◌∷◌, length}
use Rattle.std.proofs.Common.{take, drop, min, slice_get, refl, ap, ◌∙◌, subst, arith}
use Rattle.std.proofs.lemmas.List.{length-drop, take_min}
use Rattle.rpc_base.specs.declared.fact.Fact.{Fact}
use Rattle.rpc_laws.specs.declared.tables.Lists.{Lists}
use Rattle.rpc_laws.specs.declared.tables.Timed.{Timed}
use Rattle.rpc_laws.specs.NodeLists.{after, after_all}
use Rattle.rpc_laws.specs.Steps.{Rel, Then, Until}
use Rattle.front_laws.proofs.OneWayLemmas.{Ends, OneWay}
use Rattle.node_rules.specs.SingleFacts.{at_clock}
use Rattle.poll_steps.specs.Steps.{AreSteps, IsStep}
use Rattle.poll_steps.proofs.ChainLemmas.{Leads, leads-more, leads-none, leads-over, leads-stuck}
use Rattle.poll_steps.proofs.PostLemmas.{drop-at, rest-from, then-first, then-none, then-some}

-- the step of which a rule told the facts, of no more facts than there are
pub step-told : (P : Rel) (clock : ℕ) (s new : Lists) (facts : List Fact) (n m : ℕ)
    → P (at_clock clock s) (take n facts) (at_clock clock (after_all clock s (take n facts)))
    → m ≡ min n (length facts) → new ≡ after_all clock s (take n facts)
    → IsStep P (at_clock clock s) facts (at_clock clock new) (Some m)
step-told P clock s new facts n m h e is =
    let same : take m facts ≡ take n facts = ap (λ (k : ℕ). take k facts) e ∙ take_min n facts in
    record { some = (omega (arith, e), rw (same, is) h); only = λ no. cc }

-- a step of one fact
pub step-first : (P : Rel) (clock : ℕ) (s new : Lists) (facts : List Fact) (f : Fact)
    → slice_get facts 0 ≡ Some f
    → P (at_clock clock s) (f ∷ []) (at_clock clock (after clock s f)) → new ≡ after clock s f
    → IsStep P (at_clock clock s) facts (at_clock clock new) (Some 1)
step-first P clock s new facts f at h is =
    let found : facts ≡ f ∷ drop 1 facts = drop-at facts 0 f at in
    let one : take 1 facts ≡ f ∷ [] = ap (take 1) found in
    let long : length facts ≡ suc (length (drop 1 facts)) = ap length found in
    record { some = (omega (arith, long), rw (one, is) h); only = λ no. cc }

-- what is told of a slice of the facts, from a place on
pub from-rest : (P : Rel) (facts : List Fact) (n : ℕ) (t u : Timed) (o a : Option ℕ)
    → IsStep P t (take (length facts - n) (drop n facts)) u o → o ≡ a
    → IsStep P t (drop n facts) u a
from-rest P facts n t u o a h e =
    subst (λ (z : Option ℕ). IsStep P t (drop n facts) u z) e
    (subst (λ (z : List Fact). IsStep P t z u o) (rest-from facts n) h)

-- both steps are found
pub then-found : (P Q : Rel) (s : Timed) (facts : List Fact) (n m : ℕ) (t u : Timed)
    (o a : Option ℕ)
    → IsStep P s facts t o → o ≡ Some n → IsStep Q t (take (length facts - n) (drop n facts)) u a
    → a ≡ Some m
    → IsStep (Then P Q) s facts u (Some (n + m))
then-found P Q s facts n m t u o a h e k f =
    then-some P Q s facts n m t u (subst (λ (z : Option ℕ). IsStep P s facts t z) e h)
    (from-rest Q facts n t u a (Some m) k f)

-- the second is none
pub then-lost : (P Q : Rel) → OneWay P → (s : Timed) (facts : List Fact) (n : ℕ) (t u v : Timed)
    (o a : Option ℕ)
    → IsStep P s facts t o → o ≡ Some n → IsStep Q t (take (length facts - n) (drop n facts)) u a
    → a ≡ None
    → IsStep (Then P Q) s facts v None
then-lost P Q one s facts n t u v o a h e k f =
    then-none P Q one s facts n t u v (subst (λ (z : Option ℕ). IsStep P s facts t z) e h)
    (from-rest Q facts n t u a None k f)

-- the first is
pub then-unbegun : (P Q : Rel) (s : Timed) (facts : List Fact) (t v : Timed) (o : Option ℕ)
    → IsStep P s facts t o
    → o ≡ None → IsStep (Then P Q) s facts v None
then-unbegun P Q s facts t v o h e =
    then-first P Q s facts t v (subst (λ (z : Option ℕ). IsStep P s facts t z) e h)

-- steps that end by the node alone, whatever facts are behind them
abbrev pub Anyhow : (Timed → Type 0) → Timed → List Fact → Type 0
Anyhow Over t rest = Over t

pub until-start : (P : Rel) (Over : Timed → Type 0) (s : Timed) (facts : List Fact)
    → Leads P (Anyhow Over) s facts 0 s
until-start P Over s facts = leads-none P (Anyhow Over) s facts

-- one step more
pub until-more : (P : Rel) (Over : Timed → Type 0) → OneWay P → Ends P Over
    → (s : Timed) (facts : List Fact)
    (n m : ℕ) (t u : Timed) (o : Option ℕ) → Leads P (Anyhow Over) s facts n t
    → IsStep P t (take (length facts - n) (drop n facts)) u o → o ≡ Some m
    → Leads P (Anyhow Over) s facts (n + m) u
until-more P Over one ends s facts n m t u o h k e =
    let step : IsStep P t (drop n facts) u (Some m) = from-rest P facts n t u o (Some m) k e in
    leads-more P (Anyhow Over) one s facts n m t u h step.some.0 step.some.1
    (λ over. ends t (take m (drop n facts)) u over step.some.1)

-- a chain up to where it is over is all of it
until-step : (P : Rel) (Over : Timed → Type 0) (s : Timed) (facts : List Fact) (t : Timed)
    (answer : Option ℕ)
    → AreSteps P (Anyhow Over) s facts t answer → IsStep (Until P Over) s facts t answer
until-step P Over s facts t (Some n) h = record {
  some = (h.some.0, record { steps = h.some.1.steps; over = h.some.1.over });
  only = λ no. cc;
}
until-step P Over s facts t None h = record {
  some = tt;
  only = λ no x u begins k.
      h.only no x u
      (record { rest = begins.rest; parted = begins.parted; steps = k.steps; over = k.over });
}

pub until-over : (P : Rel) (Over : Timed → Type 0) (s : Timed) (facts : List Fact) (n : ℕ)
    (t : Timed)
    → Leads P (Anyhow Over) s facts n t → Over t → IsStep (Until P Over) s facts t (Some n)
until-over P Over s facts n t h over =
    until-step P Over s facts t (Some n) (leads-over P (Anyhow Over) s facts n t h over)

-- it isn't over, and no front of what is left is a step
pub until-lost : (P : Rel) (Over : Timed → Type 0) (s : Timed) (facts : List Fact) (n : ℕ)
    (t u v : Timed)
    (o : Option ℕ) → Leads P (Anyhow Over) s facts n t → (Over t → ⊥)
    → IsStep P t (take (length facts - n) (drop n facts)) u o → o ≡ None
    → IsStep (Until P Over) s facts v None
until-lost P Over s facts n t u v o h on k e =
    until-step P Over s facts v None
    (leads-stuck P (Anyhow Over) s facts n t v h on
    ((from-rest P facts n t u o None k e).only refl))

-- each of these steps notes something
abbrev pub NotesSome : Rel → Type 0
NotesSome P = (s : Timed) (x : List Fact) (t : Timed) → P s x t → x ≡ [] → ⊥

-- so one that was found takes facts, and fewer are left
pub some-taken : (P : Rel) → NotesSome P → (s : Timed) (facts : List Fact) (t : Timed) (n : ℕ)
    → P s (take n facts) t → 0 < n
some-taken P notes s facts t zero h = absurd (notes s (take 0 facts) t h refl)
some-taken P notes s facts t (suc n) h = omega arith

pub step-shorter : (P : Rel) → NotesSome P
    → (facts : List Fact) (n m : ℕ) (t u : Timed) (o : Option ℕ)
    → n ≤ length facts → IsStep P t (take (length facts - n) (drop n facts)) u o → o ≡ Some m
    → length facts - (n + m) < length facts - n
step-shorter P notes facts n m t u o le h e =
    let step : IsStep P t (drop n facts) u (Some m) = from-rest P facts n t u o (Some m) h e in
    let some : 0 < m = some-taken P notes t (drop n facts) u m step.some.1 in
    let within : m ≤ length (drop n facts) = step.some.0 in
    let long : length (drop n facts) ≡ length facts - n = length-drop n facts in
    omega (arith, le, some, within, long)
