-- Steps that note their next event again and again, and steps that follow one another.
use Rattle.std.proofs.Common.{◌≡◌, ◌≤◌, ◌<◌, ◌+◌, ℕ, zero, suc, true, false, Option, Some, None, List, [], ◌∷◌}
use Rattle.std.proofs.Common.{◌++◌, length, take, drop, refl, sym, ap, ◌∙◌, subst, arith, append_assoc, slice_get, ◌-◌}
use Rattle.std.proofs.Math.ListN.{drop_of_length-le}
use Rattle.std.proofs.lemmas.List.{length-drop, take-append-drop}
use Rattle.rpc_base.specs.declared.event.Event.{Event}
use Rattle.rpc_base.specs.declared.fact.Fact.{Fact}
use Rattle.rpc_laws.specs.declared.tables.Lists.{Lists}
use Rattle.rpc_laws.specs.declared.tables.Timed.{Timed}
use Rattle.rpc_laws.specs.Facts.{plain}
use Rattle.rpc_laws.specs.NodeLists.{after}
use Rattle.rpc_laws.specs.PollOrder.{PostsAll, Serves}
use Rattle.rpc_laws.specs.Posting.{next_begun, next_posted}
use Rattle.rpc_laws.specs.Steps.{NotesAll, NotesNext, Rel, Then, Visits}
use Rattle.front_laws.specs.Laws.{Same}
use Rattle.front_laws.proofs.OneWayLemmas.{back-same, goes-one, next-same, notes-one, OneWay, then-one, visits-one}
use Rattle.rule_facts.specs.NextFacts.{IsNext}
use Rattle.node_rules.specs.SingleFacts.{at_clock}
use Rattle.poll_steps.specs.Steps.{AreSteps, has_next, IsStep, NoFront}
use Rattle.poll_steps.proofs.ChainLemmas.{Leads, leads-more, leads-over, leads-stuck, take-plus, within-plus}

-- the steps end where there is no next event
abbrev pub NoNext : (Lists → Option Event) → Timed → List Fact → Type 0
NoNext next t rest = next t.lists ≡ None

-- the first of the facts at a place, and those behind it
pub drop-at : (facts : List Fact) (n : ℕ) (f : Fact) → slice_get facts n ≡ Some f
    → drop n facts ≡ f ∷ drop (suc n) facts
drop-at [] n f e = cc
drop-at (g ∷ facts) zero f e = let same : g ≡ f = cc in ap (λ (z : Fact). z ∷ facts) same
drop-at (g ∷ facts) (suc n) f e = drop-at facts n f e

-- a slice from a place on
pub rest-from : (facts : List Fact) (n : ℕ) → take (length facts - n) (drop n facts) ≡ drop n facts
rest-from facts n =
    ap (λ (k : ℕ). take k (drop n facts)) (sym (length-drop n facts)) ∙ take-all (drop n facts)
  where
    take-all : (xs : List Fact) → take (length xs) xs ≡ xs
    take-all [] = refl
    take-all (x ∷ xs) = ap (λ (ys : List Fact). x ∷ ys) (take-all xs)

notes-next-one : (next : Lists → Option Event) → OneWay (NotesNext next)
notes-next-one next s x y r q t u h k e =
    goes-one s x y t u h.goes k.goes
    (h.facts ∙ (next-same s.lists.me (next s.lists) h.event k.event h.is_next k.is_next ∙ sym k.facts))

-- there is a next event
pub some-next : (o : Option Event) → has_next o ≡ true → o ≡ None → ⊥
some-next None e n = cc
some-next (Some x) e n = cc

pub no-next : (o : Option Event) → has_next o ≡ false → o ≡ None
no-next None e = refl
no-next (Some x) e = cc

is-noted : (next : Lists → Option Event) (clock : ℕ) (s : Lists) (f : Fact) (o : Option Event) → next s ≡ o
    → IsNext o s.me f → NotesNext next (at_clock clock s) (f ∷ []) (at_clock clock (after clock s f))
is-noted next clock s f None e is = absurd is
is-noted next clock s f (Some x) e is = record {
  event = x;
  is_next = e;
  facts = ap (λ (z : Fact). z ∷ []) is;
  goes = refl;
}

-- the next event was noted
pub notes-more : (next : Lists → Option Event) (s : Timed) (clock : ℕ) (facts : List Fact) (n : ℕ) (old new : Lists)
    (f : Fact) → Leads (NotesNext next) (NoNext next) s facts n (at_clock clock old) → slice_get facts n ≡ Some f
    → has_next (next old) ≡ true → IsNext (next old) old.me f → new ≡ after clock old f
    → Leads (NotesNext next) (NoNext next) s facts (n + 1) (at_clock clock new)
notes-more next s clock facts n old new f h at some is e =
    let found = drop-at facts n f at in
    let one : take 1 (drop n facts) ≡ f ∷ [] = ap (take 1) found in
    let long : length (drop n facts) ≡ suc (length (drop (suc n) facts)) = ap length found in
    let step : NotesNext next (at_clock clock old) (take 1 (drop n facts)) (at_clock clock new) =
    rw (one, e) (is-noted next clock old f (next old) refl is) in
    leads-more (NotesNext next) (NoNext next) (notes-next-one next) s facts n 1 (at_clock clock old)
    (at_clock clock new) h (omega (arith, long)) step (some-next (next old) some)

-- a chain up to there is all of it
notes-step : (next : Lists → Option Event) (s : Timed) (facts : List Fact) (t : Timed) (answer : Option ℕ)
    → AreSteps (NotesNext next) (NoNext next) s facts t answer → IsStep (NotesAll next) s facts t answer
notes-step next s facts t (Some n) h = record {
  some = (h.some.0, record { steps = h.some.1.steps; over = h.some.1.over });
  only = λ no. cc;
}
notes-step next s facts t None h = record {
  some = tt;
  only = λ no x u begins k.
      h.only no x u (record { rest = begins.rest; parted = begins.parted; steps = k.steps; over = k.over });
}

pub notes-over : (next : Lists → Option Event) (s : Timed) (facts : List Fact) (n : ℕ) (t : Timed)
    → Leads (NotesNext next) (NoNext next) s facts n t → has_next (next t.lists) ≡ false
    → IsStep (NotesAll next) s facts t (Some n)
notes-over next s facts n t h e =
    notes-step next s facts t (Some n)
    (leads-over (NotesNext next) (NoNext next) s facts n t h (no-next (next t.lists) e))

stuck-at : (next : Lists → Option Event) (s : Timed) (facts : List Fact) (n : ℕ) (t v : Timed)
    → Leads (NotesNext next) (NoNext next) s facts n t → has_next (next t.lists) ≡ true
    → NoFront (NotesNext next) t (drop n facts) → IsStep (NotesAll next) s facts v None
stuck-at next s facts n t v h some stuck =
    notes-step next s facts v None
    (leads-stuck (NotesNext next) (NoNext next) s facts n t v h (some-next (next t.lists) some) stuck)

-- no fact is left
pub notes-past : (next : Lists → Option Event) (s : Timed) (facts : List Fact) (n : ℕ) (t v : Timed)
    → Leads (NotesNext next) (NoNext next) s facts n t → has_next (next t.lists) ≡ true
    → length facts ≤ n → IsStep (NotesAll next) s facts v None
notes-past next s facts n t v h some past =
    stuck-at next s facts n t v h some
    (λ x u begins k.
    let clash : [] ≡ plain t.lists.me k.event ∷ begins.rest =
    sym (drop_of_length-le facts past) ∙ (begins.parted ∙ ap (λ (z : List Fact). z ++ begins.rest) k.facts) in
    cc)

next-is : (o : Option Event) (me : ℕ) (e : Event) (f : Fact) → o ≡ Some e → f ≡ plain me e → IsNext o me f
next-is None me e f is same = cc
next-is (Some d) me e f is same = let one : d ≡ e = cc in same ∙ ap (plain me) (sym one)

-- the fact that follows isn't the next event
pub notes-other : (next : Lists → Option Event) (s : Timed) (facts : List Fact) (n : ℕ) (t v : Timed) (f : Fact)
    → Leads (NotesNext next) (NoNext next) s facts n t → has_next (next t.lists) ≡ true
    → slice_get facts n ≡ Some f → (IsNext (next t.lists) t.lists.me f → ⊥) → IsStep (NotesAll next) s facts v None
notes-other next s facts n t v f h some at differs =
    stuck-at next s facts n t v h some
    (λ x u begins k.
    let both : f ∷ drop (suc n) facts ≡ plain t.lists.me k.event ∷ begins.rest =
    sym (drop-at facts n f at) ∙ (begins.parted ∙ ap (λ (z : List Fact). z ++ begins.rest) k.facts) in
    let same : f ≡ plain t.lists.me k.event = cc in
    differs (next-is (next t.lists) t.lists.me k.event f k.is_next same))

-- facts whose front is the first step are no front of both where what is left is none of the second
then-front : (P Q : Rel) → OneWay P → (s : Timed) (facts : List Fact) (n : ℕ) (t : Timed) → P s (take n facts) t
    → NoFront Q t (drop n facts) → NoFront (Then P Q) s facts
then-front P Q one s facts n t p stuck x u begins h =
    let whole : facts ≡ h.front ++ (h.back ++ begins.rest) =
    begins.parted ∙ (ap (λ (z : List Fact). z ++ begins.rest) h.joined
    ∙ append_assoc h.front h.back begins.rest) in
    let both : h.front ++ (h.back ++ begins.rest) ≡ take n facts ++ drop n facts =
    sym whole ∙ sym (take-append-drop n facts) in
    let same : Same h.front (take n facts) h.between t =
    one s h.front (take n facts) (h.back ++ begins.rest) (drop n facts) h.between t h.first p both in
    stuck h.back u
    (record {
      rest = begins.rest;
      parted = sym (back-same h.front (take n facts) (h.back ++ begins.rest) (drop n facts) same.facts both);
    })
    (subst (λ (z : Timed). Q z h.back u) same.left h.second)

-- the first step is none, so both are none
pub then-first : (P Q : Rel) (s : Timed) (facts : List Fact) (t v : Timed) → IsStep P s facts t None
    → IsStep (Then P Q) s facts v None
then-first P Q s facts t v h = record {
  some = tt;
  only = λ no x u begins k.
      h.only no k.front k.between
      (record {
        rest = k.back ++ begins.rest;
        parted =
            begins.parted ∙ (ap (λ (z : List Fact). z ++ begins.rest) k.joined
            ∙ append_assoc k.front k.back begins.rest);
      })
      k.first;
}

-- the second is
pub then-none : (P Q : Rel) → OneWay P → (s : Timed) (facts : List Fact) (n : ℕ) (t u v : Timed)
    → IsStep P s facts t (Some n) → IsStep Q t (drop n facts) u None → IsStep (Then P Q) s facts v None
then-none P Q one s facts n t u v h k = record {
  some = tt;
  only = λ no. then-front P Q one s facts n t h.some.1 (k.only no);
}

-- both are found
pub then-some : (P Q : Rel) (s : Timed) (facts : List Fact) (n m : ℕ) (t u : Timed)
    → IsStep P s facts t (Some n) → IsStep Q t (drop n facts) u (Some m) → IsStep (Then P Q) s facts u (Some (n + m))
then-some P Q s facts n m t u h k = record {
  some = (
    within-plus n m facts h.some.0 k.some.0,
    record {
      between = t;
      front = take n facts;
      back = take m (drop n facts);
      joined = take-plus n m facts;
      first = h.some.1;
      second = k.some.1;
    },
  );
  only = λ no. cc;
}

-- a visit that is none leaves none of those behind it
pub visits-none : (P : ℕ → Rel) (i n : ℕ) (s : Timed) (facts : List Fact) (t v : Timed) → i ≤ n
    → IsStep (Visits P i) s facts t None → IsStep (Visits P n) s facts v None
visits-none P i n s facts t v le h = record {
  some = tt;
  only = λ no. fewer (n - i) i n (omega (arith, le)) (h.only no);
}
  where
    fewer : (k i n : ℕ) → n ≡ k + i → NoFront (Visits P i) s facts → NoFront (Visits P n) s facts
    fewer zero i n e none =
        let same : i ≡ n = omega (arith, e) in subst (λ (j : ℕ). NoFront (Visits P j) s facts) same none
    fewer (suc k) i n e none =
        let same : suc (k + i) ≡ n = omega (arith, e) in
        subst (λ (j : ℕ). NoFront (Visits P j) s facts) same
        (λ x u begins h.
        fewer k i (k + i) refl none h.front h.between
        (record {
          rest = h.back ++ begins.rest;
          parted =
              begins.parted ∙ (ap (λ (z : List Fact). z ++ begins.rest) h.joined
              ∙ append_assoc h.front h.back begins.rest);
        })
        h.first)

-- no visit was made yet
pub visits-start : (P : ℕ → Rel) (s : Timed) (facts : List Fact) → IsStep (Visits P 0) s facts s (Some 0)
visits-start P s facts = record {
  some = (omega arith, (refl, refl));
  only = λ no. cc;
}

-- the next session is visited too
pub visits-more : (P : ℕ → Rel) (i : ℕ) (s : Timed) (facts : List Fact) (n m : ℕ) (t u : Timed)
    → IsStep (Visits P i) s facts t (Some n) → IsStep (P i) t (drop n facts) u (Some m)
    → IsStep (Visits P (i + 1)) s facts u (Some (n + m))
visits-more P i s facts n m t u h k =
    let next : suc i ≡ i + 1 = omega arith in
    let both = then-some (Visits P i) (P i) s facts n m t u h k in
    subst (λ (j : ℕ). IsStep (Visits P j) s facts u (Some (n + m))) next
    (record { some = (both.some.0, both.some.1); only = λ no. cc })

-- no front of what is left is the next visit, so no front is all of them
pub visits-stuck : (P : ℕ → Rel) → ((i : ℕ) → OneWay (P i)) → (i n : ℕ) (s : Timed) (facts : List Fact) (k : ℕ)
    (t u v : Timed) → i < n → IsStep (Visits P i) s facts t (Some k) → IsStep (P i) t (drop k facts) u None
    → IsStep (Visits P n) s facts v None
visits-stuck P p i n s facts k t u v less h stuck =
    let both = then-none (Visits P i) (P i) (visits-one P p i) s facts k t u v h stuck in
    visits-none P (suc i) n s facts v v (omega (arith, less))
    (record { some = tt; only = λ no x w begins z. both.only refl x w begins z })

-- a visit of a session notes in one way
pub serves-one : (i : ℕ) → OneWay (Serves i)
serves-one i = then-one _ _ (notes-one (next_begun i)) (notes-one (next_posted i))

-- a poll's posting visits each session
pub posts-step : (s : Timed) (facts : List Fact) (t : Timed) (o : Option ℕ)
    → IsStep (Visits Serves (length s.lists.clients)) s facts t o → IsStep PostsAll s facts t o
posts-step s facts t o h = record { some = h.some; only = h.only }
