-- The groups of a life, a fact later.
use Rattle.std.proofs.Common.{◌≡◌, ◌⊎◌, inl, inr, ℕ, ◌==◌, ◌&&◌, ◌||◌, not, Bool, true, false, List, [], ◌∷◌, ◌++◌}
use Rattle.std.proofs.Common.{Option, Some, None, refl, sym, ap, ◌∙◌, subst, append-nil, append_assoc, length, true≢false}
use Rattle.std.proofs.Common.{arith, ne_eqb}
use Rattle.std.specs.Prelude.{Result, Ok, Err, IfOk}
use Rattle.std.proofs.lemmas.Bool.{and_parts}
use Rattle.rpc_base.specs.declared.event.Event.{Event}
use Rattle.rpc_base.specs.declared.event.Event.TheVariants.{Polled, Restarted}
use Rattle.rpc_base.proofs.BasicLemmas.{not-true}
use Rattle.rpc_base.specs.declared.fact.Fact.{Fact}
use Rattle.rpc_laws.specs.declared.tables.Timed.{Timed}
use Rattle.rpc_laws.specs.Facts.{plain}
use Rattle.rpc_laws.specs.NodeLists.{after, new_lists, new_node}
use Rattle.rpc_laws.specs.declared.tables.Lists.{Lists}
use Rattle.rpc_laws.specs.PollOrder.{Poll}
use Rattle.rpc_laws.specs.Steps.{Chain, more, none}
use Rattle.rpc_laws.specs.UsualLimits.{with_ring}
use Rattle.rpc_outside.specs.PlainAnswer.{plain_mode}
use Rattle.node_laws.specs.NodeRun.{Group, polls as is_poll}
use Rattle.node_laws.specs.Valid.{Valid}
use Rattle.node_laws.proofs.ValidLemmas.{valid_new}
use Rattle.front_laws.specs.Laws.{IsOneGroup}
use Rattle.front_laws.specs.Whole.{ends_open, ends_poll, is_polls, open_after}
use Rattle.front_laws.proofs.CutLemmas.{chain-valid, cut, early, late, open-append, two-ways, TwoWays}
use Rattle.front_laws.proofs.GroupLemmas.{one-group, one-quiet}
use Rattle.front_laws.proofs.PollFacts.{poll-ending}
use Rattle.front_laws.proofs.ToldLemmas.{alone as kind_alone, chain-shut, chain-told, group-kind}
use Rattle.front_laws.proofs.ToldLemmas.{Kind, poll as kind_poll, two as kind_two}
use Rattle.node_rules.specs.SingleFacts.{at_clock, IsGroup}
use Rattle.node_audit.specs.declared.groups.Groups.{Groups}
use Rattle.node_audit.specs.Groups.{alone as is_alone, begins, ends as is_over, EndsPoll, GoesOn, InPoll}
use Rattle.poll_steps.specs.Polling.{IsPoll}
use Rattle.node_audit.specs.Groups.{IsNew, KeepsGroups, left, no_poll, NotesAlone}

-- a list that ends with a fact, in two parts
pub last-parts : (f : Fact) (x a b : List Fact) → x ++ f ∷ [] ≡ a ++ b
    → (b ≡ []) ⊎ ((k : List Fact) × (x ≡ a ++ k))
last-parts f x a b e = by (two-ways x (f ∷ []) a b e)
  where
    by : TwoWays x (f ∷ []) a b → (b ≡ []) ⊎ ((k : List Fact) × (x ≡ a ++ k))
    by (late k g h) = inr (k, g)
    by (early [] g h) = inr ([], sym (append-nil a ∙ (g ∙ append-nil x)))
    by (early (w ∷ k) g h) = inl (nothing w k h)
      where
        nothing : (w : Fact) (k : List Fact) → f ∷ [] ≡ (w ∷ k) ++ b → b ≡ []
        nothing w [] e = let rest : [] ≡ b = cc in sym rest
        nothing w (c ∷ k) e = absurd (longer e)
          where
            longer : f ∷ [] ≡ w ∷ c ∷ k ++ b → ⊥
            longer e = cc

-- one ends with one fact
no-last : (x : List Fact) (f : Fact) → x ++ f ∷ [] ≡ [] → ⊥
no-last [] f e = cc
no-last (g ∷ x) f e = cc

pub last-same : (x y : List Fact) (f g : Fact) → x ++ f ∷ [] ≡ y ++ g ∷ [] → f ≡ g
last-same [] [] f g e = cc
last-same [] (h ∷ y) f g e =
    let rest : [] ≡ y ++ g ∷ [] = cc in absurd (no-last y g (sym rest))
last-same (h ∷ x) [] f g e =
    let rest : x ++ f ∷ [] ≡ [] = cc in absurd (no-last x f rest)
last-same (h ∷ x) (k ∷ y) f g e =
    let rest : x ++ f ∷ [] ≡ y ++ g ∷ [] = cc in last-same x y f g rest

-- an event that ends a poll isn't one that only a poll makes
ends-other : (e : Event) → ends_poll e ≡ true → is_polls e ≡ false
ends-other (Polled now) h = refl
ends-other (Restarted life) h = refl
ends-other _ h = cc

-- where a fact ends a poll the group that ends with it is one
kind-poll : (s t : Timed) (x y : List Fact) (f : Fact) → y ≡ x ++ f ∷ [] → ends_poll f.event ≡ true
    → Kind plain_mode s y t → (now : ℕ) × Poll plain_mode now s y t
kind-poll s t x y f e over (kind_poll now h) = (now, h)
kind-poll s t x y f e over (kind_alone g q h goes) =
    let same = last-same x [] f g (sym e ∙ h) in
    absurd (true≢false (sym over ∙ (ap (λ (w : Fact). ends_poll w.event) same ∙ q.polled)))
kind-poll s t x y f e over (kind_two g w q r h goes) =
    let same = last-same x (g ∷ []) f w (sym e ∙ h) in
    absurd (true≢false (sym over ∙ (ap (λ (k : Fact). ends_poll k.event) same ∙ r.polled)))

-- the facts of an open poll and the one that ends it are one group
shut-by : (b : Bool) (f : Fact) → ends_poll f.event ≡ true → ends_open b (f ∷ []) ≡ false
shut-by true f e = rw (ends-other f.event e, e) refl
shut-by false f e = rw (ends-other f.event e) refl

one-ended : (x : List Fact) (f : Fact) → InPoll x → ends_poll f.event ≡ true → IsOneGroup (x ++ f ∷ [])
one-ended x f within e = record {
  some = no-last x f;
  shut = open-append false x (f ∷ []) ∙ shut-by (ends_open false x) f e;
  alone = λ a b h shut. by a b shut (last-parts f x a b h);
}
  where
    by : (a b : List Fact) → ends_open false a ≡ false → (b ≡ []) ⊎ ((k : List Fact) × (x ≡ a ++ k))
        → (a ≡ []) ⊎ (b ≡ [])
    by a b shut (inl e) = inr e
    by a b shut (inr k) = inl (within a k.0 k.1 shut)

-- a poll stays open where its facts go on
pub in-none : InPoll []
in-none [] z e h = refl
in-none (f ∷ y) z e h = cc

opens-so : (b : Bool) (e : Event) → is_polls e ≡ true → open_after e b ≡ true
opens-so b e p = rw p refl

stays-so : (e : Event) → ends_poll e ≡ false → open_after e true ≡ true
stays-so e p = rw p (by (is_polls e))
  where
    by : (b : Bool) → (b || (true && not false)) ≡ true
    by true = refl
    by false = refl

module _ (x : List Fact) (f : Fact) (within : InPoll x) (e : ends_poll f.event ≡ false) where
  open-then : (b c : Bool) → is_polls f.event ≡ b → ends_open false x ≡ c
      → ((length x == 0) && (not (is_polls f.event) && not (ends_poll f.event))) ≡ false
      → ends_open false (x ++ f ∷ []) ≡ true
  open-then true c p q h =
      open-append false x (f ∷ []) ∙ opens-so (ends_open false x) f.event p
  open-then false true p q h =
      open-append false x (f ∷ []) ∙ (ap (λ (b : Bool). ends_open b (f ∷ [])) q ∙ stays-so f.event e)
  open-then false false p q h =
      let nothing : x ≡ [] = within x [] (sym (append-nil x)) q in
      let quiet : ((length x == 0) && (not (is_polls f.event) && not (ends_poll f.event))) ≡ true =
      rw (nothing, p, e) refl in
      absurd (true≢false (sym quiet ∙ h))

  pub in-more : ((length x == 0) && (not (is_polls f.event) && not (ends_poll f.event))) ≡ false
      → InPoll (x ++ f ∷ [])
  in-more h y z parted shut = by (last-parts f x y z parted)
    where
      by : (z ≡ []) ⊎ ((k : List Fact) × (x ≡ y ++ k)) → y ≡ []
      by (inl nothing) =
          let all : x ++ f ∷ [] ≡ y = parted ∙ (ap (λ (k : List Fact). y ++ k) nothing ∙ append-nil y) in
          absurd (true≢false (sym (open-then (is_polls f.event) (ends_open false x) refl refl h)
          ∙ (ap (ends_open false) all ∙ shut)))
      by (inr k) = within y k.0 k.1 shut

-- the next group of a chain of groups of a life
module _ (me life ring : ℕ) where
  abbrev start : Timed
  start = new_node me life (with_ring ring)

  valid : Valid (new_lists me life (with_ring ring))
  valid = valid_new me life (with_ring ring)

  ends-as : (x : List Fact) (s t : Timed) → Chain (Group plain_mode) (new_node me life (with_ring ring)) x s
      → Chain (Group plain_mode) (new_node me life (with_ring ring)) x t → s ≡ t
  ends-as x s t c d =
      sym (chain-told plain_mode (new_node me life (with_ring ring)) valid c)
      ∙ chain-told plain_mode (new_node me life (with_ring ring)) valid d

  next-group : (done y rest : List Fact) (s t : Timed)
      → Chain (Group plain_mode) (new_node me life (with_ring ring)) done s → IsOneGroup y
      → Chain (Group plain_mode) (new_node me life (with_ring ring)) ((done ++ y) ++ rest) t
      → (u : Timed) × Group plain_mode s y u
  next-group done y rest s t c one all =
      let outside = chain-shut plain_mode (new_node me life (with_ring ring)) c in
      let both : ends_open false (done ++ y) ≡ false =
      open-append false done y ∙ (ap (λ (b : Bool). ends_open b y) outside ∙ one.shut) in
      let a = cut plain_mode (new_node me life (with_ring ring)) (done ++ y) rest valid all refl both in
      let b = cut plain_mode (new_node me life (with_ring ring)) done y valid a.first refl outside in
      let same : b.between ≡ s = ends-as done b.between s b.first c in
      let inside = chain-valid plain_mode (new_node me life (with_ring ring)) valid b.first in
      let g = one-group plain_mode b.between y a.between inside one b.second in
      (a.between, subst (λ (w : Timed). Group plain_mode w y a.between) same g)

  -- a fact outside of a poll
  module _ (a b : Groups) (f : Fact) (x : List Fact) (k : KeepsGroups a me life ring x)
      (none-yet : a.pending ≡ []) where
    all-done : x ≡ k.done
    all-done = k.facts ∙ (ap (λ (y : List Fact). k.done ++ y) none-yet ∙ append-nil k.done)

    alone-on : Group plain_mode (left a) (f ∷ []) (left b) → b.pending ≡ a.pending
        → KeepsGroups b me life ring (x ++ f ∷ [])
    alone-on g same = record {
      done = k.done ++ f ∷ [];
      facts = ap (λ (y : List Fact). y ++ f ∷ []) all-done
          ∙ (sym (append-nil (k.done ++ f ∷ []))
          ∙ ap (λ (y : List Fact). (k.done ++ f ∷ []) ++ y) (sym (same ∙ none-yet)));
      groups = more k.groups (f ∷ []) (left b) g;
      in_poll = subst (λ (y : List Fact). InPoll y) (sym (same ∙ none-yet)) in-none;
    }

    -- no poll is a fact that doesn't end one
    no-alone : (u : Timed) → ends_poll f.event ≡ false
        → (now : ℕ) × Poll plain_mode now (left a) (f ∷ []) u → ⊥
    no-alone u e p =
        let h = poll-ending plain_mode p.0 a.lists.me (left a) (f ∷ []) u refl p.1 in
        let same = last-same [] h.front f (plain a.lists.me (Polled u.clock)) h.joined in
        true≢false (ap (λ (w : Fact). ends_poll w.event) (sym same) ∙ e)

    pub alone-next : (r : Bool) → is_polls f.event ≡ false → ends_poll f.event ≡ false → NotesAlone a f b r
        → GoesOn r b me life ring (x ++ f ∷ [])
    alone-next r p e (is_alone g same) = alone-on g same
    alone-next r p e (begins h) = λ y t all.
        let chain : Chain (Group plain_mode) (new_node me life (with_ring ring)) ((k.done ++ f ∷ []) ++ y) t =
        subst (λ (z : List Fact). Chain (Group plain_mode) (new_node me life (with_ring ring)) ((z ++ f ∷ []) ++ y) t)
        all-done all in
        let g = next-group k.done (f ∷ []) y (left a) t k.groups
        (one-quiet f (record { polls = p; polled = e })) chain in
        no-alone g.0 e (h plain_mode a.clock [] g.0 g.1)

  -- a fact of a poll: it goes on, or is over
  module _ (a b c : Groups) (f : Fact) (x : List Fact) (k : KeepsGroups a me life ring x)
      (lists : b.lists ≡ a.lists) (clock : b.clock ≡ a.clock) (longer : b.pending ≡ a.pending ++ f ∷ []) where
    left-same : left b ≡ left a
    left-same = rw (lists, clock) refl

    more-facts : x ++ f ∷ [] ≡ k.done ++ b.pending
    more-facts =
        ap (λ (y : List Fact). y ++ f ∷ []) k.facts
        ∙ (append_assoc k.done a.pending (f ∷ []) ∙ ap (λ (y : List Fact). k.done ++ y) (sym longer))

    pub open-next : ends_poll f.event ≡ false
        → ((length a.pending == 0) && (not (is_polls f.event) && not (ends_poll f.event))) ≡ false
        → KeepsGroups b me life ring (x ++ f ∷ [])
    open-next e h = record {
      done = k.done;
      facts = more-facts;
      groups = subst (λ (t : Timed). Chain (Group plain_mode) (new_node me life (with_ring ring)) k.done t)
          (sym left-same) k.groups;
      in_poll = subst (λ (y : List Fact). InPoll y) (sym longer) (in-more a.pending f k.in_poll e h);
    }

    pub ended-next : (r : Bool) → ends_poll f.event ≡ true → EndsPoll b c r
        → GoesOn r c me life ring (x ++ f ∷ [])
    ended-next r e (is_over now h shut) = record {
      done = k.done ++ b.pending;
      facts = more-facts
          ∙ (sym (append-nil (k.done ++ b.pending))
          ∙ ap (λ (y : List Fact). (k.done ++ b.pending) ++ y) (sym shut));
      groups = more k.groups b.pending (left c)
          (subst (λ (t : Timed). Group plain_mode t b.pending (left c)) left-same (is_poll now h));
      in_poll = subst (λ (y : List Fact). InPoll y) (sym shut) in-none;
    }
    ended-next r e (no_poll h) = λ y t all.
        let chain : Chain (Group plain_mode) (new_node me life (with_ring ring))
        ((k.done ++ b.pending) ++ y) t =
        subst (λ (z : List Fact). Chain (Group plain_mode) (new_node me life (with_ring ring)) (z ++ y) t)
        more-facts all in
        let one : IsOneGroup b.pending =
        subst (λ (z : List Fact). IsOneGroup z) (sym longer) (one-ended a.pending f k.in_poll e) in
        let g = next-group k.done b.pending y (left a) t k.groups one chain in
        let p = kind-poll (left a) g.0 a.pending b.pending f longer e
        (group-kind plain_mode (left a) b.pending g.0 g.1) in
        h p.0 g.0 (subst (λ (w : Timed). Poll plain_mode p.0 w b.pending g.0) (sym left-same) p.1)

  -- a new node has no facts yet
  pub new-next : (a : Groups) → IsNew a me life ring → KeepsGroups a me life ring []
  new-next a n =
      let same : left a ≡ new_node me life (with_ring ring) = rw (n.lists, n.clock) refl in
      record {
        done = [];
        facts = sym n.shut;
        groups = subst (λ (t : Timed). Chain (Group plain_mode) (new_node me life (with_ring ring)) [] t)
            (sym same) none;
        in_poll = subst (λ (y : List Fact). InPoll y) (sym n.shut) in-none;
      }

-- what a group's check tells
pub alone-by : (a b : Groups) (f : Fact) → IsGroup a.lists f → b.lists ≡ after a.clock a.lists f
    → b.clock ≡ a.clock → b.pending ≡ a.pending → NotesAlone a f b true
alone-by a b f h lists clock pending =
    let same : at_clock a.clock (after a.clock a.lists f) ≡ left b = rw (lists, clock) refl in
    is_alone (subst (λ (t : Timed). Group plain_mode (left a) (f ∷ []) t) same (h plain_mode a.clock)) pending

pub ends-by : (a b : Groups) (facts : List Fact) (o : Option ℕ) (now : ℕ) → facts ≡ a.pending
    → IsPoll a.clock a.lists facts b.lists o → o ≡ Some now → b.clock ≡ now → b.pending ≡ []
    → EndsPoll a b true
ends-by a b facts o now all h is clock pending =
    let some : Poll plain_mode now (left a) facts (at_clock now b.lists) =
    (subst (λ (k : Option ℕ). IsPoll a.clock a.lists facts b.lists k) is h).some in
    let same : at_clock now b.lists ≡ left b = rw clock refl in
    is_over now
    (subst (λ (y : List Fact). Poll plain_mode now (left a) y (left b)) all
    (subst (λ (t : Timed). Poll plain_mode now (left a) facts t) same some)) pending

pub ends-none : (a b : Groups) (facts : List Fact) (t : Lists) (o : Option ℕ) → facts ≡ a.pending
    → IsPoll a.clock a.lists facts t o → o ≡ None → EndsPoll a b false
ends-none a b facts t o all h is =
    no_poll (λ now u p. (subst (λ (k : Option ℕ). IsPoll a.clock a.lists facts t k) is h).only refl now u
    (subst (λ (y : List Fact). Poll plain_mode now (left a) y u) (sym all) p))

-- what the parts of a step tell of it
no-length : (x : List Fact) → (length x == 0) ≡ true → x ≡ []
no-length [] e = refl
no-length (f ∷ x) e = absurd (true≢false (sym e ∙ ne_eqb (length (f ∷ x)) 0 (λ h. omega (arith, h))))

pub alone-all : {E : Type 0} (r : Result Bool E) (a b : Groups) (f : Fact)
    → ((length a.pending == 0) && (not (is_polls f.event) && not (ends_poll f.event))) ≡ true
    → IfOk r (NotesAlone a f b)
    → IfOk r (λ (k : Bool). (me life ring : ℕ) (x : List Fact) → KeepsGroups a me life ring x
    → GoesOn k b me life ring (x ++ f ∷ []))
alone-all (Err error) a b f e h = tt
alone-all (Ok k) a b f e h = λ me life ring x keeps.
    let one = and_parts (length a.pending == 0) (not (is_polls f.event) && not (ends_poll f.event)) e in
    let quiet = and_parts (not (is_polls f.event)) (not (ends_poll f.event)) one.1 in
    alone-next me life ring a b f x keeps (no-length a.pending one.0) k (not-true (is_polls f.event) quiet.0)
    (not-true (ends_poll f.event) quiet.1) h

pub ended-all : {E : Type 0} (r : Result Bool E) (a b c : Groups) (f : Fact) → b.lists ≡ a.lists
    → b.clock ≡ a.clock → b.pending ≡ a.pending ++ f ∷ [] → ends_poll f.event ≡ true → IfOk r (EndsPoll b c)
    → IfOk r (λ (k : Bool). (me life ring : ℕ) (x : List Fact) → KeepsGroups a me life ring x
    → GoesOn k c me life ring (x ++ f ∷ []))
ended-all (Err error) a b c f lists clock pending e h = tt
ended-all (Ok k) a b c f lists clock pending e h = λ me life ring x keeps.
    ended-next me life ring a b c f x keeps lists clock pending k e h

pub open-all : (a b : Groups) (f : Fact) → b.lists ≡ a.lists → b.clock ≡ a.clock
    → b.pending ≡ a.pending ++ f ∷ [] → ends_poll f.event ≡ false
    → ((length a.pending == 0) && (not (is_polls f.event) && not (ends_poll f.event))) ≡ false
    → (me life ring : ℕ) (x : List Fact) → KeepsGroups a me life ring x
    → KeepsGroups b me life ring (x ++ f ∷ [])
open-all a b f lists clock pending e h me life ring x keeps =
    open-next me life ring a b b f x keeps lists clock pending e h
