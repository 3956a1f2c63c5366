-- What the services of the nodes answered: of steps of one node, of the network, and of one thing after another.
use Rattle.std.proofs.Common.{◌≡◌, ◌≢◌, ℕ, zero, suc, Bool, true, false, ◌||◌, Some}
use Rattle.std.proofs.Common.{List, [], ◌∷◌, ◌++◌, refl, subst, sym, ap, ◌∙◌, inl, inr}
use Rattle.std.specs.List.{AllByRecursion, list_any, slice_get, slice_set}
use Rattle.std.proofs.lemmas.Bool.{cases_eq, eq-eqb, ne_eqb}
use Rattle.std.proofs.lemmas.List.Elements.{filter-append}
use Rattle.end_laws.proofs.OwnFacts.{IsOwn}
use Rattle.rpc_base.specs.declared.event.Event.{Event}
use Rattle.rpc_base.specs.declared.event.Event.TheVariants.{Ran, Restarted}
use Rattle.rpc_base.specs.declared.fact.Fact.{Fact}
use Rattle.rpc_base.specs.declared.fact.Who.TheVariants.{Node}
use Rattle.rpc_laws.specs.AtMostOnce.{is_at}
use Rattle.rpc_laws.specs.Facts.{of_net}
use Rattle.rpc_laws.specs.Service.{AnswersAt, plain_serving, served_after, served_after_all}
use Rattle.rpc_laws.proofs.AnswerLemmas.{answers-append, served-append}
use Rattle.rpc_outside.specs.PlainAnswer.{plain_mode}
use Rattle.rpc_outside.specs.PlainStands.{PlainStands}
use Rattle.rpc_outside.specs.Served.{Served}
use Rattle.sim_script.specs.FollowsScript.{is_wanting}
use Rattle.work_laws.specs.Known.{changes_work}
use Rattle.rpc_world.specs.Answered.{Plainly, Quiet, ServesAll, Whole, facts_at, total_at}

-- one thing after another
whole-by : (b : Bool) (x y : List Fact) → (b || list_any (λ f. is_wanting f.event) x) ≡ false
    → (Whole x → Whole (x ++ y)) → (b || list_any (λ f. is_wanting f.event) (x ++ y)) ≡ false
whole-by true x y p k = cc
whole-by false x y p k = k p

pub whole-append : (x y : List Fact) → Whole x → Whole y → Whole (x ++ y)
whole-append [] y p q = q
whole-append (f ∷ x) y p q = whole-by (is_wanting f.event) x y p (λ r. whole-append x y r q)

pub quiet-none : Quiet []
quiet-none served = (tt, refl)

pub quiet-serves : (n : ℕ) (x : List Fact) → Quiet x → ServesAll n n x
quiet-serves n x p served stands =
    let one = p served in
    (one.0, subst (λ (z : Served). PlainStands n z) (sym one.1) stands)

pub serves-append : (a b c : ℕ) (x y : List Fact) → ServesAll a b x → ServesAll b c y → ServesAll a c (x ++ y)
serves-append a b c x y p q served stands =
    let one = p served stands in
    let two = q (served_after_all plain_mode served x) one.1 in (
      answers-append plain_serving served x y one.0 two.0,
      subst (λ (z : Served). PlainStands c z) (sym (served-append plain_mode served x y)) two.1,
    )

-- facts of which none is a Ran, nor a Restarted
abbrev pub changes_served : Event → Bool
changes_served (Ran session request req_type) = true
changes_served (Restarted life) = true
changes_served _ = false

kept-answers : (e : Event) (served : Served) (first second : List ℕ) → changes_served e ≡ false
    → AnswersAt plain_serving served e first second
kept-answers (Ran t r y) served first second h = cc
kept-answers _ served first second h = tt

kept-served : (e : Event) (served : Served) (first : List ℕ) → changes_served e ≡ false
    → served_after plain_mode e first served ≡ served
kept-served (Ran t r y) served first h = cc
kept-served (Restarted life) served first h = cc
kept-served _ served first h = refl

pub kept-quiet : (x : List Fact) → AllByRecursion (λ f. changes_served f.event ≡ false) x → Quiet x
kept-quiet [] h served = (tt, refl)
kept-quiet (f ∷ x) h served =
    let same = kept-served f.event served f.first h.0 in
    let rest = kept-quiet x h.1 (served_after plain_mode f.event f.first served) in
    ((kept-answers f.event served f.first f.second h.0, rest.0), rest.1 ∙ same)

idle-event : (e : Event) → changes_work e ≡ false → changes_served e ≡ false
idle-event (Ran t r y) h = cc
idle-event (Restarted life) h = cc
idle-event _ h = refl

pub idle-quiet : (x : List Fact) → AllByRecursion (λ f. changes_work f.event ≡ false) x → Quiet x
idle-quiet x h = kept-quiet x (each x h)
  where
    each : (y : List Fact) → AllByRecursion (λ f. changes_work f.event ≡ false) y
        → AllByRecursion (λ f. changes_served f.event ≡ false) y
    each [] h = tt
    each (f ∷ y) h = (idle-event f.event h.0, each y h.1)

pub plainly-none : (a : List ℕ) → Plainly [] a a
plainly-none a = record { whole = refl; serves = λ n. quiet-serves (total_at n a) [] quiet-none }

pub plainly-append : (x y : List Fact) (a b c : List ℕ) → Plainly x a b → Plainly y b c → Plainly (x ++ y) a c
plainly-append x y a b c p q = record {
  whole = whole-append x y p.whole q.whole;
  serves = λ n. subst (λ (z : List Fact). ServesAll (total_at n a) (total_at n c) z)
      (sym (filter-append (λ (f : Fact). is_at n f.who) x y))
      (serves-append (total_at n a) (total_at n b) (total_at n c) (facts_at n x) (facts_at n y)
      (p.serves n) (q.serves n));
}

-- a fact of the network
pub plainly-net : (e : Event) (a : List ℕ) → is_wanting e ≡ false → Plainly (of_net e ∷ []) a a
plainly-net e a w = record { whole = rw w refl; serves = λ n. quiet-serves (total_at n a) [] quiet-none }

-- facts of one node
abbrev pub AllOf : ℕ → List Fact → Type 0
AllOf n x = AllByRecursion (λ f. f.who ≡ Node n) x

own-facts : (n : ℕ) (x : List Fact) → AllOf n x → facts_at n x ≡ x
own-facts n [] all = refl
own-facts n (f ∷ x) all = rw (all.0, eq-eqb n n refl, own-facts n x all.1) refl

other-facts : (m n : ℕ) (x : List Fact) → n ≢ m → AllOf n x → facts_at m x ≡ []
other-facts m n [] other all = refl
other-facts m n (f ∷ x) other all = rw (all.0, ne_eqb n m other, other-facts m n x other all.1) refl

serves-at : (m n a b : ℕ) (x : List Fact) → AllOf n x → (n ≡ m → ServesAll a b x) → (n ≢ m → a ≡ b)
    → ServesAll a b (facts_at m x)
serves-at m n a b x all own other = elim (cases_eq n m) [
  | inl same ↦ subst (λ (z : List Fact). ServesAll a b z)
      (sym (ap (λ k. facts_at k x) (sym same) ∙ own-facts n x all)) (own same)
  | inr apart ↦ subst (λ (z : List Fact). ServesAll a b z) (sym (other-facts m n x apart all))
      (subst (λ k. ServesAll a k []) (other apart) (quiet-serves a [] quiet-none))
]

pub plainly-quiet : (n : ℕ) (x : List Fact) (a : List ℕ) → AllOf n x → Quiet x → Whole x → Plainly x a a
plainly-quiet n x a all quiet whole = record {
  whole = whole;
  serves = λ m. serves-at m n (total_at m a) (total_at m a) x all
      (λ same. quiet-serves (total_at m a) x quiet) (λ other. refl);
}

get-own : (a : List ℕ) (n t next : ℕ) → slice_get a n ≡ Some t → (total_at n a ≡ t)
    × (total_at n (slice_set a n next) ≡ next)
get-own [] n t next e = cc
get-own (k ∷ a) zero t next e = (cc, refl)
get-own (k ∷ a) (suc n) t next e = get-own a n t next e

get-other : (a : List ℕ) (n m next : ℕ) → n ≢ m → total_at m a ≡ total_at m (slice_set a n next)
get-other [] n m next h = refl
get-other (k ∷ a) zero zero next h = absurd (h refl)
get-other (k ∷ a) zero (suc m) next h = refl
get-other (k ∷ a) (suc n) zero next h = refl
get-other (k ∷ a) (suc n) (suc m) next h = get-other a n m next (λ e. h (ap suc e))

pub plainly-served : (n t next : ℕ) (x : List Fact) (a : List ℕ) → slice_get a n ≡ Some t → AllOf n x
    → ServesAll t next x → Whole x → Plainly x a (slice_set a n next)
plainly-served n t next x a at all serves whole =
    let own = get-own a n t next at in
    record {
      whole = whole;
      serves = λ m. serves-at m n (total_at m a)
          (total_at m (slice_set a n next)) x all
          (λ same. subst (λ k. ServesAll (total_at k a) (total_at k (slice_set a n next)) x) same
          (rw (own.0, own.1) serves)) (get-other a n m next);
    }

-- a node is made, whose service has served nothing
get-made : (a : List ℕ) (m : ℕ) → total_at m a ≡ total_at m (a ++ 0 ∷ [])
get-made [] zero = refl
get-made [] (suc m) = refl
get-made (k ∷ a) zero = refl
get-made (k ∷ a) (suc m) = get-made a m

pub plainly-made : (x : List Fact) (a : List ℕ) → Plainly x a a → Plainly x a (a ++ 0 ∷ [])
plainly-made x a p =
    record {
      whole = p.whole;
      serves = λ n. subst (λ k. ServesAll (total_at n a) k (facts_at n x))
          (get-made a n) (p.serves n);
    }

-- whose facts those of a step are
pub all-owned : (n : ℕ) (x : List Fact) → AllByRecursion (IsOwn false n) x → AllOf n x
all-owned n [] all = tt
all-owned n (f ∷ x) all = (all.0.who, all-owned n x all.1)
