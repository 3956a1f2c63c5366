-- The ends of calls: each is of a job that was asked, whose call it is.
use Rattle.std.proofs.Common.{◌≡◌, inl, inr, ℕ, zero, suc, ◌+◌, Bool, true, false, Some, List, []}
use Rattle.std.proofs.Common.{◌∷◌, ◌++◌, length, map, refl, sym, ap, ap₂, subst, ◌∙◌, slice_get}
use Rattle.std.proofs.Common.{arith, append_assoc, append-nil}
use Rattle.std.specs.Prelude.{◌↔◌, ◌⊎◌, IsTrue}
use Rattle.std.specs.List.{AllByRecursion, list_any, remove}
use Rattle.client_core.specs.Handing.{Handed, HandsBack}
use Rattle.client_core.specs.declared.outcome.Done.{Done}
use Rattle.deferred_calls.proofs.DeskLemmas.{rises_out, same_place}
use Rattle.deferred_calls.specs.Desks.{HasNumbers, Jobs, Rises}
use Rattle.deferred_calls.specs.Law.{finished}
use Rattle.deferred_calls.specs.declared.job.Numbered.{Numbered}
use Rattle.node_steps.specs.Handed.{HandBack}
use Rattle.relay_turns.specs.Deferred.{by_other, by_us, count_here, count_relayed, EndEach, IsOver}
use Rattle.relay_turns.specs.Deferred.{job_over, Over}
use Rattle.relay_turns.specs.Turning.{SettlesAll}
use Rattle.relay_turns.specs.Working.{AreHandedOf, IsHandedOf, Nested, nested_job}
use Rattle.relays.specs.Relaying.{CountsOne, EndsJob, HasAnswer, Relaying, Settles, Stands}
use Rattle.rpc_base.specs.Taking.{TakenOut}
use Rattle.session_store.specs.Handing.{HandsBackAt}
use Rattle.worker_board.specs.declared.Parcel.{Parcel}

-- what stands in the midst of a list, and what is left without it
pub mid-there : {A : Type 0} (xs ys : List A) (a : A)
    → slice_get (xs ++ a ∷ ys) (length xs) ≡ Some a
mid-there [] ys a = refl
mid-there (x ∷ xs) ys a = mid-there xs ys a

pub mid-gone : {A : Type 0} (xs ys : List A) (a : A) → remove (xs ++ a ∷ ys) (length xs) ≡ xs ++ ys
mid-gone [] ys a = refl
mid-gone (x ∷ xs) ys a = ap (λ zs. x ∷ zs) (mid-gone xs ys a)

jobs-append : (xs ys : List Nested)
    → map nested_job (xs ++ ys) ≡ map nested_job xs ++ map nested_job ys
jobs-append [] ys = refl
jobs-append (x ∷ xs) ys = ap (λ zs. x.job ∷ zs) (jobs-append xs ys)

-- calls of jobs by what was handed in with them, in the midst
record InMidst (before after : List Handed) (h : Handed) (pending : List Nested) : Type 0 where
  front : List Nested
  back : List Nested
  one : Nested
  was : pending ≡ front ++ one ∷ back
  is : IsHandedOf h one
  left : AreHandedOf (before ++ after) (front ++ back)

in-midst : (before after : List Handed) (h : Handed) (pending : List Nested)
    → AreHandedOf (before ++ h ∷ after) pending → InMidst before after h pending
in-midst [] after h [] all = absurd all
in-midst [] after h (n ∷ ns) all =
    record { front = []; back = ns; one = n; was = refl; is = all.0; left = all.1 }
in-midst (b ∷ before) after h [] all = absurd all
in-midst (b ∷ before) after h (n ∷ ns) all =
    let rest = in-midst before after h ns all.1 in
    record {
      front = n ∷ rest.front;
      back = rest.back;
      one = rest.one;
      was = ap (λ (zs : List Nested). n ∷ zs) rest.was;
      is = rest.is;
      left = (all.0, rest.left);
    }

-- one more call, behind the others
pub handed-push : (hs : List Handed) (ns : List Nested) (h : Handed) (n : Nested)
    → AreHandedOf hs ns → IsHandedOf h n → AreHandedOf (hs ++ h ∷ []) (ns ++ n ∷ [])
handed-push [] [] h n all one = (one, tt)
handed-push [] (m ∷ ns) h n all one = absurd all
handed-push (g ∷ hs) [] h n all one = absurd all
handed-push (g ∷ hs) (m ∷ ns) h n all one = (all.0, handed-push hs ns h n all.1 one)

none-passes : (ns : List Nested) → list_any (λ n. false) ns ≡ false
none-passes [] = refl
none-passes (n ∷ ns) = none-passes ns

numbers-left : (ns : List Numbered) (k : ℕ) → HasNumbers ns → HasNumbers (remove ns k)
numbers-left ns k r = (
  r.0,
  subst (λ (l : List Numbered). Rises 0 l r.0) (append-nil (remove ns k))
      (rises_out 0 ns [] k r.0
      (subst (λ (l : List Numbered). Rises 0 l r.0) (sym (append-nil ns)) r.1)),
)

-- a desk and its relays between the ends of two calls: the handles that are out are of the jobs
-- whose calls are pending
pub record Holds (pending : List Nested) (hs : List Handed) (desk : Jobs) : Type 0 where
  pub are_of : AreHandedOf hs pending
  pub handled : desk.handled ≡ map nested_job pending
  pub numbers : HasNumbers desk.handled

-- how a call ends
pub record Ends (answer : ℕ → List ℕ → List ℕ) (d : Done) (pending : List Nested)
    (desk last : Jobs) (old new : Relaying) (later : List Handed) : Type 0 where
  pub over : Over
  pub left : List Nested
  pub is_done : over.done ≡ d
  pub ended : IsOver answer over
  pub was : TakenOut (λ n. false) over.nested pending left
  pub holds : Holds left later last
  pub answered : last.answered ≡ desk.answered ++ finished answer (job_over over) ∷ []
  pub waiting : last.waiting ≡ desk.waiting
  pub relayed : new.relayed ≡ old.relayed + by_other over
  pub here : new.here ≡ old.here + by_us over

module _ (answer : ℕ → List ℕ → List ℕ) (d : Done) (i : ℕ) (pending : List Nested)
    (hs later : List Handed) (desk last : Jobs) (old new : Relaying)
    (holds : Holds pending hs desk) (stands : Stands desk [] old) (back : HandsBack i d hs later)
  where
    midst : InMidst back.taken.before back.taken.after back.handed pending
    midst = in-midst back.taken.before back.taken.after back.handed pending
        (subst (λ (l : List Handed). AreHandedOf l pending) back.taken.was holds.are_of)

    abbrev front_jobs : List Numbered
    front_jobs = map nested_job midst.front

    abbrev back_jobs : List Numbered
    back_jobs = map nested_job midst.back

    all-jobs : desk.handled ≡ front_jobs ++ midst.one.job ∷ back_jobs
    all-jobs = holds.handled ∙ (ap (map nested_job) midst.was
        ∙ jobs-append midst.front (midst.one ∷ midst.back))

    own-place : slice_get desk.handled (length front_jobs) ≡ Some midst.one.job
    own-place = ap (λ (l : List Numbered). slice_get l (length front_jobs)) all-jobs
        ∙ mid-there front_jobs back_jobs midst.one.job

    own-number : midst.one.job.number ≡ d.tag
    own-number = sym midst.is.tag ∙ sym back.gives.tag

    own-call : d.call ≡ midst.one.call
    own-call = back.gives.call ∙ sym midst.is.call

    somebodys : ((k : ℕ) (n : Numbered) → slice_get old.asked k ≡ Some n → n.number ≡ d.tag → ⊥)
        → ⊥
    somebodys none = none (length front_jobs) midst.one.job
        (ap (λ (l : List Numbered). slice_get l (length front_jobs))
        (sym (stands.handled ∙ append-nil old.asked)) ∙ own-place) own-number

    module _ (ends : EndsJob answer d desk last old new) where
      same-at : ends.answers.0 ≡ length front_jobs
      same-at = same_place 0 desk.handled holds.numbers.0 ends.answers.0 (length front_jobs)
          ends.job midst.one.job holds.numbers.1 ends.answers.1 own-place
          (ends.named ∙ sym own-number)

      same-job : ends.job ≡ midst.one.job
      same-job =
          let both : Some ends.job ≡ Some midst.one.job = sym ends.answers.1
          ∙ (ap (slice_get desk.handled) same-at ∙ own-place) in cc

      left-handled : last.handled ≡ map nested_job (midst.front ++ midst.back)
      left-handled = ap (λ (s : Jobs). s.handled) ends.answers.2
          ∙ (ap (remove desk.handled) same-at
          ∙ (ap (λ (l : List Numbered). remove l (length front_jobs)) all-jobs
          ∙ (mid-gone front_jobs back_jobs midst.one.job
          ∙ sym (jobs-append midst.front midst.back))))

      ended-with : (b : Bool) → (IsTrue b ↔ HasAnswer answer ends.job d)
          → new.relayed ≡ old.relayed
          + by_other (record { nested = midst.one; done = d; relayed = b })
          → new.here ≡ old.here
          + by_us (record { nested = midst.one; done = d; relayed = b })
          → Ends answer d pending desk last old new later
      ended-with b right relayed here = record {
        over = record { nested = midst.one; done = d; relayed = b };
        left = midst.front ++ midst.back;
        is_done = refl;
        ended = record {
          call = own-call;
          relayed = subst (λ (n : Numbered). IsTrue b ↔ HasAnswer answer n d) same-job right;
        };
        was = record {
          before = midst.front;
          after = midst.back;
          was = midst.was;
          left = refl;
          first = none-passes midst.front;
        };
        holds = record {
          are_of = subst (λ (l : List Handed). AreHandedOf l (midst.front ++ midst.back))
              (sym back.taken.left) midst.left;
          handled = left-handled;
          numbers = subst HasNumbers (sym (ap (λ (s : Jobs). s.handled) ends.answers.2))
              (numbers-left desk.handled ends.answers.0 holds.numbers);
        };
        answered = ap (λ (s : Jobs). s.answered) ends.answers.2
            ∙ ap (λ (n : Numbered). desk.answered ++ finished answer n ∷ []) same-job;
        waiting = ap (λ (s : Jobs). s.waiting) ends.answers.2;
        relayed = relayed;
        here = here;
      }

      ended-by : CountsOne (HasAnswer answer ends.job d) old new
          → Ends answer d pending desk last old new later
      ended-by c = by c.count
        where
          by : (HasAnswer answer ends.job d × (new.relayed ≡ old.relayed + 1)
              × (new.here ≡ old.here))
              ⊎ ((HasAnswer answer ends.job d → ⊥) × (new.relayed ≡ old.relayed)
              × (new.here ≡ old.here + 1)) → Ends answer d pending desk last old new later
          by (inl (well, relayed, here)) = ended-with true ((λ t. well), (λ h. refl)) relayed
              (omega (arith, here))
          by (inr (ill, relayed, here)) =
              ended-with false ((λ (t : IsTrue false). cc), (λ h. absurd (ill h)))
              (omega (arith, relayed)) here

    pub one-ends : Settles answer d desk last old new
        → Ends answer d pending desk last old new later
    one-ends (inl ends) = ended-by ends ends.counts
    one-ends (inr nobody) = absurd (somebodys nobody.0)

-- the calls of one session end, one after another
record OneBack (d : Done) (hs : List Handed) (last : List (List Handed)) : Type 0 where
  session : ℕ
  later : List Handed
  back : HandsBack session d hs later
  is : last ≡ later ∷ []

one-back : (d : Done) (i : ℕ) (hs : List Handed) (last : List (List Handed))
    → HandsBackAt i d (hs ∷ []) last → OneBack d hs last
one-back d zero hs last h =
    let same : Some hs ≡ Some h.before = h.place in
    let is : hs ≡ h.before = cc in
    record {
      session = zero;
      later = h.later;
      back = subst (λ (l : List Handed). HandsBack zero d l h.later) (sym is) h.back;
      is = h.changed;
    }
one-back d (suc i) hs last h =
    let none : slice_get {X = List Handed} [] i ≡ Some h.before = h.place in cc

-- how all these calls end
pub record EndsAll (answer : ℕ → List ℕ → List ℕ) (ds : List Done) (pending : List Nested)
    (desk last : Jobs) (old new : Relaying) (handed : List (List Handed)) : Type 0 where
  pub over : List Over
  pub are_done : map (λ (o : Over). o.done) over ≡ ds
  pub ended : AllByRecursion (IsOver answer) over
  pub left : List Nested
  pub were : EndEach pending over left
  pub later : List Handed
  pub handed_is : handed ≡ later ∷ []
  pub holds : Holds left later last
  pub answered : last.answered ≡ desk.answered ++ map (finished answer) (map job_over over)
  pub waiting : last.waiting ≡ desk.waiting
  pub relayed : new.relayed ≡ old.relayed + count_relayed over
  pub here : new.here ≡ old.here + count_here over

pub all-end : (answer : ℕ → List ℕ → List ℕ) (ds : List Done) (pending : List Nested)
    (hs : List Handed) (desk last : Jobs) (old new : Relaying) (handed : List (List Handed))
    → Holds pending hs desk → Stands desk [] old → HandBack ds (hs ∷ []) handed
    → SettlesAll answer ds desk last old new
    → EndsAll answer ds pending desk last old new handed
all-end answer [] pending hs desk last old new handed holds stands back does = record {
  over = [];
  are_done = refl;
  ended = tt;
  left = pending;
  were = refl;
  later = hs;
  handed_is = back;
  holds = subst (λ (s : Jobs). Holds pending hs s) (sym does.0) holds;
  answered = ap (λ (s : Jobs). s.answered) does.0 ∙ sym (append-nil desk.answered);
  waiting = ap (λ (s : Jobs). s.waiting) does.0;
  relayed = let same = ap (λ (r : Relaying). r.relayed) does.1 in omega (arith, same);
  here = let same = ap (λ (r : Relaying). r.here) does.1 in omega (arith, same);
}
all-end answer (d ∷ ds) pending hs desk last old new handed holds stands back does =
    let first = one-back d d.session hs back.0 back.1 in
    let one = one-ends answer d first.session pending hs first.later desk does.0 old does.1 holds
    stands first.back does.2 in
    let rest = all-end answer ds one.left first.later does.0 last does.1 new handed one.holds does.3
    (subst (λ (l : List (List Handed)). HandBack ds l handed) first.is back.2) does.4 in
    record {
      over = one.over ∷ rest.over;
      are_done = ap₂ (λ (x : Done) (xs : List Done). x ∷ xs) one.is_done rest.are_done;
      ended = (one.ended, rest.ended);
      left = rest.left;
      were = (one.left, one.was, rest.were);
      later = rest.later;
      handed_is = rest.handed_is;
      holds = rest.holds;
      answered = rest.answered
          ∙ (ap (λ (l : List Parcel). l ++ map (finished answer) (map job_over rest.over))
          one.answered
          ∙ append_assoc desk.answered (finished answer (job_over one.over) ∷ [])
          (map (finished answer) (map job_over rest.over)));
      waiting = rest.waiting ∙ one.waiting;
      relayed =
          let a = one.relayed in
          let b = rest.relayed in
          let sum : new.relayed ≡ old.relayed + (by_other one.over + count_relayed rest.over) =
          omega (arith, a, b) in
          sum;
      here =
          let a = one.here in
          let b = rest.here in
          let sum : new.here ≡ old.here + (by_us one.over + count_here rest.over) =
          omega (arith, a, b) in
          sum;
    }
