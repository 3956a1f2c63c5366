-- The places of a board, as jobs are given and taken.
use Rattle.std.proofs.Common.{◌≡◌, ◌≢◌, ℕ, suc, ◌+◌, ◌<◌, ◌≤◌, true, false, List, [], ◌∷◌, ◌++◌}
use Rattle.std.proofs.Common.{length, map, take, drop, get_or, set, sym, refl, ap, ap₂, ◌∙◌, subst}
use Rattle.std.proofs.Common.{arith, IsPermutation, length-set, get_or-set_other, get_or-set_same}
use mathlib.Core.Logic.{dite}
use native.Mathlib.Decide.{ℕ_discrete}
use mathlib.Core.List.{map-append}
use Rattle.std.proofs.lemmas.List.{take-append-drop, length-take-le, length-map}
use Rattle.std.proofs.lemmas.Grind.{get_or_default_zero}
use Rattle.std.proofs.lemmas.List.Sorted.{IsPermutation-middle}
use Rattle.std.proofs.Math.Seq.{drop-cons, take-append_seam, drop-append_seam}
use Rattle.std.specs.Prelude.{Option, Some, option_to_list}
use Rattle.rpc_base.specs.Totals.{only}
use Rattle.rpc_base.proofs.TotalsLemmas.{only-same, only-other}
use Rattle.worker_board.specs.declared.Parcel.{Parcel}
use Rattle.worker_board.specs.declared.view.Offer.{Offer}
use Rattle.worker_board.specs.declared.view.End.{End}
use Rattle.worker_board.specs.declared.view.End.TheVariants.{Open, Collected, TakenBack}
use Rattle.worker_board.specs.Counts.{times}
use Rattle.worker_board.specs.Word.{IsOpen, IsClosed, ended, offers_at, IsNewest, IsOfferedJob}
use Rattle.worker_board.specs.Word.{job_of as board_job}
use Rattle.worker_board.specs.declared.view.Job.{Job as BoardJob}
use Rattle.worker_board.proofs.CountsLemmas.{total-append}
use Rattle.worker_crew.specs.Jobs.{Job, job_of}
use Rattle.worker_crew.specs.Places.{is_open_end, is_open, newest_job, jobs_at, put_at, IsKept}

pub closed-place : (l : List Offer) → is_open l ≡ false → IsClosed l
closed-place [] e = tt
closed-place (o ∷ older) e = λ is. let h : is_open_end Open ≡ false = ap is_open_end (sym is) ∙ e in absurd (cc)

pub open-place : (l : List Offer) → is_open l ≡ true → IsOpen l
open-place [] e = absurd (cc)
open-place (o ∷ older) e = go o.end e
  where
    go : (x : End) → is_open_end x ≡ true → x ≡ Open
    go Open e = refl
    go Collected e = absurd (cc)
    go TakenBack e = absurd (cc)

pub here : (lg : List (List Offer)) (p : ℕ) (l : List Offer) → p < length lg
    → offers_at (set lg p l) p ≡ l
here lg p l near = get_or-set_same lg p l [] near

pub there : (lg : List (List Offer)) (p q : ℕ) (l : List Offer) → q ≢ p
    → offers_at (set lg p l) q ≡ offers_at lg q
there lg p q l ne = get_or-set_other lg p q l [] ne

-- a place with the new list, and each other place as it was
pub at-set : (P : ℕ → List Offer → Type 0) (lg : List (List Offer)) (p q : ℕ) (l : List Offer)
    → p < length lg → (q ≡ p → P q l) → (q ≢ p → P q (offers_at lg q))
    → P q (offers_at (set lg p l) q)
at-set P lg p q l near this other = dite (ℕ_discrete q p)
    (λ e. subst (P q) (sym (ap (λ (i : ℕ). offers_at (set lg p l) i) e ∙ here lg p l near)) (this e))
    (λ ne. subst (P q) (sym (there lg p q l ne)) (other ne))

-- jobs elsewhere stay
pub jobs-same : (lg : List (List Offer)) (p : ℕ) (l : List Offer) (busy : List ℕ)
    → times p busy ≡ 0 → jobs_at (set lg p l) busy ≡ jobs_at lg busy
jobs-same lg p l [] z = refl
jobs-same lg p l (q ∷ busy) z = dite (ℕ_discrete q p)
    (λ e. absurd (omega (arith, only-same p q e)))
    (λ ne. ap₂ (λ (a : Job) (bs : List Job). a ∷ bs) (ap newest_job (there lg p q l ne))
    (jobs-same lg p l busy (omega (arith, only-other p q ne))))

map-push : (f : ℕ → Job) (xs : List ℕ) (y : ℕ) → map f (xs ++ y ∷ []) ≡ map f xs ++ f y ∷ []
map-push f [] y = refl
map-push f (x ∷ xs) y = ap (λ (js : List Job). f x ∷ js) (map-push f xs y)

seam : {A : Type 0} (xs ys : List A) (x : A)
    → xs ++ x ∷ ys ≡ put_at (length xs) x (xs ++ ys)
seam {A} xs ys x = ap₂ (λ (a b : List A). a ++ x ∷ b) (sym (take-append_seam xs ys))
    (sym (drop-append_seam xs ys))

module _ (places given p : ℕ) (lg : List (List Offer)) (free busy : List ℕ)
    (k : IsKept places given lg (free ++ p ∷ []) busy) where
  last : times p (free ++ p ∷ []) ≡ times p free + 1
  last = omega (arith, total-append (only p) free (p ∷ []), only-same p p refl)

  pub near : p < places
  near = k.inside p (omega (arith, last))

  pub is-free : is_open (offers_at lg p) ≡ false
  is-free = k.closed p (omega (arith, last))

  not-busy : times p busy ≡ 0
  not-busy = omega (arith, k.once p, last)

  pub given-to : (o : Offer) → o.end ≡ Open
      → IsKept places (given + 1) (set lg p (o ∷ offers_at lg p)) free (busy ++ p ∷ [])
  given-to o live =
      let l : List Offer = o ∷ offers_at lg p in
      let wide : p < length lg = omega (arith, k.wide, near) in
      let f : (q : ℕ) → times q (free ++ p ∷ []) ≡ times q free + only q p =
      λ q. omega (arith, total-append (only q) free (p ∷ [])) in
      let b : (q : ℕ) → times q (busy ++ p ∷ []) ≡ times q busy + only q p =
      λ q. omega (arith, total-append (only q) busy (p ∷ [])) in
      record {
        inside = λ q h. k.inside q (omega (arith, f q, b q));
        once = λ q. omega (arith, k.once q, f q, b q);
        opened = λ q h. at-set (λ _ x. is_open x ≡ true) lg p q l wide (λ _. ap is_open_end live)
            (λ ne. k.opened q (omega (arith, b q, only-other q p (λ e. ne (sym e)))));
        closed = λ q h. at-set (λ _ x. is_open x ≡ false) lg p q l wide
            (λ e. absurd (omega (
              arith,
              ap (λ (i : ℕ). times i free) e,
              ap (λ (i : ℕ). times i busy)
                  e,
              not-busy,
              k.once p,
              last,
              h,
            )))
            (λ ne. k.closed q (omega (arith, f q)));
        few = λ q. at-set (λ _ x. length x ≤ given + 1) lg p q l wide
            (λ _. omega (arith, k.few p)) (λ _. omega (arith, k.few q));
        wide = length-set lg p l ∙ k.wide;
      }

  pub jobs-given : (o : Offer) → jobs_at (set lg p (o ∷ offers_at lg p)) (busy ++ p ∷ [])
      ≡ jobs_at lg busy ++ job_of o.parcel ∷ []
  jobs-given o =
      let l : List Offer = o ∷ offers_at lg p in
      let wide : p < length lg = omega (arith, k.wide, near) in
      map-push (λ q. newest_job (offers_at (set lg p l) q)) busy p
      ∙ ap₂ (λ (js : List Job) (j : Job). js ++ j ∷ []) (jobs-same lg p l busy not-busy)
      (ap newest_job (here lg p l wide))

pub popped : {places given : ℕ} {lg : List (List Offer)} {was busy : List ℕ} {o : Option ℕ}
    (p : ℕ) (free : List ℕ) → IsKept places given lg was busy → was ≡ free ++ option_to_list o
    → o ≡ Some p → IsKept places given lg (free ++ p ∷ []) busy
popped {places} {given} {lg} {was} {busy} {o} p free k e is =
    subst (λ (l : List ℕ). IsKept places given lg l busy)
    (e ∙ ap (λ (x : Option ℕ). free ++ option_to_list x) is) k

pub given-now : {places given : ℕ} {lg lg' : List (List Offer)} {busy busy' : List ℕ} (p : ℕ)
    (free : List ℕ) (o : Offer) → IsKept places given lg (free ++ p ∷ []) busy → o.end ≡ Open
    → lg' ≡ set lg p (o ∷ offers_at lg p) → busy' ≡ busy ++ p ∷ []
    → IsKept places (given + 1) lg' free busy'
given-now {places} {given} {lg} {lg'} {busy} {busy'} p free o k live a b =
    subst (λ (x : List (List Offer) × List ℕ). IsKept places (given + 1) x.0 free x.1)
    (λ i. (sym a i, sym b i)) (given-to places given p lg free busy k o live)

pub jobs-now : {places given : ℕ} {lg lg' : List (List Offer)} {busy busy' : List ℕ} (p : ℕ)
    (free : List ℕ) (o : Offer) → IsKept places given lg (free ++ p ∷ []) busy
    → lg' ≡ set lg p (o ∷ offers_at lg p) → busy' ≡ busy ++ p ∷ []
    → jobs_at lg' busy' ≡ jobs_at lg busy ++ job_of o.parcel ∷ []
jobs-now {places} {given} {lg} {lg'} {busy} {busy'} p free o k a b =
    ap₂ jobs_at a b ∙ jobs-given places given p lg free busy k o

pub split-at : (l : List ℕ) (i p : ℕ) → i < length l → p ≡ get_or l i p
    → l ≡ take i l ++ p ∷ drop (suc i) l
split-at l i p near at = sym (take-append-drop i l) ∙ ap (λ (r : List ℕ). take i l ++ r)
    (drop-cons l i p near ∙ ap (λ (x : ℕ). x ∷ drop (suc i) l) (sym at))

times-split : (q p : ℕ) (xs ys : List ℕ)
    → times q (xs ++ p ∷ ys) ≡ times q xs + only q p + times q ys
times-split q p xs ys = omega (arith, total-append (only q) xs (p ∷ ys))

ended-shut : (l : List Offer) (e : End) → is_open_end e ≡ false → is_open (ended e l) ≡ false
ended-shut [] e h = refl
ended-shut (o ∷ l) e h = h

ended-length : (l : List Offer) (e : End) → length (ended e l) ≡ length l
ended-length [] e = refl
ended-length (o ∷ l) e = refl

-- the place of index i, of those with an open offer
module _ (places given i p : ℕ) (lg : List (List Offer)) (free busy : List ℕ)
    (k : IsKept places given lg free busy) (near-i : i < length busy) (at : p ≡ get_or busy i p) where
  counts : (q : ℕ) → times q busy ≡ times q (take i busy) + only q p + times q (drop (suc i) busy)
  counts q = ap (times q) (split-at busy i p near-i at)
      ∙ times-split q p (take i busy) (drop (suc i) busy)

  pub stands : 0 < times p busy
  stands = omega (arith, counts p, only-same p p refl)

  pub place-in : p < places
  place-in = k.inside p (omega (arith, stands))

  pub place-open : IsOpen (offers_at lg p)
  place-open = open-place (offers_at lg p) (k.opened p stands)

  pub taken-from : (e : End) → is_open_end e ≡ false
      → IsKept places given (set lg p (ended e (offers_at lg p))) (free ++ p ∷ [])
      (take i busy ++ drop (suc i) busy)
  taken-from e over =
      let l : List Offer = ended e (offers_at lg p) in
      let wide : p < length lg = omega (arith, k.wide, place-in) in
      let f : (q : ℕ) → times q (free ++ p ∷ []) ≡ times q free + only q p =
      λ q. omega (arith, total-append (only q) free (p ∷ [])) in
      let b : (q : ℕ) → times q (take i busy ++ drop (suc i) busy) + only q p ≡ times q busy =
      λ q. omega (arith, total-append (only q) (take i busy) (drop (suc i) busy), counts q) in
      record {
        inside = λ q h. k.inside q (omega (arith, f q, b q));
        once = λ q. omega (arith, k.once q, f q, b q);
        opened = λ q h. at-set (λ _ x. is_open x ≡ true) lg p q l wide
            (λ same. absurd (omega (arith, b q, k.once q, only-same q p (sym same))))
            (λ ne. k.opened q (omega (arith, b q)));
        closed = λ q h. at-set (λ _ x. is_open x ≡ false) lg p q l wide
            (λ _. ended-shut (offers_at lg p) e over)
            (λ ne. k.closed q (omega (arith, f q, only-other q p (λ same. ne (sym same)))));
        few = λ q. at-set (λ _ x. length x ≤ given) lg p q l wide
            (λ _. omega (arith, k.few p, ended-length (offers_at lg p) e)) (λ _. k.few q);
        wide = length-set lg p l ∙ k.wide;
      }

  none-left : times p (take i busy) + times p (drop (suc i) busy) ≡ 0
  none-left = omega (arith, counts p, k.once p, only-same p p refl)

  pub jobs-taken : (e : End) → jobs_at lg busy ≡ put_at i (newest_job (offers_at lg p))
      (jobs_at (set lg p (ended e (offers_at lg p))) (take i busy ++ drop (suc i) busy))
  jobs-taken e =
      let f : ℕ → Job = λ q. newest_job (offers_at lg q) in
      let xs : List ℕ = take i busy in
      let ys : List ℕ = drop (suc i) busy in
      let none : times p (xs ++ ys) ≡ 0 = omega (arith, total-append (only p) xs ys, none-left) in
      let count : length (map f xs) ≡ i =
      length-map xs f ∙ length-take-le i busy (omega arith) in
      ap (map f) (split-at busy i p near-i at) ∙ map-append f xs (p ∷ ys)
      ∙ seam (map f xs) (map f ys) (f p)
      ∙ ap₂ (λ (n : ℕ) (js : List Job). put_at n (f p) js) count
      (sym (map-append f xs ys) ∙ sym (jobs-same lg p (ended e (offers_at lg p)) (xs ++ ys) none))

pub kept-now : {places given : ℕ} {lg lg' : List (List Offer)} {free free' busy busy' : List ℕ}
    (i p : ℕ) (e : End) → IsKept places given lg free busy → i < length busy → p ≡ get_or busy i p
    → is_open_end e ≡ false → lg' ≡ set lg p (ended e (offers_at lg p)) → free' ≡ free ++ p ∷ []
    → busy' ≡ take i busy ++ drop (suc i) busy → IsKept places given lg' free' busy'
kept-now {places} {given} {lg} {lg'} {free} {free'} {busy} {busy'} i p e k near-i at over a b c =
    subst (λ (x : List (List Offer) × List ℕ × List ℕ). IsKept places given x.0 x.1 x.2)
    (λ t. (sym a t, sym b t, sym c t)) (taken-from places given i p lg free busy k near-i at e over)

pub jobs-left : {places given : ℕ} {lg lg' : List (List Offer)} {free busy busy' : List ℕ}
    (i p : ℕ) (e : End) (j : Job) → IsKept places given lg free busy → i < length busy
    → p ≡ get_or busy i p → newest_job (offers_at lg p) ≡ j
    → lg' ≡ set lg p (ended e (offers_at lg p)) → busy' ≡ take i busy ++ drop (suc i) busy
    → jobs_at lg busy ≡ put_at i j (jobs_at lg' busy')
jobs-left {places} {given} {lg} {lg'} {free} {busy} {busy'} i p e j k near-i at is a b =
    jobs-taken places given i p lg free busy k near-i at e
    ∙ ap₂ (λ (x : Job) (js : List Job). put_at i x js) is (ap₂ jobs_at (sym a) (sym b))

pub offered-job : (l : List Offer) (x : Parcel) → IsNewest x l → newest_job l ≡ job_of x
offered-job [] x o = absurd o
offered-job (o ∷ l) x e = ap job_of e

pub same-job : (l : List Offer) (x : Parcel) → IsOfferedJob (board_job x) l
    → newest_job l ≡ job_of x
same-job [] x o = absurd o
same-job (o ∷ l) x e = ap (λ (j : BoardJob). record {
  session = j.session;
  request = j.request;
  req_type = j.req_type;
  ask = j.ask;
}) e

pub left-one : {js js' : List Job} (i : ℕ) (j : Job) → js ≡ put_at i j js'
    → IsPermutation js (j ∷ js')
left-one {js} {js'} i j e =
    subst (λ (l : List Job). IsPermutation l (j ∷ js')) (sym e)
    (subst (λ (l : List Job). IsPermutation (put_at i j js') (j ∷ l)) (take-append-drop i js')
    (IsPermutation-middle (take i js') j (drop i js')))

pub offered-at : {places given : ℕ} {lg : List (List Offer)} {free busy : List ℕ} (i : ℕ)
    → IsKept places given lg free busy → i < length busy
    → IsOpen (offers_at lg (get_or busy i 0))
offered-at {places} {given} {lg} {free} {busy} i k near =
    place-open places given i (get_or busy i 0) lg free busy k near
    (sym (get_or_default_zero busy i (get_or busy i 0) near))

-- the place that was read is the one at i
pub read-at : (busy : List ℕ) (i p : ℕ) → i < length busy → p ≡ get_or busy i p
    → p ≡ get_or busy i 0
read-at busy i p near at = at ∙ get_or_default_zero busy i p near
