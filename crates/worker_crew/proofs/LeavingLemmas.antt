-- The jobs of a crew that stops come back.
use Rattle.std.proofs.Common.{◌≡◌, ◌≢◌, ℕ, zero, suc, ◌+◌, ◌<◌, ◌≤◌, true, false, List, [], ◌∷◌, ◌++◌}
use Rattle.std.proofs.Common.{length, take, drop, get_or, set, sym, refl, ap, ◌∙◌, subst, arith}
use Rattle.std.proofs.Common.{IsPermutation, append_assoc, add-one, inl, inr}
use mathlib.Core.List.{map-append}
use mathlib.Core.Option.{some}
use lib.ListN.{get_elem?}
use Rattle.std.specs.List.{AllByRecursion, remove}
use Rattle.std.proofs.lemmas.List.{length-append, length-drop, length-take-le}
use Rattle.std.proofs.Math.Seq.{take-append_seam, take-suc}
use Rattle.std.proofs.lemmas.List.Sorted.{IsPermutation-append_right, IsPermutation-trans}
use Rattle.rpc_base.proofs.FirstLemmas.{all-each, all-push}
use Rattle.worker_board.specs.declared.Parcel.{Parcel}
use Rattle.worker_board.specs.declared.view.Offer.{Offer}
use Rattle.worker_board.specs.declared.view.End.{End}
use Rattle.worker_board.specs.declared.view.End.TheVariants.{Open, Collected, TakenBack}
use Rattle.worker_board.specs.declared.view.View.{View}
use Rattle.worker_board.specs.Moves.{LostBefore, ended_as, lost_at}
use Rattle.worker_board.specs.Tickets.{OfferNo, offer_no}
use Rattle.worker_board.specs.Word.{IsOpen, IsNewest, ended, newest, offer_of, offers_at}
use Rattle.worker_crew.specs.declared.workers.Finished.{Finished}
use Rattle.worker_crew.specs.Dispatching.{Dispatching, place_at}
use Rattle.worker_crew.specs.Jobs.{Job, job_of, IsAnswered}
use Rattle.worker_crew.specs.Leaving.{jobs_of, ComesBack, IsLeft}
use Rattle.worker_crew.specs.Places.{newest_job}
use Rattle.worker_crew.proofs.PlacesLemmas.{here, there}
use Rattle.worker_crew.proofs.LocalLemmas.{all-without}

inside : (lg : List (List Offer)) (p : ℕ) → IsOpen (offers_at lg p) → p < length lg
inside [] p h = absurd h
inside (x ∷ lg) zero h = omega arith
inside (x ∷ lg) (suc p) h = omega (arith, inside lg p h)

-- an open offer isn't one of which the job came back
not-open : (answer : ℕ → List ℕ → List ℕ) (o : Offer) (f : Finished) → ComesBack answer o f
    → o.end ≡ Open → ⊥
not-open answer o f c is = elim c as (λ _. ⊥) [
  | inl a ↦ collected-open (sym a.1 ∙ is)
  | inr b ↦ taken-open (sym b.1 ∙ is)
]
  where
    collected-open : Collected ≡ Open → ⊥
    collected-open e = cc

    taken-open : TakenBack ≡ Open → ⊥
    taken-open e = cc

-- what came back stays so when another job ends
pub left-still : (answer : ℕ → List ℕ → List ℕ) (v v' : View) (p : ℕ) (l : List Offer)
    (f : Finished) → IsOpen (offers_at v.ledger p) → v'.ledger ≡ set v.ledger p l
    → IsLeft answer v f → IsLeft answer v' f
left-still answer v v' p l f live e left = record {
  place = left.place;
  offer = left.offer;
  older = left.older;
  last = ap (λ (m : List (List Offer)). offers_at m left.place) e
      ∙ there v.ledger p left.place l other ∙ left.last;
  comes = left.comes;
}
  where
    other : left.place ≢ p
    other same = not-open answer left.offer f left.comes (subst IsOpen left.last
        (subst (λ (q : ℕ). IsOpen (offers_at v.ledger q)) (sym same) live))

pub left-same : (answer : ℕ → List ℕ → List ℕ) (v v' : View) (f : Finished)
    → v'.ledger ≡ v.ledger → IsLeft answer v f → IsLeft answer v' f
left-same answer v v' f e left = record {
  place = left.place;
  offer = left.offer;
  older = left.older;
  last = ap (λ (m : List (List Offer)). offers_at m left.place) e ∙ left.last;
  comes = left.comes;
}

-- a job that was taken back
pub left-back : (answer : ℕ → List ℕ → List ℕ) (v v' : View) (p : ℕ) (x : Parcel)
    → IsOpen (offers_at v.ledger p) → IsNewest x (offers_at v.ledger p)
    → v'.ledger ≡ set v.ledger p (ended TakenBack (offers_at v.ledger p))
    → IsLeft answer v' (record { parcel = x; worked = false })
left-back answer v v' p x live is e =
    go (offers_at v.ledger p) is
    (ap (λ (m : List (List Offer)). offers_at m p) e
    ∙ here v.ledger p (ended TakenBack (offers_at v.ledger p)) (inside v.ledger p live))
  where
    go : (l : List Offer) → IsNewest x l → offers_at v'.ledger p ≡ ended TakenBack l
        → IsLeft answer v' (record { parcel = x; worked = false })
    go [] is at = absurd is
    go (o ∷ l) is at = record {
      place = p;
      offer = offer_of o.parcel TakenBack;
      older = l;
      last = at;
      comes = inr (refl, refl, sym is);
    }

-- a job that was collected
pub left-done : (answer : ℕ → List ℕ → List ℕ) (v v' : View) (p : ℕ) (x : Parcel)
    → IsOpen (offers_at v.ledger p) → newest_job (offers_at v.ledger p) ≡ job_of x
    → IsAnswered answer x → v'.ledger ≡ set v.ledger p (ended Collected (offers_at v.ledger p))
    → IsLeft answer v' (record { parcel = x; worked = true })
left-done answer v v' p x live is done e =
    go (offers_at v.ledger p) live is
    (ap (λ (m : List (List Offer)). offers_at m p) e
    ∙ here v.ledger p (ended Collected (offers_at v.ledger p)) (inside v.ledger p live))
  where
    go : (l : List Offer) → IsOpen l → newest_job l ≡ job_of x
        → offers_at v'.ledger p ≡ ended Collected l
        → IsLeft answer v' (record { parcel = x; worked = true })
    go [] live is at = absurd live
    go (o ∷ l) live is at = record {
      place = p;
      offer = offer_of o.parcel Collected;
      older = l;
      last = at;
      comes = inl (refl, refl, sym is, done);
    }

newest-ended : (e : End) (l : List Offer) → newest (ended e l) ≡ newest l
newest-ended e [] = refl
newest-ended e (o ∷ l) = refl

newest-set : (e : End) (lg : List (List Offer)) (p q : ℕ)
    → newest (offers_at (set lg p (ended e (offers_at lg p))) q) ≡ newest (offers_at lg q)
newest-set e [] p q = refl
newest-set e (x ∷ lg) zero zero = newest-ended e x
newest-set e (x ∷ lg) zero (suc q) = refl
newest-set e (x ∷ lg) (suc p) zero = refl
newest-set e (x ∷ lg) (suc p) (suc q) = newest-set e lg p q

-- a take-back that was lost stays so when a job ends
pub lost-ended : (v v' : View) (e : End) (p q : ℕ) → v' ≡ ended_as e v p → LostBefore v q
    → LostBefore v' q
lost-ended v v' e p q is h = subst (λ (w : View). LostBefore w q) (sym is) (
  h.0,
  h.1 ∙ ap (λ (n : ℕ). some (offer_no q n)) (sym (newest-set e v.ledger p q)),
)

pub lost-more : (v v' : View) (p g q : ℕ) → v' ≡ lost_at v p g → LostBefore v q → LostBefore v' q
lost-more v v' p g q is h = subst (λ (w : View). LostBefore w q) (sym is) (suc h.0, h.1)

pub lost-now : (v v' : View) (p : ℕ) → v' ≡ lost_at v p (newest (offers_at v.ledger p))
    → LostBefore v' p
lost-now v v' p is = subst (λ (w : View). LostBefore w p) (sym is) (zero, refl)

pub lost-same : (v v' : View) (q : ℕ) → v'.ledger ≡ v.ledger → v'.lost ≡ v.lost → LostBefore v q
    → LostBefore v' q
lost-same v v' q a b h = (
  h.0,
  ap (λ (l : List OfferNo). get_elem? l h.0) b ∙ h.1
      ∙ ap (λ (m : List (List Offer)). some (offer_no q (newest (offers_at m q)))) (sym a),
)

-- one job more came back, and one fewer is out
pub one-comes : {all now later : List Job} (fs fs' : List Finished) (f : Finished)
    → IsPermutation all (jobs_of fs ++ now) → IsPermutation now (job_of f.parcel ∷ later)
    → fs' ≡ fs ++ f ∷ [] → IsPermutation all (jobs_of fs' ++ later)
one-comes {all} {now} {later} fs fs' f h one e =
    subst (λ (l : List Job). IsPermutation all l)
    (sym (append_assoc (jobs_of fs) (job_of f.parcel ∷ []) later)
    ∙ ap (λ (l : List Job). l ++ later) (sym (map-append (λ (x : Finished). job_of x.parcel) fs (f ∷
    [])) ∙ sym (ap jobs_of e)))
    (IsPermutation-trans all (jobs_of fs ++ now) (jobs_of fs ++ job_of f.parcel ∷ later) h
    (IsPermutation-append_right (jobs_of fs) now (job_of f.parcel ∷ later) one))

module _ (answer : ℕ → List ℕ → List ℕ) (s s' : Dispatching) (i : ℕ) (x : Parcel)
    (live : IsOpen (offers_at s.view.ledger (place_at i s))) where
  -- with a job that was taken back
  pub all-left-back : (fs fs' : List Finished)
      → IsNewest x (offers_at s.view.ledger (place_at i s))
      → s'.view ≡ ended_as TakenBack s.view (place_at i s)
      → fs' ≡ fs ++ record { parcel = x; worked = false } ∷ []
      → AllByRecursion (IsLeft answer s.view) fs → AllByRecursion (IsLeft answer s'.view) fs'
  all-left-back fs fs' is e f left =
      let ledger : s'.view.ledger ≡ set s.view.ledger (place_at i s)
      (ended TakenBack (offers_at s.view.ledger (place_at i s))) =
      ap (λ (v : View). v.ledger) e in
      subst (λ (l : List Finished). AllByRecursion (IsLeft answer s'.view) l) (sym f)
      (all-push (IsLeft answer s'.view) fs (record { parcel = x; worked = false })
      (all-each (IsLeft answer s.view) (IsLeft answer s'.view) fs
      (λ g. left-still answer s.view s'.view (place_at i s)
      (ended TakenBack (offers_at s.view.ledger (place_at i s))) g live ledger)
      left)
      (left-back answer s.view s'.view (place_at i s) x live is ledger))

  -- with a job that was collected
  pub all-left-done : (fs fs' : List Finished)
      → newest_job (offers_at s.view.ledger (place_at i s)) ≡ job_of x → IsAnswered answer x
      → s'.view ≡ ended_as Collected s.view (place_at i s)
      → fs' ≡ fs ++ record { parcel = x; worked = true } ∷ []
      → AllByRecursion (IsLeft answer s.view) fs → AllByRecursion (IsLeft answer s'.view) fs'
  all-left-done fs fs' is done e f left =
      let ledger : s'.view.ledger ≡ set s.view.ledger (place_at i s)
      (ended Collected (offers_at s.view.ledger (place_at i s))) =
      ap (λ (v : View). v.ledger) e in
      subst (λ (l : List Finished). AllByRecursion (IsLeft answer s'.view) l) (sym f)
      (all-push (IsLeft answer s'.view) fs (record { parcel = x; worked = true })
      (all-each (IsLeft answer s.view) (IsLeft answer s'.view) fs
      (λ g. left-still answer s.view s'.view (place_at i s)
      (ended Collected (offers_at s.view.ledger (place_at i s))) g live ledger)
      left)
      (left-done answer s.view s'.view (place_at i s) x live is done ledger))

pub all-left-same : (answer : ℕ → List ℕ → List ℕ) (v v' : View) (fs : List Finished)
    → v'.ledger ≡ v.ledger → AllByRecursion (IsLeft answer v) fs
    → AllByRecursion (IsLeft answer v') fs
all-left-same answer v v' fs e left =
    all-each (IsLeft answer v) (IsLeft answer v') fs (λ f. left-same answer v v' f e) left

-- those before i are as they were
kept-front : (busy : List ℕ) (i : ℕ) → i ≤ length busy → take i (remove busy i) ≡ take i busy
kept-front busy i near =
    ap (λ (n : ℕ). take n (remove busy i)) (sym (length-take-le i busy near))
    ∙ take-append_seam (take i busy) (drop (suc i) busy)

pub all-lost-back : (s s' : Dispatching) (i : ℕ) → i ≤ length s.busy
    → s' ≡ record s { busy = remove s.busy i; view = ended_as TakenBack s.view (place_at i s) }
    → AllByRecursion (LostBefore s.view) (take i s.busy)
    → AllByRecursion (LostBefore s'.view) (take i s'.busy)
all-lost-back s s' i near e lost =
    subst (λ (l : List ℕ). AllByRecursion (LostBefore s'.view) l)
    (sym (ap (λ (t : Dispatching). take i t.busy) e ∙ kept-front s.busy i near))
    (all-each (LostBefore s.view) (LostBefore s'.view) (take i s.busy)
    (λ q. lost-ended s.view s'.view TakenBack (place_at i s) q (ap (λ (t : Dispatching). t.view) e)) lost)

pub all-lost-done : (s s' : Dispatching)
    → s' ≡ record s { busy = remove s.busy 0; view = ended_as Collected s.view (place_at 0 s) }
    → AllByRecursion (LostBefore s.view) s.busy → AllByRecursion (LostBefore s'.view) s'.busy
all-lost-done s s' e lost =
    subst (λ (l : List ℕ). AllByRecursion (LostBefore s'.view) l)
    (sym (ap (λ (t : Dispatching). t.busy) e))
    (all-each (LostBefore s.view) (LostBefore s'.view) (remove s.busy 0)
    (λ q. lost-ended s.view s'.view Collected (place_at 0 s) q (ap (λ (t : Dispatching). t.view) e))
    (all-without (LostBefore s.view) s.busy 0 lost))

one-further : (busy : List ℕ) (i : ℕ) → i < length busy
    → take (i + 1) busy ≡ take i busy ++ get_or busy i 0 ∷ []
one-further busy i near = ap (λ (n : ℕ). take n busy) (add-one i) ∙ take-suc busy i 0 near

pub all-lost-more : (s s' : Dispatching) (i : ℕ) → i < length s.busy
    → s' ≡ record s { view = lost_at s.view (place_at i s) (newest (offers_at s.view.ledger (place_at i s))) }
    → AllByRecursion (LostBefore s.view) (take i s.busy)
    → AllByRecursion (LostBefore s'.view) (take (i + 1) s'.busy)
all-lost-more s s' i near e lost =
    let seen : s'.view ≡ lost_at s.view (place_at i s) (newest (offers_at s.view.ledger (place_at i s))) =
    ap (λ (t : Dispatching). t.view) e in
    subst (λ (l : List ℕ). AllByRecursion (LostBefore s'.view) l)
    (sym (ap (λ (t : Dispatching). take (i + 1) t.busy) e ∙ one-further s.busy i near))
    (all-push (LostBefore s'.view) (take i s.busy) (place_at i s)
    (all-each (LostBefore s.view) (LostBefore s'.view) (take i s.busy)
    (λ q. lost-more s.view s'.view (place_at i s) (newest (offers_at s.view.ledger (place_at i s))) q seen) lost)
    (lost-now s.view s'.view (place_at i s) seen))

pub all-lost-same : (s s' : Dispatching) → s'.busy ≡ s.busy → s'.view.ledger ≡ s.view.ledger
    → s'.view.lost ≡ s.view.lost → AllByRecursion (LostBefore s.view) s.busy
    → AllByRecursion (LostBefore s'.view) s'.busy
all-lost-same s s' a b c lost =
    subst (λ (l : List ℕ). AllByRecursion (LostBefore s'.view) l) (sym a)
    (all-each (LostBefore s.view) (LostBefore s'.view) s.busy (λ q. lost-same s.view s'.view q b c) lost)

pub one-fewer : (busy busy' : List ℕ) (i : ℕ) → i < length busy → busy' ≡ remove busy i
    → length busy' + 1 ≡ length busy
one-fewer busy busy' i near e =
    omega (
      arith,
      ap length e,
      length-append (take i busy) (drop (suc i) busy),
      length-take-le i busy (omega arith),
      length-drop (suc i) busy,
    )
