-- Each job that was offered has room for its answer, and which offers were taken back.
use Rattle.std.proofs.Common.{◌≡◌, ℕ, zero, suc, List, [], ◌∷◌, set, refl, ap, ◌∙◌, sym, subst, arith}
use Rattle.worker_board.specs.declared.Parcel.{Parcel}
use Rattle.worker_board.specs.declared.view.Offer.{Offer}
use Rattle.worker_board.specs.declared.view.End.{End}
use Rattle.worker_board.specs.declared.view.End.TheVariants.{Open}
use Rattle.worker_board.specs.declared.view.View.{View}
use Rattle.worker_board.specs.Word.{ended, offer_of, offers_at, IsNewest}
use Rattle.worker_crew.specs.Jobs.{HasRoom}
use Rattle.worker_crew.specs.Places.{HasRoomAt, is_back, taken_back, TookNoneBack}

-- a place has the new list or its own
at-any : (P : List Offer → Type 0) (lg : List (List Offer)) (p q : ℕ) (l : List Offer) → P l
    → P (offers_at lg q) → P (offers_at (set lg p l) q)
at-any P [] p q l new own = own
at-any P (x ∷ lg) zero zero l new own = new
at-any P (x ∷ lg) zero (suc q) l new own = own
at-any P (x ∷ lg) (suc p) zero l new own = own
at-any P (x ∷ lg) (suc p) (suc q) l new own = at-any P lg p q l new own

room-ended : (answer : ℕ → List ℕ → List ℕ) (e : End) (l : List Offer) → HasRoomAt answer l
    → HasRoomAt answer (ended e l)
room-ended answer e [] h = h
room-ended answer e (o ∷ l) h = h

pub room-newest : (answer : ℕ → List ℕ → List ℕ) (x : Parcel) (l : List Offer) → IsNewest x l
    → HasRoomAt answer l → HasRoom answer x
room-newest answer x [] is h = absurd is
room-newest answer x (o ∷ l) is h = subst (HasRoom answer) is h

pub fits-given : (answer : ℕ → List ℕ → List ℕ) (lg lg' : List (List Offer)) (p : ℕ) (x : Parcel)
    → ((q : ℕ) → HasRoomAt answer (offers_at lg q)) → HasRoom answer x
    → lg' ≡ set lg p (offer_of x Open ∷ offers_at lg p) → (q : ℕ)
    → HasRoomAt answer (offers_at lg' q)
fits-given answer lg lg' p x fits room e q =
    subst (λ (m : List (List Offer)). HasRoomAt answer (offers_at m q)) (sym e)
    (at-any (HasRoomAt answer) lg p q (offer_of x Open ∷ offers_at lg p) room (fits q))

pub fits-ended : (answer : ℕ → List ℕ → List ℕ) (lg lg' : List (List Offer)) (p : ℕ) (end : End)
    → ((q : ℕ) → HasRoomAt answer (offers_at lg q))
    → lg' ≡ set lg p (ended end (offers_at lg p)) → (q : ℕ)
    → HasRoomAt answer (offers_at lg' q)
fits-ended answer lg lg' p end fits e q =
    subst (λ (m : List (List Offer)). HasRoomAt answer (offers_at m q)) (sym e)
    (at-any (HasRoomAt answer) lg p q (ended end (offers_at lg p))
    (room-ended answer end (offers_at lg p) (fits p)) (fits q))

back-ended : (end : End) (l : List Offer) → is_back end ≡ 0 → taken_back l ≡ 0
    → taken_back (ended end l) ≡ 0
back-ended end [] e h = refl
back-ended end (o ∷ l) e h = omega (arith, e, h)

-- an end that isn't a take-back leaves none
pub none-back-ended : {v v' : View} (p : ℕ) (end : End) → is_back end ≡ 0
    → v'.ledger ≡ set v.ledger p (ended end (offers_at v.ledger p)) → v'.lost ≡ v.lost
    → TookNoneBack v → TookNoneBack v'
none-back-ended {v} {v'} p end none e same t = record {
  won = λ q. subst (λ (m : List (List Offer)). taken_back (offers_at m q) ≡ 0) (sym e)
      (at-any (λ l. taken_back l ≡ 0) v.ledger p q (ended end (offers_at v.ledger p))
      (back-ended end (offers_at v.ledger p) none (t.won p)) (t.won q));
  lost = same ∙ t.lost;
}

-- nor does an offer
pub none-back-offered : {v v' : View} (p : ℕ) (x : Parcel)
    → v'.ledger ≡ set v.ledger p (offer_of x Open ∷ offers_at v.ledger p) → v'.lost ≡ v.lost
    → TookNoneBack v → TookNoneBack v'
none-back-offered {v} {v'} p x e same t =
    let none : taken_back (offer_of x Open ∷ offers_at v.ledger p) ≡ 0 = omega (arith, t.won p) in
    record {
      won = λ q. subst (λ (m : List (List Offer)). taken_back (offers_at m q) ≡ 0) (sym e)
          (at-any (λ l. taken_back l ≡ 0) v.ledger p q (offer_of x Open ∷ offers_at v.ledger p)
          none (t.won q));
      lost = same ∙ t.lost;
    }

pub none-back-same : {v v' : View} → v'.ledger ≡ v.ledger → v'.lost ≡ v.lost → TookNoneBack v
    → TookNoneBack v'
none-back-same {v} {v'} e same t = record {
  won = λ q. ap (λ (m : List (List Offer)). taken_back (offers_at m q)) e ∙ t.won q;
  lost = same ∙ t.lost;
}
