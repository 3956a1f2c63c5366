-- The tickets of jobs: those that were looked at, and that of the job given last.
use Rattle.std.proofs.Common.{◌≡◌, ℕ, ◌+◌, ◌-◌, ◌<◌, List, [], ◌∷◌, ◌++◌, length, map, take}
use Rattle.std.proofs.Common.{reverse, set, get_or, sym, ap, ap₂, ◌∙◌, subst, arith}
use Rattle.std.proofs.lemmas.List.{length-append, map_more, reverse-append}
use Rattle.std.proofs.Math.Seq.{get_or-append_seam}
use Rattle.worker_board.specs.declared.view.Offer.{Offer}
use Rattle.worker_board.specs.Moves.{missed}
use Rattle.worker_board.specs.Tickets.{OfferNo, offer_no}
use Rattle.worker_board.specs.Word.{newest, offers_at}
use Rattle.worker_crew.specs.Dispatching.{Dispatching, FoundUnfinishedJobs, place_at, ticket_at}
use Rattle.worker_crew.specs.Places.{IsKept}
use Rattle.worker_crew.proofs.PlacesLemmas.{here, near}

-- the next job was found unfinished too
pub found-more : (s t u : Dispatching) (i : ℕ) → i < length s.busy → FoundUnfinishedJobs i s t
    → u ≡ record t { view = missed t.view (place_at i t) } → FoundUnfinishedJobs (i + 1) s u
found-more s t u i inside f e =
    subst (λ (x : Dispatching). FoundUnfinishedJobs (i + 1) s x) (sym e) (record {
      board = f.board;
      places = f.places;
      given = f.given;
      busy = f.busy;
      ledger = f.ledger;
      lost = f.lost;
      out = f.out;
      looks = omega (arith, f.looks);
      misses = ap₂ (λ (lg : List (List Offer)) (p : ℕ). offer_no p (newest (offers_at lg p))
          ∷ t.view.misses) f.ledger (ap (λ (ps : List ℕ). get_or ps i 0) f.busy)
          ∙ ap (λ (l : List OfferNo). ticket_at s.view (place_at i s) ∷ l) f.misses
          ∙ ap (λ (l : List OfferNo). l ++ s.view.misses) (sym next);
      put = f.put;
      told = f.told;
    })
  where
    next : reverse (map (ticket_at s.view) (take (i + 1) s.busy))
        ≡ ticket_at s.view (place_at i s) ∷ reverse (map (ticket_at s.view) (take i s.busy))
    next = ap reverse (map_more (ticket_at s.view) s.busy i 0 inside)
        ∙ reverse-append (map (ticket_at s.view) (take i s.busy))
        (ticket_at s.view (place_at i s) ∷ [])

-- the job that was given last stands last, at the place that was offered
pub ticket-now : {places given : ℕ} {lg lg' : List (List Offer)} {busy busy' : List ℕ}
    (p : ℕ) (free : List ℕ) (o : Offer) → IsKept places given lg (free ++ p ∷ []) busy
    → lg' ≡ set lg p (o ∷ offers_at lg p) → busy' ≡ busy ++ p ∷ []
    → offer_no (get_or busy' (length busy' - 1) 0) (newest (offers_at lg' (get_or busy' (length busy' - 1) 0)))
    ≡ offer_no p (length (offers_at lg p))
ticket-now {places} {given} {lg} {lg'} {busy} {busy'} p free o k a b =
    ap₂ (λ (l : List (List Offer)) (q : ℕ). offer_no q (newest (offers_at l q))) a last
    ∙ ap (λ (l : List Offer). offer_no p (newest l))
    (here lg p (o ∷ offers_at lg p) (omega (arith, k.wide, near places given p lg free busy k)))
  where
    seam : length (busy ++ p ∷ []) - 1 ≡ length busy
    seam = omega (arith, length-append busy (p ∷ []))

    last : get_or busy' (length busy' - 1) 0 ≡ p
    last = ap (λ (l : List ℕ). get_or l (length l - 1) 0) b
        ∙ ap (λ (n : ℕ). get_or (busy ++ p ∷ []) n 0) seam ∙ get_or-append_seam busy p [] 0
