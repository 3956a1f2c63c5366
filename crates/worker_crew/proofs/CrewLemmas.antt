-- A crew keeps to how it works.
use Rattle.std.proofs.Common.{◌≡◌, ℕ, ◌+◌, ◌≤◌, true, false, List, [], ◌∷◌, ◌++◌, length, subst, sym}
use Rattle.std.proofs.Common.{ap, ◌∙◌, arith, IsPermutation, length-append}
use Rattle.std.proofs.lemmas.List.Sorted.{IsPermutation-middle, IsPermutation-sym}
use Rattle.std.proofs.lemmas.List.{append-nil}
use Rattle.worker_board.specs.declared.Parcel.{Parcel}
use Rattle.worker_board.specs.declared.view.View.{View}
use Rattle.worker_board.specs.Moves.{offered}
use Rattle.worker_board.specs.Tickets.{OfferNo}
use Rattle.worker_crew.specs.Jobs.{Job}
use Rattle.worker_crew.specs.Crews.{CrewState, KeepsTo}
use Rattle.worker_crew.specs.Dispatching.{Dispatching, SameCrew}
use Rattle.worker_crew.specs.Hands.{HandName}
use Rattle.worker_crew.specs.Places.{TookNoneBack}
use Rattle.worker_crew.specs.Waiting.{WaitsForRoom}
use Rattle.worker_crew.proofs.RoomLemmas.{none-back-offered}

-- a job was offered, and its ticket went out
pub keeps-given : {c : CrewState} (d e : Dispatching) (p : ℕ) (x : Parcel) (busy : List ℕ)
    (later : List OfferNo) → KeepsTo c
    → d ≡ record c.dispatching {
      given = c.dispatching.given + 1;
      busy = busy;
      view = offered c.dispatching.view p x;
    }
    → e ≡ record d { put = e.put }
    → length e.put + length later ≤ length d.put + length c.later + 1
    → WaitsForRoom d.places e.put later → KeepsTo (record c { dispatching = e; later = later })
keeps-given {c} d e p x busy later k given put few behind =
    let same : e.view ≡ offered c.dispatching.view p x =
    ap (λ (s : Dispatching). s.view) put ∙ ap (λ (s : Dispatching). s.view) given in
    record {
      alone = λ h. ap (λ (v : View). v.out) same ∙ k.alone h;
      beside = λ h. none-back-offered {v = c.dispatching.view} p x (ap (λ (v : View). v.ledger) same)
          (ap (λ (v : View). v.lost) same) (k.beside h);
      few = omega (
        arith,
        k.few,
        few,
        ap (λ (s : Dispatching). length s.put) given,
        ap (λ (s : Dispatching). s.given) given,
        ap (λ (s : Dispatching). s.given) put,
      );
      behind = subst (λ (n : ℕ). WaitsForRoom n e.put later)
          (sym (ap (λ (s : Dispatching). s.places) put)) behind;
    }

-- no ticket went out
pub waits-given : {c : CrewState} (d : Dispatching) (p : ℕ) (x : Parcel) (busy : List ℕ) → KeepsTo c
    → d ≡ record c.dispatching {
      given = c.dispatching.given + 1;
      busy = busy;
      view = offered c.dispatching.view p x;
    } → WaitsForRoom d.places d.put c.later
waits-given {c} d p x busy k given =
    subst (λ (s : Dispatching). WaitsForRoom s.places s.put c.later) (sym given) k.behind

-- a crew by itself has looked at its jobs
pub keeps-alone : {c : CrewState} (e : Dispatching) → KeepsTo c → c.by_hands ≡ false
    → SameCrew c.dispatching e
    → KeepsTo (record { dispatching = e; by_hands = false; kept = []; later = c.later })
keeps-alone {c} e k by same = record {
  alone = λ _. same.out ∙ k.alone by;
  beside = λ h. absurd (cc);
  few = omega (arith, k.few, ap length same.put, same.given);
  behind = subst (λ (x : ℕ × List OfferNo). WaitsForRoom x.0 x.1 c.later)
      (λ i. (sym same.places i, sym same.put i)) k.behind;
}

-- the oldest ticket that waits was tried, and the jobs were looked at beside hands
pub keeps-beside : {c : CrewState} (d e : Dispatching) (kept : List HandName)
    (later : List OfferNo) → KeepsTo c → c.by_hands ≡ true
    → d ≡ record c.dispatching { put = d.put }
    → d.put ++ later ≡ c.dispatching.put ++ c.later
    → WaitsForRoom c.dispatching.places d.put later → SameCrew d e
    → (TookNoneBack d.view → TookNoneBack e.view)
    → KeepsTo (record { dispatching = e; by_hands = true; kept = kept; later = later })
keeps-beside {c} d e kept later k by tried tickets behind same back = record {
  alone = λ h. absurd (cc);
  beside = λ _. back (subst TookNoneBack (sym (ap (λ (s : Dispatching). s.view) tried)) (k.beside by));
  few = omega (
    arith,
    k.few,
    ap length tickets,
    length-append d.put later,
    length-append c.dispatching.put c.later,
    ap length same.put,
    same.given,
    ap (λ (s : Dispatching). s.given) tried,
  );
  behind = subst (λ (x : ℕ × List OfferNo). WaitsForRoom x.0 x.1 later)
      (λ i. (sym (same.places ∙ ap (λ (s : Dispatching). s.places) tried) i, sym same.put i)) behind;
}

-- one more behind the others
pub one-more : {js js' : List Job} (j : Job) → js' ≡ js ++ j ∷ [] → IsPermutation (j ∷ js) js'
one-more {js} {js'} j e = IsPermutation-sym _ _ (subst (λ (l : List Job). IsPermutation l (j ∷ js)) (sym e)
    (subst (λ (l : List Job). IsPermutation (js ++ j ∷ []) (j ∷ l)) (append-nil js)
    (IsPermutation-middle js j [])))
