-- What each step tells: of the step, the seat before, the number found and the seat after. Each
-- step notes the word that it leaves.
use Rattle.std.specs.Prelude.{◌≡◌, ◌≢◌, ℕ, suc, ◌/◌, ◌%◌, ◌<◌, ◌≤◌, List, [], ◌∷◌, ◌++◌, Some, None}
use Rattle.std.specs.Prelude.{slice_set}
use mathlib.Core.Option.{some}
use lib.ListN.{get_elem?}
use Rattle.atomic_table.specs.Table.{Me, Step, rest}
use Rattle.worker_board.specs.Tickets.{offer_no}
use Rattle.worker_board.specs.declared.word.TheConstants.{PHASES, READY, OVER}
use Rattle.worker_board.specs.declared.Parcel.{Parcel}
use Rattle.worker_board.specs.declared.view.Job.{Job}
use Rattle.worker_board.specs.declared.view.Note.{Note}
use Rattle.worker_board.specs.declared.view.Offer.{Offer}
use Rattle.worker_board.specs.declared.view.Claim.{Claim}
use Rattle.worker_board.specs.declared.view.View.{View}
use Rattle.worker_board.specs.declared.view.End.{End}
use Rattle.worker_board.specs.declared.view.End.TheVariants.{Open, Collected, TakenBack}
use Rattle.worker_board.specs.declared.view.Role.{Role}
use Rattle.worker_board.specs.declared.view.Role.TheVariants.{Dispatcher, Hand, Spent}
use Rattle.worker_board.specs.Counts.{without, removed, ran}
use Rattle.worker_board.specs.Word.{closed, word_of, IsOtherWord, IsUnfinished, word_at, job_of}
use Rattle.worker_board.specs.Word.{IsOfferedJob}
use Rattle.worker_board.specs.Word.{IsNewest, offer_of, ended, newest, offers_at}
use Rattle.worker_board.specs.Rule.{Slot, Answer, HasRoom, IsAnswered, fresh}

-- a seat: its view, and the slots that are out with it
abbrev pub Seated : Type 0
Seated = Me Slot View

abbrev pub Told : Type 1
Told = Step Slot → Seated → ℕ → Seated → Type 0

abbrev pub claim : ℕ → ℕ → Job → Claim
claim p g j = record { ticket = offer_no p g; job = j }

abbrev pub note : ℕ → ℕ → Note
note p w = record { place = p; word = w }

-- a step left the place's word so
abbrev pub noting : ℕ → ℕ → View → View
noting p w v = record v { notes = note p w ∷ v.notes }

-- the slot of the place before t is out with the seat, or for 0 none
abbrev pub turned_to : View → ℕ → View
turned_to v t = record v { turn = t }

abbrev pub with_offers : View → ℕ → List Offer → View
with_offers v p l = record v { ledger = slice_set v.ledger p l }

-- the place is offered this parcel
abbrev pub offered : View → ℕ → Parcel → View
offered v p x = with_offers v p (offer_of x Open ∷ offers_at v.ledger p)

-- the place's newest offer has ended
abbrev pub ended_as : End → View → ℕ → View
ended_as e v p = with_offers v p (ended e (offers_at v.ledger p))

-- the place's newest offer was found unfinished
abbrev pub missed : View → ℕ → View
missed v p = record v { misses = offer_no p (newest (offers_at v.ledger p)) ∷ v.misses }

-- an exchange found another word
abbrev pub lost_at : View → ℕ → ℕ → View
lost_at v p g = record v { lost = offer_no p g ∷ v.lost }

-- a claim was won
abbrev pub won : View → ℕ → ℕ → Job → View
won v p g j = record v { held = claim p g j ∷ v.held }

-- a claim was worked
abbrev pub worked : View → ℕ → ℕ → View
worked v p g = record v { held = without p v.held; runs = offer_no p g ∷ v.runs }

abbrev pub Has : {A : Type 0} → List A → A → Type 0
Has xs x = (k : ℕ) × (get_elem? xs k ≡ some x)

-- the step left the word so, and took the slot with what is in it
abbrev pub took_slot : ℕ → ℕ → Slot → View → List (ℕ × Slot) → Seated
took_slot p w x v c = (noting p w (turned_to v (suc p)), (p, x) ∷ c)

-- the step left the word so, and gave the slot back with what is in it
abbrev pub gave_slot : ℕ → ℕ → View → List (ℕ × Slot) → Seated
gave_slot p w v c = (noting p w (turned_to v 0), rest c)

-- the step left the word so, and moved no slot
abbrev pub kept_slots : ℕ → ℕ → View → List (ℕ × Slot) → Seated
kept_slots p w v c = (noting p w v, c)

-- the empty slot of a place with no open offer was taken
abbrev pub Opened : Told
Opened st m r n = (n ≡ took_slot st.word r None m.0 m.1)
    × (r ≡ word_at (offers_at m.0.ledger st.word) closed)

-- the parcel in the slot was offered
abbrev pub Readied : Told
Readied st m r n = (x : Parcel) → m.1 ≡ (st.word, Some x) ∷ rest m.1
    → n ≡ gave_slot st.word r (offered m.0 st.word x) m.1

-- the word shows the generation of the open offer
abbrev pub Numbered : Told
Numbered st m r n = (n ≡ kept_slots st.word r m.0 m.1)
    × (r / PHASES ≡ newest (offers_at m.0.ledger st.word))

-- the empty slot of a claimed place was taken
abbrev pub Reopened : Told
Reopened st m r n = n ≡ took_slot st.word r None m.0 m.1

-- the slot was given back
abbrev pub Released : Told
Released st m r n = n ≡ gave_slot st.word r m.0 m.1

-- the parcel in the slot was worked
abbrev pub Finished : Told
Finished st m r n = n ≡ gave_slot st.word r (worked m.0 st.word (st.first / PHASES)) m.1

-- the parcel of the newest offer of a place came with its answer
abbrev pub IsAnswerTo : Answer → View → ℕ → Parcel → Type 0
IsAnswerTo answer v p x = IsOfferedJob (job_of x) (offers_at v.ledger p) × IsAnswered answer x

-- the newest offer of the place is one whose take-back was lost
abbrev pub LostBefore : View → ℕ → Type 0
LostBefore v p = Has v.lost (offer_no p (newest (offers_at v.ledger p)))

-- a finished job was taken out, or the job was found unfinished; it is finished where a take-back
-- of it was lost and no hand is out; while no hand is out an unfinished job is ready
abbrev pub Looked : Answer → Told
Looked answer st m r n =
    (r % PHASES ≡ OVER → (x : Parcel) × IsAnswerTo answer m.0 st.word x
    × (n ≡ took_slot st.word r (Some x) (ended_as Collected m.0 st.word) m.1))
    × (r % PHASES ≢ OVER → n ≡ kept_slots st.word r (missed m.0 st.word) m.1)
    × (LostBefore m.0 st.word → m.0.out ≡ [] → r % PHASES ≡ OVER)
    × (r % PHASES ≡ OVER → r ≡ word_of (newest (offers_at m.0.ledger st.word)) OVER)
    × (r % PHASES ≢ OVER → IsUnfinished (newest (offers_at m.0.ledger st.word)) r)
    × (r % PHASES ≢ OVER → m.0.out ≡ []
    → r ≡ word_of (newest (offers_at m.0.ledger st.word)) READY)

-- a job was taken back as it was offered, or the exchange found another word
abbrev pub TookBack : Told
TookBack st m r n =
    (r ≡ st.first → (x : Parcel) × IsNewest x (offers_at m.0.ledger st.word)
    × (n ≡ took_slot st.word st.second (Some x) (ended_as TakenBack m.0 st.word) m.1))
    × (r ≢ st.first
    → n ≡ kept_slots st.word r (lost_at m.0 st.word (st.first / PHASES)) m.1)

-- a job was claimed, or the exchange found another word of the place
abbrev pub Tried : Answer → Told
Tried answer st m r n =
    (r ≡ st.first → (x : Parcel) × HasRoom answer x
    × (n ≡ took_slot st.word st.second (Some x)
    (won m.0 st.word (st.first / PHASES) (job_of x)) m.1))
    × (r ≢ st.first
    → n ≡ kept_slots st.word r (lost_at m.0 st.word (st.first / PHASES)) m.1)
    × (r ≢ st.first → IsOtherWord (st.first / PHASES) r)

-- the number of the next hand is known
abbrev pub Named : Told
Named st m r n = n ≡ kept_slots st.word r (record m.0 { next = st.first }) m.1

-- the dispatcher's view once a hand is out
abbrev pub sent_out : View → View
sent_out v = record v { out = v.next ∷ v.out; used = v.next ∷ v.used }

-- the hand's
abbrev pub new_hand : View → View
new_hand v = fresh (Hand v.next)

abbrev pub number_of : Role → ℕ
number_of (Hand n) = n
number_of Dispatcher = 0
number_of Spent = 0

-- the dispatcher's view once a hand is back: it takes over what the hand ran and lost
abbrev pub taken_in : View → View → View
taken_in v w = record v {
  notes = w.notes ++ v.notes;
  misses = w.misses ++ v.misses;
  lost_claims = w.lost ++ v.lost_claims;
  out = removed (number_of w.role) v.out;
  runs = w.runs ++ v.runs;
}

-- no generation of a place below n was run twice
abbrev pub RanOnce : ℕ → View → Type 0
RanOnce n v = (p g : ℕ) → p < n → ran p g v ≤ 1

abbrev pub Summed : Told
Summed st m r n = (n ≡ kept_slots st.word r m.0 m.1) × RanOnce st.slots m.0
