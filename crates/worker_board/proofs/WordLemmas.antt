-- Words, phases and runs of one place, as its list of offers changes.
use Rattle.std.proofs.Common.{◌≡◌, ℕ, zero, suc, ◌+◌, ◌*◌, ◌/◌, ◌<◌, ◌≤◌, ◌≢◌, List, [], ◌∷◌}
use Rattle.std.proofs.Common.{length, get_or, set, sym, refl, ap, ◌∙◌, subst, arith, cond, ne_eqb}
use Rattle.std.proofs.Common.{get_or-set_other, get_or-set_same, eq-eqb, ◌==◌}
use mathlib.Core.Logic.{dite}
use native.Mathlib.Decide.{ℕ_discrete, dec_le}
use mathlib.Core.Option.{some, some-injective}
use lib.ListN.{get_elem?}
use Rattle.rpc_base.specs.Totals.{total}
use Rattle.worker_board.specs.Tickets.{OfferNo}
use Rattle.worker_board.specs.declared.Parcel.{Parcel}
use Rattle.worker_board.specs.declared.view.Note.{Note}
use Rattle.worker_board.specs.declared.word.TheConstants.{PHASES, READY}
use Rattle.worker_board.specs.declared.view.Offer.{Offer}
use Rattle.worker_board.specs.declared.view.End.{End}
use Rattle.worker_board.specs.declared.view.End.TheVariants.{Open}
use Rattle.worker_board.specs.Word.{Phase, closed, ready, claimed, done, digit, word_at, word_of}
use Rattle.worker_board.specs.Word.{IsOpen, IsOtherWord}
use Rattle.worker_board.specs.Word.{IsClosed, job_of, IsOfferedJob, IsNewest, offer_of, ended}
use Rattle.worker_board.specs.Word.{newest, run_of, runs_of, AllEnded, OlderEnded}
use Rattle.atomic_table.specs.Table.{rest}
use Rattle.worker_board.specs.Moves.{note}
use Rattle.worker_board.specs.Rule.{Answer, Home, InPhase, IsPastReady}

pub not_both : (l : List Offer) → IsOpen l → IsClosed l → ⊥
not_both [] o c = o
not_both (x ∷ l) o c = c o

pub closed_phase : (answer : Answer) (l : List Offer) (h : Home) (t : ℕ) → IsClosed l → (ph : Phase)
    → InPhase answer l h t ph → ph ≡ closed
closed_phase answer l h t c closed k = refl
closed_phase answer l h t c ready k = absurd (not_both l k.0 c)
closed_phase answer l h t c claimed k = absurd (not_both l k.0 c)
closed_phase answer l h t c done k = absurd (not_both l k.0 c)

pub word_open : (l : List Offer) (ph : Phase) → IsOpen l → word_at l ph ≡ PHASES * newest l + digit ph
word_open [] ph o = absurd o
word_open (x ∷ l) ph o = refl

pub word_ended : (l : List Offer) (e : End) → IsOpen l → word_at (ended e l) closed ≡ 4 * newest l + 3
word_ended [] e o = absurd o
word_ended (x ∷ l) e o = refl

pub word_below : (l : List Offer) → word_at l closed < 4 * length l + 1
word_below [] = omega arith
word_below (x ∷ l) = omega arith

some_digit : (ph : Phase) → 1 ≤ digit ph
some_digit closed = omega arith
some_digit ready = omega arith
some_digit claimed = omega arith
some_digit done = omega arith

-- a word that doesn't show a generation ready
pub other_word : (l : List Offer) (ph : Phase) (g w : ℕ) → w ≡ word_at l ph → w ≢ word_of g READY
    → IsOtherWord g w
other_word [] ph g w e not = IsOtherWord.unoffered e
other_word (o ∷ older) ph g w e not = dite (dec_le g (length older))
    (λ late. IsOtherWord.later (let some = some_digit ph in omega arith))
    (λ early. IsOtherWord.earlier (length older) ph (omega arith) e)

pub closed_ended : (l : List Offer) (e : End) → e ≢ Open → IsClosed (ended e l)
closed_ended [] e n = tt
closed_ended (x ∷ l) e n = n

pub older_ended : (l : List Offer) (e : End) → OlderEnded l → OlderEnded (ended e l)
older_ended [] e k = tt
older_ended (x ∷ l) e k = k

pub all_ended : (l : List Offer) → IsClosed l → OlderEnded l → AllEnded l
all_ended [] c k = tt
all_ended (x ∷ l) c k = (c, k)

pub runs_ended : (g : ℕ) (l : List Offer) (e : End) (ph : Phase) → IsOpen l
    → run_of closed e ≡ run_of ph Open → runs_of g closed (ended e l) ≡ runs_of g ph l
runs_ended g [] e ph o same = absurd o
runs_ended g (x ∷ l) e ph o same =
    ap (λ (n : ℕ). cond (g == length l) n (runs_of g closed l)) (same ∙ ap (run_of ph) (sym o))

beyond : (g : ℕ) (ph : Phase) (l : List Offer) → length l ≤ g → runs_of g ph l ≡ 0
beyond g ph [] h = refl
beyond g ph (x ∷ l) h =
    ap (λ b. cond b (run_of ph x.end) (runs_of g closed l)) (ne_eqb g (length l) (λ e. omega arith))
    ∙ beyond g closed l (omega arith)

pub runs_offered : (g : ℕ) (l : List Offer) (x : Parcel) → runs_of g ready (offer_of x Open ∷ l) ≡ runs_of g closed l
runs_offered g l x =
    dite (ℕ_discrete g (length l)) (λ e. ap (λ b. cond b 0 (runs_of g closed l))
    (eq-eqb g (length l) e) ∙ sym (beyond g closed l (omega arith)))
    (λ ne. ap (λ b. cond b 0 (runs_of g closed l)) (ne_eqb g (length l) ne))

-- a word that does not fall
pub rises : (ws : List ℕ) (p n q m : ℕ) → p < length ws → get_or ws p 0 ≤ n → m ≤ get_or ws q 0
    → m ≤ get_or (set ws p n) q 0
rises ws p n q m near up old = dite (ℕ_discrete q p)
    (λ is. subst (λ (i : ℕ). m ≤ get_or (set ws p n) i 0) (sym is) (let now = get_or-set_same ws p n 0 near in let before : m ≤ get_or ws p 0 = subst (λ (i : ℕ). m ≤ get_or ws i 0) is old in omega arith))
    (λ ne. let same = get_or-set_other ws p q n 0 ne in omega arith)

-- what was lost stays lost while no word falls
pub lost_stays : (ws : List ℕ) (p n : ℕ) (ls : List OfferNo) → p < length ws → get_or ws p 0 ≤ n
    → ((k : ℕ) (x : OfferNo) → get_elem? ls k ≡ some x → IsPastReady x ws)
    → (k : ℕ) (x : OfferNo) → get_elem? ls k ≡ some x → IsPastReady x (set ws p n)
lost_stays ws p n ls near up old k x e =
    rises ws p n x.place (suc (PHASES * x.generation + READY)) near up (old k x e)

-- what was noted stays below the words, and so does what a step leaves
pub notes_stay : (ws : List ℕ) (p n : ℕ) (xs : List Note) → p < length ws → get_or ws p 0 ≤ n
    → ((k : ℕ) (x : Note) → get_elem? xs k ≡ some x → x.word ≤ get_or ws x.place 0)
    → (k : ℕ) (x : Note) → get_elem? xs k ≡ some x → x.word ≤ get_or (set ws p n) x.place 0
notes_stay ws p n xs near up old k x e = rises ws p n x.place x.word near up (old k x e)

pub notes_grow : (ws : List ℕ) (p n : ℕ) (xs : List Note) → p < length ws → get_or ws p 0 ≤ n
    → ((k : ℕ) (x : Note) → get_elem? xs k ≡ some x → x.word ≤ get_or ws x.place 0)
    → (k : ℕ) (x : Note) → get_elem? (note p n ∷ xs) k ≡ some x → x.word ≤ get_or (set ws p n) x.place 0
notes_grow ws p n xs near up old zero x e = let now = get_or-set_same ws p n 0 near in
    subst (λ (y : Note). y.word ≤ get_or (set ws p n) y.place 0) (some-injective (note p n) x e) (omega arith)
notes_grow ws p n xs near up old (suc k) x e = notes_stay ws p n xs near up old k x e

-- a parcel is of its own job
pub offers_newest : (x : Parcel) (l : List Offer) → IsNewest x l → IsOfferedJob (job_of x) l
offers_newest x [] h = h
offers_newest x (o ∷ l) h = ap job_of h

-- a sum that is not 0 has a term that is not 0
pub some_term : {A : Type 0} (f : A → ℕ) (l : List A) → 0 < total f l → (j : ℕ)
    × ((v : A) × (get_elem? l j ≡ some v) × (0 < f v))
some_term f [] h = absurd (omega arith)
some_term f (x ∷ l) h = dite (ℕ_discrete (f x) 0) (λ z. let t = some_term f l (omega arith) in (suc t.0, t.1)) (λ nz. (0, (x, refl, omega arith)))

-- the generation that comes next, by the word of a place with no open offer
pub next_generation : (l : List Offer) (r : ℕ) → r ≡ word_at l closed → (r ≡ 0 → 0 ≡ length l)
    × (r ≢ 0 → r / 4 + 1 ≡ length l)
next_generation [] r e = ((λ _. refl), λ n. absurd (n e))
next_generation (x ∷ l) r e = ((λ z. absurd (omega arith)), λ n. omega arith)

-- who took a slot has it first in the list
pub taken_first : {S : Type 0} (l c : List (ℕ × S)) (p : ℕ) (x : S) → l ≡ (p, x) ∷ c → l ≡ (p, x) ∷ rest l
taken_first {S} l c p x e = e ∙ ap (λ (y : List (ℕ × S)). (p, x) ∷ rest y) (sym e)
