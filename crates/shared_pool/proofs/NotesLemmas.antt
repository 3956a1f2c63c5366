-- What a try notes, and who has taken a slot.
use Rattle.std.proofs.Common.{◌≡◌, ◌≢◌, ℕ, suc, ◌+◌, ◌*◌, ◌≤◌, ◌<◌, List, [], ◌∷◌, refl, ap, subst, ◌∙◌, arith, inl, inr, ⊎_elim, cond, eq-eqb}
use mathlib.Core.Option.{some}
use lib.ListN.{get_elem?}
use Rattle.rpc_base.specs.Totals.{only}
use Rattle.rpc_base.proofs.TotalsLemmas.{only-same}
use Rattle.atomic_table.specs.Table.{rest}
use Rattle.shared_pool.specs.Words.{MayNotBeLent}
use Rattle.shared_pool.specs.Loans.{LoanNo, loan_no, AllInside}
use Rattle.shared_pool.specs.declared.word.TheConstants.{MOST_LOANS}
use Rattle.shared_pool.specs.declared.view.View.{View}
use Rattle.shared_pool.specs.Counts.{holds, without}
use Rattle.shared_pool.specs.Rule.{Slot}
use Rattle.shared_pool.specs.Moves.{Seated, note, noted, turned_to, lent_to, returned}
use Rattle.shared_pool.specs.Seats.{Missed, IsShut, lent_at}
use Rattle.shared_pool.proofs.CountsLemmas.{at_without, without-none}

is_shut : (w : ℕ) → w ≤ 2 * MOST_LOANS → MayNotBeLent w → IsShut w
is_shut w most not = ⊎_elim (λ odd. inl odd) (λ high. inr (omega arith)) not

-- a load alone was the try
pub shut_miss : (p r : ℕ) (m n : Seated) → n ≡ (noted (note p r ∷ []) m.0, m.1) → r ≤ 2 * MOST_LOANS → MayNotBeLent r
    → Missed p (turned_to 0 m.0) (turned_to 0 n.0)
shut_miss p r m n e most not = (note p r ∷ [], inl (r, refl, is_shut r most not), ap (λ (x : Seated). turned_to 0 x.0) e)

-- the exchange was lost
pub other_miss : (p seen found : ℕ) (m a n : Seated) → a ≡ (noted (note p seen ∷ []) m.0, m.1)
    → n ≡ (noted (note p found ∷ []) a.0, a.1) → found ≢ seen
    → Missed p (turned_to 0 m.0) (turned_to 0 n.0)
other_miss p seen found m a n e h not = (
  note p found ∷ note p seen ∷ [],
  inr (seen, found, refl, not),
  ap (λ (x : Seated). turned_to 0 x.0) h ∙ ap (λ (x : Seated). turned_to 0 (noted (note p found ∷ []) x.0)) e,
)

-- who got a loan of a place holds it
pub lent_counts : (p : ℕ) (l : LoanNo) (v w : View) → w ≡ turned_to (suc p) (lent_to l v) → l.place ≡ p → 0 < holds p w
lent_counts p l v w e is = let same : holds p w ≡ only p l.place + holds p v = ap (holds p) e in omega (arith, only-same p l.place is)

-- a loan is named by its two numbers
pub loan_is : (p g : ℕ) (l : LoanNo) → p ≡ l.place → g ≡ l.generation → loan_no p g ≡ l
loan_is p g l e h = λ i. record { place = e i; generation = h i }

-- the view once a loan of the place was given back, by the load, the exchange and the store
pub returned_view : (p g : ℕ) (l : LoanNo) (v : View) (b n : Seated) → b.0 ≡ turned_to (suc p) v
    → n ≡ (turned_to 0 (returned (loan_no p g) b.0), rest b.1) → loan_no p g ≡ l
    → turned_to 0 n.0 ≡ returned l (turned_to 0 v)
returned_view p g l v b n same told is =
    ap (λ (x : Seated). turned_to 0 x.0) told ∙ ap (λ (x : View). turned_to 0 (returned (loan_no p g) x)) same
    ∙ ap (λ (x : LoanNo). returned x (turned_to 0 v)) is

-- its list of loans
pub returned_inside : (p g words : ℕ) (v : View) (b n : Seated) → b.0 ≡ turned_to (suc p) v
    → n ≡ (turned_to 0 (returned (loan_no p g) b.0), rest b.1) → AllInside words v.held → AllInside words n.0.held
returned_inside p g words v b n same told old k l at =
    let held : n.0.held ≡ without p v.held = ap (λ (x : Seated). x.0.held) told ∙ ap (λ (x : View). without p x.held) same in
    let was = at_without p v.held k l (subst (λ (ls : List LoanNo). get_elem? ls k ≡ some l) held at) in old was.1.0 l was.1.1

-- its slots
pub returned_slots : (p g : ℕ) (x y : Slot) (m a b n : Seated) (w : View) → a ≡ (w, (p, x) ∷ m.1) → b ≡ (a.0, (p, y) ∷ rest a.1)
    → n ≡ (turned_to 0 (returned (loan_no p g) b.0), rest b.1) → n.1 ≡ m.1
returned_slots p g x y m a b n w load now told =
    ap (λ (z : Seated). z.1) told ∙ ap (λ (z : Seated). rest z.1) now ∙ ap (λ (z : Seated). rest z.1) load

-- who gets a loan and gives it back holds the loans that it held
pub back_again : (l : LoanNo) (v : View) → holds l.place v ≡ 0 → (returned l (lent_at l v)).held ≡ v.held
back_again l v none = ap (λ b. cond b (without l.place v.held) (l ∷ without l.place v.held)) (eq-eqb l.place l.place refl)
    ∙ without-none l.place v.held none
