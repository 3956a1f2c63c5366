-- What stays of the rule when one seat steps at one place.
use Rattle.std.proofs.Common.{◌≡◌, ℕ, suc, ◌*◌, ◌<◌, ◌≤◌, ◌≢◌, List, ◌∷◌, zero, length, get_or, set, sym}
use Rattle.std.proofs.Common.{ap, ◌∙◌, subst, ⊎_elim, arith, length-set, get_or-set_other, refl}
use Rattle.std.proofs.Common.{get_or-set_same}
use mathlib.Core.Logic.{dite}
use mathlib.Core.Option.{none, some, some-injective}
use mathlib.Core.Option as maybe
use native.Mathlib.Decide.{ℕ_discrete}
use lib.ListN.{get_elem?}
use Rattle.atomic_table.specs.Table.{State}
use Rattle.atomic_table.proofs.Lists.{at_set}
use Rattle.shared_pool.specs.Loans.{LoanNo}
use Rattle.shared_pool.specs.declared.word.TheConstants.{MOST_LOANS}
use Rattle.shared_pool.specs.declared.view.Note.{Note}
use Rattle.shared_pool.specs.declared.view.View.{View}
use Rattle.rpc_base.specs.Totals.{total}
use Rattle.worker_board.proofs.CountsLemmas.{total-set}
use Rattle.worker_board.proofs.FrameLemmas.{state}
use Rattle.worker_board.proofs.WordLemmas.{rises}
use Rattle.shared_pool.specs.Counts.{has_turn, holds, got, gave}
use Rattle.shared_pool.specs.Moves.{note}
use Rattle.shared_pool.specs.Rule.{Slot, Home, Stands, PlaceLaw, PoolLaw, IsCurrent, word_of, out}
use Rattle.shared_pool.proofs.CountsLemmas.{once_same}

abbrev pub Table : Type 0
Table = State Slot View

-- two views are alike at a place
pub record Alike (q : ℕ) (v w : View) : Type 0 where
  pub turns : has_turn q w ≡ has_turn q v
  pub loans : holds q w ≡ holds q v
  pub lent : (g : ℕ) → got q g w ≡ got q g v
  pub back : (g : ℕ) → gave q g w ≡ gave q g v

-- a note of the word that a step left, before others that hold
pub notes_grow : (ws : List ℕ) (p n : ℕ) (xs : List Note)
    → p < length ws → ((k : ℕ) (x : Note) → get_elem? xs k ≡ some x → x.word ≤ get_or (set ws p n) x.place 0)
    → (k : ℕ) (x : Note) → get_elem? (note p n ∷ xs) k ≡ some x → x.word ≤ get_or (set ws p n) x.place 0
notes_grow ws p n xs near old zero x e = let now = get_or-set_same ws p n 0 near in
    subst (λ (y : Note). y.word ≤ get_or (set ws p n) y.place 0) (some-injective (note p n) x e) (omega arith)
notes_grow ws p n xs near old (suc k) x e = old k x e

module _ (capacity : ℕ) where
  -- a place stays right where the sums over the seats stay
  pub same_sums : (q w₀ w₁ : ℕ) (h₀ h₁ : Home) (vs us : List View) → w₁ ≡ w₀ → h₁ ≡ h₀
      → total (has_turn q) us ≡ total (has_turn q) vs → total (holds q) us ≡ total (holds q) vs
      → ((g : ℕ) → total (got q g) us ≡ total (got q g) vs)
      → ((g : ℕ) → total (gave q g) us ≡ total (gave q g) vs)
      → PlaceLaw capacity q w₀ h₀ vs → PlaceLaw capacity q w₁ h₁ us
  same_sums q w₀ w₁ h₀ h₁ vs us ew eh turns loans lent back k = record {
    generation = k.generation;
    where_is = k.where_is;
    word_is = ew ∙ k.word_is;
    most = subst (λ (x : ℕ). x ≤ 2 * MOST_LOANS) (sym ew) k.most;
    stands = subst (λ (t : ℕ). Stands capacity h₁ t k.where_is) (sym turns)
        (subst (λ (x : Home). Stands capacity x (total (has_turn q) vs) k.where_is) (sym eh) k.stands);
    held = loans ∙ k.held;
    lent = once_same _ _ (λ g. total (got q g) vs) (λ g. total (got q g) us) refl k.lent lent;
    back = once_same _ _ (λ g. total (gave q g) vs) (λ g. total (gave q g) us) refl k.back back;
  }

  -- what stays of a place where the view that steps stays alike
  pub alike_place : (q w₀ w₁ : ℕ) (h₀ h₁ : Home) (vs : List View) (j : ℕ) (v w : View)
      → get_elem? vs j ≡ some v → Alike q v w → w₁ ≡ w₀ → h₁ ≡ h₀
      → PlaceLaw capacity q w₀ h₀ vs → PlaceLaw capacity q w₁ h₁ (set vs j w)
  alike_place q w₀ w₁ h₀ h₁ vs j v w me same ew eh k =
      same_sums q w₀ w₁ h₀ h₁ vs (set vs j w) ew eh
      (omega (arith, total-set (has_turn q) vs j v w me, same.turns))
      (omega (arith, total-set (holds q) vs j v w me, same.loans))
      (λ g. omega (arith, total-set (got q g) vs j v w me, same.lent g))
      (λ g. omega (arith, total-set (gave q g) vs j v w me, same.back g)) k

  -- a loan stays that of its word where another word changes, or its own stays
  current_stays : (ws : List ℕ) (p n : ℕ) (l : LoanNo) → p < length ws → (l.place ≡ p → n ≡ word_of l.generation out)
      → IsCurrent ws l → IsCurrent (set ws p n) l
  current_stays ws p n l near here old = dite (ℕ_discrete l.place p)
      (λ is. subst (λ (i : ℕ). get_or (set ws p n) i 0 ≡ word_of l.generation out) (sym is) (get_or-set_same ws p n 0 near ∙ here is))
      (λ ne. get_or-set_other ws p l.place n 0 ne ∙ old)

  pub moved : (s : Table) (r : PoolLaw capacity s) (j p n : ℕ) (v w : View) (hs : List (maybe.Option Slot))
      → get_elem? s.views j ≡ some v → p < length s.homes
      → length hs ≡ length s.homes → ((q : ℕ) → q ≢ p → get_elem? hs q ≡ get_elem? s.homes q)
      → ((q : ℕ) → q ≢ p → Alike q v w)
      → PlaceLaw capacity p n (get_elem? hs p) (set s.views j w)
      → get_or s.words p 0 ≤ n
      → (((k : ℕ) (x : Note) → get_elem? v.notes k ≡ some x → x.word ≤ get_or (set s.words p n) x.place 0)
      → (k : ℕ) (x : Note) → get_elem? w.notes k ≡ some x → x.word ≤ get_or (set s.words p n) x.place 0)
      → ((k : ℕ) (l : LoanNo) → get_elem? w.held k ≡ some l
      → (l.place < length s.homes) × (l.place ≡ p → n ≡ word_of l.generation out)
      × (l.place ≢ p → IsCurrent s.words l))
      → ((i k : ℕ) (u : View) (l : LoanNo) → i ≢ j → get_elem? s.views i ≡ some u
      → get_elem? u.held k ≡ some l → l.place ≡ p → n ≡ word_of l.generation out)
      → ((q : ℕ) → w.turn ≡ suc q → 0 < holds q w)
      → PoolLaw capacity (state (set s.words p n) hs (set s.views j w))
  moved s r j p n v w hs me near long-hs homes alike here up notes mine theirs turn =
      let longer : (q : ℕ) → q < length hs → q < length s.homes = λ q h. subst (λ (x : ℕ). q < x) long-hs h in
      let inside : p < length s.words = let wide = r.wide in omega arith in
      record {
        wide = length-set s.words p n ∙ r.wide ∙ sym long-hs;
        places = λ q h. let was : q < length s.homes = longer q h in dite (ℕ_discrete q p)
            (λ e. subst (λ (x : ℕ). PlaceLaw capacity x (get_or (set s.words p n) x 0)
            (get_elem? hs x) (set s.views j w)) (sym e)
            (subst (λ (x : ℕ). PlaceLaw capacity p x (get_elem? hs p) (set s.views j w))
            (sym (get_or-set_same s.words p n 0 inside)) here))
            (λ ne. alike_place q (get_or s.words q 0) _ (get_elem? s.homes q) _ s.views j v w me
            (alike q ne) (get_or-set_other s.words p q n 0 ne) (homes q ne) (r.places q was));
        seen = λ i k u x e at. ⊎_elim
            (λ (t : (i ≡ j) × (w ≡ u)). notes (λ k' y at'. rises s.words p n y.place y.word inside up (r.seen j k' v y me at')) k x
            (subst (λ (y : View). get_elem? y.notes k ≡ some x) (sym t.1) at))
            (λ (t : (i ≢ j) × (get_elem? s.views i ≡ some u)). rises s.words p n x.place x.word inside up (r.seen i k u x t.1 at))
            (at_set s.views j i w u e);
        loans = λ i k u l e at. ⊎_elim
            (λ (t : (i ≡ j) × (w ≡ u)). let m = mine k l (subst (λ (x : View). get_elem? x.held k ≡ some l) (sym t.1) at) in (
              subst (λ (x : ℕ). l.place < x) (sym long-hs) m.0,
              dite (ℕ_discrete l.place p)
                  (λ is. subst (λ (x : ℕ). get_or (set s.words p n) x 0 ≡ word_of l.generation out) (sym is)
                  (get_or-set_same s.words p n 0 inside ∙ m.1 is))
                  (λ ne. get_or-set_other s.words p l.place n 0 ne ∙ m.2 ne),
            ))
            (λ (t : (i ≢ j) × (get_elem? s.views i ≡ some u)). let was = r.loans i k u l t.1 at in (
              subst (λ (x : ℕ). l.place < x) (sym long-hs) was.0,
              current_stays s.words p n l inside (λ is. theirs i k u l t.0 t.1 at is) was.1,
            ))
            (at_set s.views j i w u e);
        entitled = λ i q u e on. ⊎_elim
            (λ (t : (i ≡ j) × (w ≡ u)). subst (λ (x : View). 0 < holds q x) t.1
            (turn q (ap (λ (x : View). x.turn) t.1 ∙ on)))
            (λ (t : (i ≢ j) × (get_elem? s.views i ≡ some u)). r.entitled i q u t.1 on)
            (at_set s.views j i w u e);
      }
