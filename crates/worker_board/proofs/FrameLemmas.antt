-- What stays of the rule when one seat steps at one place.
use Rattle.std.proofs.Common.{◌≡◌, ℕ, suc, ◌<◌, ◌≤◌, ◌≢◌, ◌⊎◌, List, ◌∷◌, length, get_or, set, sym}
use Rattle.std.proofs.Common.{ap, ◌∙◌, subst, inl, inr, ⊎_elim, arith, length-set, get_or-set_other}
use Rattle.std.proofs.Common.{get_or-set_same}
use mathlib.Core.Logic.{dite}
use mathlib.Core.Option.{none, some, some-injective}
use mathlib.Core.Option as maybe
use native.Mathlib.Decide.{ℕ_discrete}
use lib.ListN.{get_elem?}
use Rattle.rpc_base.specs.Totals.{total}
use Rattle.atomic_table.specs.Table.{State, Act, Valid, stepped, carried_after}
use Rattle.atomic_table.proofs.Lists.{at_set}
use Rattle.worker_board.specs.Tickets.{OfferNo}
use Rattle.worker_board.specs.declared.view.Note.{Note}
use Rattle.worker_board.specs.declared.view.Offer.{Offer}
use Rattle.worker_board.specs.declared.view.Claim.{Claim}
use Rattle.worker_board.specs.declared.view.View.{View}
use Rattle.worker_board.specs.declared.view.Role.TheVariants.{Dispatcher}
use Rattle.worker_board.specs.Counts.{has_turn, holds, ran, times, is_hand, hand_of}
use Rattle.worker_board.specs.Word.{IsClosed, IsCurrent, offers_at}
use Rattle.worker_board.specs.Moves.{Seated, note}
use Rattle.worker_board.proofs.WordLemmas.{notes_stay, notes_grow}
use Rattle.worker_board.specs.Rule.{IsPastReady, Slot, Answer, Home, IsHand, InPhase, PlaceLaw, BoardLaw}
use Rattle.worker_board.proofs.CountsLemmas.{total-set}

abbrev pub Table : Type 0
Table = State Slot View

abbrev pub state : {S V : Type 0} → List ℕ → List (maybe.Option S) → List V → State S V
state ws hs vs = record { words = ws; homes = hs; views = vs }

-- two views are alike at a place
pub record Alike (q : ℕ) (v w : View) : Type 0 where
  pub turns : has_turn q w ≡ has_turn q v
  pub claims : holds q w ≡ holds q v
  pub runs : (g : ℕ) → ran q g w ≡ ran q g v

module _ (answer : Answer) where
  -- what stays of a place that a step does not touch
  other_place : (q : ℕ) (w₀ w₁ : ℕ) (h₀ h₁ : Home) (vs : List View) (j : ℕ) (v w : View)
      (l₀ l₁ : List Offer) → get_elem? vs j ≡ some v → Alike q v w
      → w₁ ≡ w₀ → h₁ ≡ h₀ → l₁ ≡ l₀ → PlaceLaw answer q w₀ h₀ vs l₀ → PlaceLaw answer q w₁ h₁ (set vs j w) l₁
  other_place q w₀ w₁ h₀ h₁ vs j v w l₀ l₁ me same ew eh el k =
      let turns : total (has_turn q) (set vs j w) ≡ total (has_turn q) vs =
      omega (arith, total-set (has_turn q) vs j v w me, same.turns) in
      subst (λ (x : List Offer). PlaceLaw answer q w₁ h₁ (set vs j w) x) (sym el)
      (subst (λ (x : Home). PlaceLaw answer q w₁ x (set vs j w) l₀) (sym eh)
      record {
        phase = k.phase;
        word_is = ew ∙ k.word_is;
        stands = subst (λ (t : ℕ). InPhase answer l₀ h₀ t k.phase) (sym turns) k.stands;
        held = omega (arith, total-set (holds q) vs j v w me, same.claims, k.held);
        run = λ g. omega (arith, total-set (ran q g) vs j v w me, same.runs g, k.run g);
        past = k.past;
      })

  pub moved : (s : Table) (r : BoardLaw answer s) (j p n : ℕ) (v w d : View) (hs : List (maybe.Option Slot))
      → get_elem? s.views j ≡ some v → p < length s.homes
      → length hs ≡ length s.homes → ((q : ℕ) → q ≢ p → get_elem? hs q ≡ get_elem? s.homes q)
      → get_elem? (set s.views j w) 0 ≡ some d → d.role ≡ Dispatcher → w.role ≡ v.role
      → d.out ≡ r.dispatcher.out → d.used ≡ r.dispatcher.used
      → length d.ledger ≡ length s.homes → ((q : ℕ) → q ≢ p → offers_at d.ledger q ≡ offers_at r.dispatcher.ledger q)
      → ((q : ℕ) → q ≢ p → Alike q v w)
      → PlaceLaw answer p n (get_elem? hs p) (set s.views j w) (offers_at d.ledger p)
      → ((k : ℕ) (c : Claim) → get_elem? w.held k ≡ some c → (c.ticket.place < length s.homes)
      × IsCurrent c (offers_at d.ledger c.ticket.place) × IsHand w.role)
      → ((i k : ℕ) (u : View) (c : Claim) → i ≢ j → get_elem? s.views i ≡ some u
      → get_elem? u.held k ≡ some c → c.ticket.place ≡ p → IsCurrent c (offers_at d.ledger p))
      → ((q : ℕ) → w.turn ≡ suc q → ((j ≡ 0) × IsClosed (offers_at d.ledger q)) ⊎ (0 < holds q w))
      → (j ≢ 0 → IsClosed (offers_at r.dispatcher.ledger p) → IsClosed (offers_at d.ledger p))
      → get_or s.words p 0 ≤ n → w.notes ≡ note p n ∷ v.notes
      → ((k : ℕ) (t : OfferNo) → get_elem? d.lost k ≡ some t → IsPastReady t (set s.words p n))
      → BoardLaw answer (state (set s.words p n) hs (set s.views j w))
  moved s r j p n v w d hs me near long-hs homes dispatcher dispatches role out used long ledger
      alike here mine theirs turn closes up notes lost =
      let longer : (q : ℕ) → q < length hs → q < length s.homes = λ q h. subst (λ (x : ℕ). q < x) long-hs h in
      record {
        dispatcher = d;
        first = dispatcher;
        dispatches = dispatches;
        one_dispatcher = λ i u e is. ⊎_elim (λ (t : (i ≡ j) × (w ≡ u)). t.0
            ∙ r.one_dispatcher j v me (sym role ∙ ap (λ (x : View). x.role) t.1 ∙ is))
            (λ (t : (i ≢ j) × (get_elem? s.views i ≡ some u)). r.one_dispatcher i u t.1 is)
            (at_set s.views j i w u e);
        wide = length-set s.words p n ∙ r.wide ∙ sym long-hs;
        long = long ∙ sym long-hs;
        places = λ q h. let inside : q < length s.homes = longer q h in let wide = r.wide in dite (ℕ_discrete q p)
            (λ e. subst (λ (x : ℕ). PlaceLaw answer x (get_or (set s.words p n) x 0)
            (get_elem? hs x) (set s.views j w) (offers_at d.ledger x)) (sym e)
            (subst (λ (x : ℕ). PlaceLaw answer p x (get_elem? hs p) (set s.views j w)
            (offers_at d.ledger p)) (sym (get_or-set_same s.words p n 0 (omega arith))) here))
            (λ ne. other_place q (get_or s.words q 0) _ (get_elem? s.homes q) _ s.views j v w
            (offers_at r.dispatcher.ledger q) _ me (alike q ne)
            (get_or-set_other s.words p q n 0 ne) (homes q ne) (ledger q ne) (r.places q inside));
        seen = λ i k u x e at. let ws = r.wide in ⊎_elim
            (λ (t : (i ≡ j) × (w ≡ u)). notes_grow s.words p n v.notes (omega arith) up
            (λ k' y at'. r.seen j k' v y me at') k x
            (subst (λ (ns : List Note). get_elem? ns k ≡ some x) notes
            (subst (λ (y : View). get_elem? y.notes k ≡ some x) (sym t.1) at)))
            (λ (t : (i ≢ j) × (get_elem? s.views i ≡ some u)). notes_stay s.words p n u.notes
            (omega arith) up (λ k' y at'. r.seen i k' u y t.1 at') k x at)
            (at_set s.views j i w u e);
        claims = λ i k u c e at. ⊎_elim
            (λ (t : (i ≡ j) × (w ≡ u)). let m = mine k c (subst (λ (x : View). get_elem? x.held k ≡ some c) (sym t.1) at) in (subst (λ (x : ℕ). c.ticket.place < x) (sym long-hs) m.0, m.1, subst (λ (x : View). IsHand x.role) t.1 m.2))
            (λ (t : (i ≢ j) × (get_elem? s.views i ≡ some u)). let was = r.claims i k u c t.1 at in (
              subst (λ (x : ℕ). c.ticket.place < x) (sym long-hs) was.0,
              dite (ℕ_discrete c.ticket.place p)
                  (λ e'. subst (λ (x : ℕ). IsCurrent c (offers_at d.ledger x)) (sym e')
                  (theirs i k u c t.0 t.1 at e'))
                  (λ ne. subst (IsCurrent c) (sym (ledger c.ticket.place ne)) was.1),
              was.2,
            ))
            (at_set s.views j i w u e);
        entitled = λ i q u e on. ⊎_elim
            (λ (t : (i ≡ j) × (w ≡ u)). ⊎_elim
            (λ (a : (j ≡ 0) × IsClosed (offers_at d.ledger q)). inl (t.0 ∙ a.0, a.1))
            (λ (a : 0 < holds q w). inr (subst (λ (x : View). 0 < holds q x) t.1 a))
            (turn q (ap (λ (x : View). x.turn) t.1 ∙ on)))
            (λ (t : (i ≢ j) × (get_elem? s.views i ≡ some u)). ⊎_elim
            (λ (a : (i ≡ 0) × IsClosed (offers_at r.dispatcher.ledger q)). inl (
              a.0,
              dite (ℕ_discrete q p)
                  (λ e'. subst (λ (x : ℕ). IsClosed (offers_at d.ledger x)) (sym e')
                  (closes (λ z. t.0 (a.0 ∙ sym z))
                  (subst (λ (x : ℕ). IsClosed (offers_at r.dispatcher.ledger x)) e' a.1)))
                  (λ ne. subst IsClosed (sym (ledger q ne)) a.1),
            ))
            (λ (a : 0 < holds q u). inr a) (r.entitled i q u t.1 on))
            (at_set s.views j i w u e);
        lost = lost;
        hands = λ m. omega (
          arith,
          total-set (is_hand m) s.views j v w me,
          ap (hand_of m) role,
          r.hands m,
          ap (times m) out,
        );
        once = λ m. subst (λ (x : List ℕ × List ℕ). (times m x.0 ≤ times m x.1) × (times m x.1 ≤ 1))
            (λ i. (sym out i, sym used i)) (r.once m);
      }

  -- a step to the word k can be taken, keeps the rule and tells what it should
  abbrev pub Allowed : Table → ℕ → ℕ → Seated → (ℕ → Seated → Type 0) → ℕ → Type 0
  Allowed s i id m then k = (w : View) × (a : Act Slot) × Valid s.homes m.1 a
      × BoardLaw answer (stepped s i k id m.1 w a)
      × then (get_or s.words i 0) (w, carried_after m.1 a)
