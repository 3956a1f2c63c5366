-- Hands that are sent out and come back keep the rule.
use Rattle.std.proofs.Common.{◌≡◌, ℕ, suc, ◌+◌, ◌<◌, ◌≤◌, ◌≢◌, ◌⊎◌, List, [], ◌∷◌, ◌++◌, length}
use Rattle.std.proofs.Common.{get_or, set, sym, refl, ap, ◌∙◌, subst, ⊎_elim, arith, suc-ne-zero}
use mathlib.Core.Logic.{dite}
use mathlib.Core.Option.{some, some-ne-none}
use native.Mathlib.Decide.{ℕ_discrete}
use lib.ListN.{get_elem?}
use Rattle.rpc_base.proofs.TotalsLemmas.{only-same, only-other}
use Rattle.rpc_base.specs.Totals.{only, total}
use Rattle.atomic_table.specs.Table.{Splits, Joins}
use Rattle.atomic_table.proofs.Lists.{at_set, set_here, set_else, at_snoc, at_longer}
use Rattle.worker_board.specs.Tickets.{OfferNo}
use Rattle.worker_board.specs.declared.view.Offer.{Offer}
use Rattle.worker_board.specs.declared.view.Claim.{Claim}
use Rattle.worker_board.specs.declared.view.View.{View}
use Rattle.worker_board.specs.declared.view.Role.{Role}
use Rattle.worker_board.specs.declared.view.Role.TheVariants.{Dispatcher, Hand, Spent}
use Rattle.worker_board.specs.Counts.{both_of, has_turn, holds, ran, times, is_hand, hand_of, removed}
use Rattle.worker_board.specs.Word.{IsClosed, IsCurrent, offers_at}
use Rattle.worker_board.specs.Rule.{Answer, Home, IsHand, IsPastReady, InPhase, PlaceLaw, BoardLaw, fresh}
use Rattle.worker_board.specs.Moves.{sent_out, new_hand, number_of, taken_in}
use Rattle.worker_board.proofs.CountsLemmas.{at_append, at_lt, total-append, total-set, term_le}
use Rattle.worker_board.proofs.CountsLemmas.{times-removed}
use Rattle.worker_board.proofs.DispatcherLemmas.{is_dispatcher}

no_claims : (l : List Claim) (p : ℕ) → l ≡ [] → total (λ (c : Claim). only p c.ticket.place) l ≡ 0
no_claims l p e = ap (λ (cs : List Claim). total (λ (c : Claim). only p c.ticket.place) cs) e

module _ (answer : Answer) where
  -- a place stays right where the sums over the seats stay
  same_sums : (p w : ℕ) (h : Home) (vs us : List View) (l : List Offer)
      → total (has_turn p) us ≡ total (has_turn p) vs → total (holds p) us ≡ total (holds p) vs
      → ((g : ℕ) → total (ran p g) us ≡ total (ran p g) vs)
      → PlaceLaw answer p w h vs l → PlaceLaw answer p w h us l
  same_sums p w h vs us l turns claims runs k = record {
    phase = k.phase;
    word_is = k.word_is;
    stands = subst (λ (t : ℕ). InPhase answer l h t k.phase) (sym turns) k.stands;
    held = claims ∙ k.held;
    run = λ g. runs g ∙ k.run g;
    past = k.past;
  }

  idle_turn : (p : ℕ) (who : Role) → has_turn p (fresh who) ≡ 0
  idle_turn p who = only-other (suc p) 0 (λ e. suc-ne-zero p (sym e))

  pub sends_out : (id : ℕ) (v : View) → v.role ≡ Dispatcher → v.turn ≡ 0 → times v.next v.used ≡ 0
      → Splits (BoardLaw answer) id v (sent_out v) (new_hand v)
  sends_out id v role idle unused s r me = let b = is_dispatcher answer s r id v me role in let w : View = sent_out v in let u : View = new_hand v in let vs : List View = set s.views id w in
      let boss_at : (x : ℕ) (z : View) → get_elem? s.views x ≡ some z → x < length s.views = at_lt s.views in
      let sum : (f : View → ℕ) → total f (vs ++ u ∷ []) + f v ≡ total f s.views + f w + f u =
      λ f. omega (arith, total-append f vs (u ∷ []), total-set f s.views id v w me) in
      let same_ledger : r.dispatcher.ledger ≡ v.ledger = ap (λ (x : View). x.ledger) b.1 in
      record {
        dispatcher = w;
        first = at_longer vs (u ∷ []) 0 w (subst
            (λ (x : ℕ). get_elem? (set s.views id w) x ≡ some w) b.0
            (set_here s.views id w (boss_at id v me)));
        dispatches = role;
        one_dispatcher = λ j x e is. ⊎_elim (λ (t : get_elem? vs j ≡ some x). ⊎_elim
            (λ (a : (j ≡ id) × (w ≡ x)). a.0 ∙ b.0)
            (λ (a : (j ≢ id) × (get_elem? s.views j ≡ some x)). r.one_dispatcher j x a.1 is)
            (at_set s.views id j w x t))
            (λ (t : u ≡ x). absurd (cc)) (at_snoc vs u x j e);
        wide = r.wide;
        long = ap length (sym same_ledger) ∙ r.long;
        places = λ p h. same_sums p _ _ s.views (vs ++ u ∷ []) (offers_at v.ledger p)
            (omega (arith, sum (has_turn p), idle_turn p (Hand v.next)))
            (omega (arith, sum (holds p))) (λ g. omega (arith, sum (ran p g)))
            (subst (λ (x : List (List Offer)). PlaceLaw answer p (get_or s.words p 0)
            (get_elem? s.homes p) s.views (offers_at x p)) same_ledger (r.places p h));
        seen = λ j k x y e at. ⊎_elim (λ (t : get_elem? vs j ≡ some x). ⊎_elim
            (λ (a : (j ≡ id) × (w ≡ x)). r.seen id k v y me
            (subst (λ (z : View). get_elem? z.notes k ≡ some y) (sym a.1) at))
            (λ (a : (j ≢ id) × (get_elem? s.views j ≡ some x)). r.seen j k x y a.1 at) (at_set s.views id j w x t))
            (λ (t : u ≡ x). absurd (some-ne-none y
            (sym (subst (λ (z : View). get_elem? z.notes k ≡ some y) (sym t) at))))
            (at_snoc vs u x j e);
        claims = λ j k x c e at. ⊎_elim (λ (t : get_elem? vs j ≡ some x). ⊎_elim
            (λ (a : (j ≡ id) × (w ≡ x)). let q = r.claims id k v c me (subst (λ (z : View). get_elem? z.held k ≡ some c) (sym a.1) at) in (
              q.0,
              subst (λ (z : List (List Offer)). IsCurrent c (offers_at z c.ticket.place))
                  same_ledger q.1,
              subst (λ (z : View). IsHand z.role) a.1 q.2,
            ))
            (λ (a : (j ≢ id) × (get_elem? s.views j ≡ some x)). let q = r.claims j k x c a.1 at in (q.0, subst (λ (z : List (List Offer)). IsCurrent c (offers_at z c.ticket.place)) same_ledger q.1, q.2)) (at_set s.views id j w x t))
            (λ (t : u ≡ x). absurd (some-ne-none c
            (sym (subst (λ (z : View). get_elem? z.held k ≡ some c) (sym t) at))))
            (at_snoc vs u x j e);
        entitled = λ j p x e on. ⊎_elim (λ (t : get_elem? vs j ≡ some x). ⊎_elim
            (λ (a : (j ≡ id) × (w ≡ x)). absurd (suc-ne-zero p (sym on ∙ ap (λ (z : View). z.turn) (sym a.1) ∙ idle)))
            (λ (a : (j ≢ id) × (get_elem? s.views j ≡ some x)).
            subst (λ (z : List (List Offer)). ((j ≡ 0) × IsClosed (offers_at z p))
            ⊎ (0 < holds p x)) same_ledger (r.entitled j p x a.1 on))
            (at_set s.views id j w x t))
            (λ (t : u ≡ x). absurd (suc-ne-zero p (sym on ∙ ap (λ (z : View). z.turn) (sym t)))) (at_snoc vs u x j e);
        lost = subst (λ (z : View). (k : ℕ) (t : OfferNo) → get_elem? z.lost k ≡ some t
            → IsPastReady t s.words) b.1 r.lost;
        hands = λ n. omega (arith, sum (is_hand n), r.hands n, ap (λ (z : View). times n z.out) b.1);
        once = λ n. let o = r.once n in let i = ap (λ (z : View). times n z.out) b.1 in let j = ap (λ (z : View). times n z.used) b.1 in (
          omega arith,
          dite (ℕ_discrete v.next n)
              (λ (e : v.next ≡ n). let z : times n v.used ≡ 0 = subst (λ (y : ℕ). times y v.used ≡ 0) e unused in omega (arith, only-same n v.next e)) (λ ne. omega (arith, only-other n v.next ne)),
        );
      }

  -- an idle hand's view becomes part of the dispatcher's
  pub takes_in : (id : ℕ) (v : View) (other : ℕ) (w : View) (m : ℕ) → v.role ≡ Dispatcher
      → v.turn ≡ 0 → w.role ≡ Hand m → w.turn ≡ 0 → w.held ≡ []
      → Joins (BoardLaw answer) id v other w (taken_in v w) (fresh Spent)
  takes_in id v other w m role idle hand calm empty s r me apart them = let b = is_dispatcher answer s r id v me role in let d : View = taken_in v w in let u : View = fresh Spent in
      let vs : List View = set s.views id d in let there : get_elem? s.views other ≡ some w = sym (set_else s.views id other d apart) ∙ them in
      let sum : (f : View → ℕ)
      → total f (set vs other u) + f v + f w ≡ total f s.views + f d + f u =
      λ f. omega (arith, total-set f vs other w u them, total-set f s.views id v d me) in
      let number : number_of w.role ≡ m = ap number_of hand in
      let same_ledger : r.dispatcher.ledger ≡ v.ledger = ap (λ (x : View). x.ledger) b.1 in
      let is-out : 0 < times m v.out =
      omega (
        arith,
        term_le (is_hand m) s.views other w there,
        r.hands m,
        ap (hand_of m) hand,
        only-same m m refl,
        ap (λ (z : View). times m z.out) b.1,
      ) in
      let out : (n : ℕ) → times n d.out + only n m ≡ times n v.out =
      λ n. subst (λ (x : ℕ). times n (removed x v.out) + only n m ≡ times n v.out)
      (sym number) (times-removed m n v.out is-out) in
      let cases : (P : ℕ → View → Type 0) (j : ℕ) (x : View) → get_elem? (set vs other u) j ≡ some x
      → (u ≡ x → P j x) → ((j ≡ id) → (d ≡ x) → P j x)
      → (get_elem? s.views j ≡ some x → P j x) → P j x
      = λ P j x e p q o. ⊎_elim (λ (t : (j ≡ other) × (u ≡ x)). p t.1)
      (λ (t : (j ≢ other) × (get_elem? vs j ≡ some x)). ⊎_elim
      (λ (a : (j ≡ id) × (d ≡ x)). q a.0 a.1)
      (λ (a : (j ≢ id) × (get_elem? s.views j ≡ some x)). o a.1) (at_set s.views id j d x t.1))
      (at_set vs other j u x e) in
      record {
        dispatcher = d;
        first = set_else vs other 0 u (λ z. apart (sym z ∙ sym b.0))
            ∙ subst (λ (x : ℕ). get_elem? (set s.views id d) x ≡ some d) b.0
            (set_here s.views id d (at_lt s.views id v me));
        dispatches = role;
        one_dispatcher = λ j x e is. cases (λ i _. i ≡ 0) j x e (λ t. absurd (cc)) (λ a _. a ∙ b.0)
            (λ a. r.one_dispatcher j x a is);
        wide = r.wide;
        long = ap length (sym same_ledger) ∙ r.long;
        places = λ p h. same_sums p _ _ s.views (set vs other u) (offers_at v.ledger p)
            (omega (
              arith,
              sum (has_turn p),
              idle_turn p Spent,
              only-other (suc p) w.turn (λ e. suc-ne-zero p (sym e ∙ calm)),
            ))
            (omega (arith, sum (holds p), no_claims w.held p empty))
            (λ g. omega (
              arith,
              sum (ran p g),
              total-append (λ (t : OfferNo). both_of p g t.place t.generation) w.runs v.runs,
            ))
            (subst (λ (x : List (List Offer)). PlaceLaw answer p (get_or s.words p 0)
            (get_elem? s.homes p) s.views (offers_at x p)) same_ledger (r.places p h));
        seen = λ j k x y e at. cases (λ _ z. get_elem? z.notes k ≡ some y → y.word ≤ get_or s.words y.place 0) j x e
            (λ t q. absurd (some-ne-none y (sym (subst (λ (z : View). get_elem? z.notes k ≡ some y) (sym t) q))))
            (λ _ t q. ⊎_elim (λ n. r.seen other n.0 w y there n.1) (λ n. r.seen id n.0 v y me n.1)
            (at_append w.notes v.notes k y (subst (λ (z : View). get_elem? z.notes k ≡ some y) (sym t) q)))
            (λ a q. r.seen j k x y a q) at;
        claims = λ j k x c e at. cases (λ _ z. get_elem? z.held k ≡ some c
            → (c.ticket.place < length s.homes) × IsCurrent c (offers_at v.ledger c.ticket.place)
            × IsHand z.role) j x e
            (λ t y. absurd (some-ne-none c (sym (subst (λ (z : View). get_elem? z.held k ≡ some c) (sym t) y))))
            (λ _ t y. let q = r.claims id k v c me (subst (λ (z : View). get_elem? z.held k ≡ some c) (sym t) y) in (q.0, subst (λ (z : List (List Offer)). IsCurrent c (offers_at z c.ticket.place)) same_ledger q.1, subst (λ (z : View). IsHand z.role) t q.2))
            (λ a y. let q = r.claims j k x c a y in (q.0, subst (λ (z : List (List Offer)). IsCurrent c (offers_at z c.ticket.place)) same_ledger q.1, q.2)) at;
        entitled = λ j p x e on. cases (λ i z. ((i ≡ 0) × IsClosed (offers_at v.ledger p)) ⊎ (0 < holds p z)) j x e
            (λ t. absurd (suc-ne-zero p (sym on ∙ ap (λ (z : View). z.turn) (sym t))))
            (λ _ t. absurd (suc-ne-zero p (sym on ∙ ap (λ (z : View). z.turn) (sym t) ∙ idle)))
            (λ a. subst (λ (z : List (List Offer)). ((j ≡ 0) × IsClosed (offers_at z p))
            ⊎ (0 < holds p x)) same_ledger (r.entitled j p x a on));
        lost = subst (λ (z : View). (k : ℕ) (t : OfferNo) → get_elem? z.lost k ≡ some t
            → IsPastReady t s.words) b.1 r.lost;
        hands = λ n. omega (
          arith,
          sum (is_hand n),
          r.hands n,
          ap (λ (z : View). times n z.out) b.1,
          ap (hand_of n) hand,
          out n,
        );
        once = λ n. let o = r.once n in let i = ap (λ (z : View). times n z.out) b.1 in let j = ap (λ (z : View). times n z.used) b.1 in let k = out n in (omega arith, omega arith);
      }
