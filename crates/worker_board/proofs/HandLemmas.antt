-- The hands' steps keep the rule.
use Rattle.std.proofs.Common.{◌≡◌, ℕ, zero, suc, ◌+◌, ◌*◌, ◌/◌, ◌<◌, ◌≤◌, ◌≢◌, List, [], ◌∷◌}
use Rattle.std.proofs.Common.{length, get_or, set, sym, refl, ap, ◌∙◌, subst, inr, ⊎_elim, arith}
use Rattle.std.proofs.Common.{cond, eqb, eq-eqb, ne_eqb, length-set, suc-ne-zero, le_refl, ◌==◌}
use Rattle.std.proofs.Common.{true, false}
use mathlib.Core.Logic.{dite}
use mathlib.Core.Option.{none, some, some-injective, some-ne-none}
use mathlib.Core.Option as maybe
use native.Mathlib.Decide.{ℕ_discrete}
use lib.ListN.{get_elem?}
use prog.Atomic.{either}
use Rattle.std.specs.Prelude.{Some, None}
use Rattle.rpc_base.proofs.TotalsLemmas.{only-same, only-other, only-is}
use Rattle.rpc_base.specs.Totals.{only, total}
use Rattle.atomic_table.specs.Table.{step, keeps, takes, gives, Allows}
use Rattle.atomic_table.proofs.Lists.{set_here, set_else, exchanged}
use Rattle.worker_board.specs.declared.word.TheConstants.{PHASES, READY, OVER}
use Rattle.worker_board.specs.declared.view.Job.{Job}
use Rattle.worker_board.specs.declared.view.Offer.{Offer}
use Rattle.worker_board.specs.declared.view.Claim.{Claim}
use Rattle.worker_board.specs.declared.Parcel.{Parcel}
use Rattle.worker_board.specs.declared.view.View.{View}
use Rattle.worker_board.specs.declared.view.Role.{Role}
use Rattle.worker_board.specs.declared.view.Role.TheVariants.{Hand}
use Rattle.worker_board.specs.declared.view.End.{End}
use Rattle.worker_board.specs.declared.view.End.TheVariants.{Open, Collected, TakenBack}
use Rattle.worker_board.specs.Counts.{both_of, has_turn, holds, ran}
use Rattle.worker_board.specs.Word.{Phase, closed, ready, claimed, done, word_at, IsOpen, job_of}
use Rattle.worker_board.specs.Word.{IsOfferedJob, IsCurrent, newest, run_of, runs_of, offers_at}
use Rattle.worker_board.specs.Rule.{Slot, Answer, Home, IsEmptyOrOut, IsHand, IsAnswered, InPhase}
use Rattle.worker_board.specs.Rule.{held_of, PlaceLaw, BoardLaw}
use Rattle.worker_board.specs.Moves.{Seated, Has, claim, note, noting, turned_to, lost_at, won}
use Rattle.worker_board.specs.Moves.{worked, Reopened, Released, Finished, Tried}
use Rattle.worker_board.proofs.CountsLemmas.{total-set, term_le, terms_le}
use Rattle.worker_board.proofs.CountsLemmas.{at_without, total-without, none-without}
use Rattle.worker_board.proofs.CountsLemmas.{suc_inj}
use Rattle.worker_board.proofs.WordLemmas.{not_both, word_open, lost_stays, offers_newest, other_word}
use Rattle.worker_board.proofs.WordLemmas.{some_term}
use Rattle.worker_board.proofs.FrameLemmas.{Table, state, Allowed, Alike, moved}

module _ (answer : Answer) where
  -- a hand is not the dispatcher
  not_first : (s : Table) (r : BoardLaw answer s) (id : ℕ) (v : View)
      → get_elem? s.views id ≡ some v → IsHand v.role → id ≢ 0
  not_first s r id v me hand z = let same : r.dispatcher ≡ v = some-injective r.dispatcher v (sym r.first ∙ subst (λ (x : ℕ). get_elem? s.views x ≡ some v) z me) in
      subst IsHand (sym (ap (λ (x : View). x.role) same) ∙ r.dispatches) hand

  hand_moved : (s : Table) (r : BoardLaw answer s) (id p n : ℕ) (v w : View) (hs : List (maybe.Option Slot))
      → IsHand v.role → w.role ≡ v.role → get_elem? s.views id ≡ some v → p < length s.homes
      → length hs ≡ length s.homes → ((q : ℕ) → q ≢ p → get_elem? hs q ≡ get_elem? s.homes q)
      → get_or s.words p 0 ≤ n → w.notes ≡ note p n ∷ v.notes → ((q : ℕ) → q ≢ p → Alike q v w)
      → PlaceLaw answer p n (get_elem? hs p) (set s.views id w) (offers_at r.dispatcher.ledger p)
      → ((k : ℕ) (c : Claim) → get_elem? w.held k ≡ some c → (c.ticket.place < length s.homes)
      × IsCurrent c (offers_at r.dispatcher.ledger c.ticket.place))
      → ((q : ℕ) → w.turn ≡ suc q → 0 < holds q w)
      → BoardLaw answer (state (set s.words p n) hs (set s.views id w))
  hand_moved s r id p n v w hs hand role me near long-hs homes up notes alike here mine turn = let other = not_first s r id v me hand in let long = r.wide in
      moved answer s r id p n v w r.dispatcher hs me near long-hs homes
      (set_else s.views id 0 w (λ z. other (sym z)) ∙ r.first) r.dispatches role refl refl
      r.long (λ q ne. refl) alike here
      (λ k c e. let t = mine k c e in (t.0, t.1, subst IsHand (sym role) hand))
      (λ i k u c ne e at is. subst (λ (x : ℕ). IsCurrent c (offers_at r.dispatcher.ledger x)) is
      (r.claims i k u c e at).1)
      (λ q on. inr (turn q on)) (λ no shut. shut) up notes
      (lost_stays s.words p n r.dispatcher.lost (omega arith) up r.lost)

  -- what a claim says of the newest offer, where that is open
  current_of : (x : Parcel) (l : List Offer) (p g : ℕ) → IsOfferedJob (job_of x) l → g ≡ newest l
      → IsCurrent (claim p g (job_of x)) l
  current_of x [] p g o e = o
  current_of x (y ∷ l) p g o e = (e, o)

  pub tries : (n id : ℕ) (m : Seated) (p g old new : ℕ) → p < n → IsHand m.0.role → m.0.turn ≡ 0
      → old ≡ PHASES * g + READY → new ≡ old + 1
      → Allows (BoardLaw answer) n id m p (λ y. either (eqb y old) new y) (Tried answer (step n p old new none) m)
  tries n id m p g old new inside hand idle is-old is-new s r wide me _ = let near : p < length s.homes = omega arith in let k = r.places p near in
      exchanged (get_or s.words p 0) old new G (hit near k.phase refl k.stands k.word_is) (miss near)
    where
      v : View
      v = m.0

      G : ℕ → Type 0
      G = Allowed answer s p id m (Tried answer (step n p old new none) m)

      l : List Offer
      l = offers_at r.dispatcher.ledger p

      not_closed : (ls : List Offer) → word_at ls closed ≢ old
      not_closed [] e = omega arith
      not_closed (x ∷ ls) e = omega arith

      miss : p < length s.homes → get_or s.words p 0 ≢ old → G (get_or s.words p 0)
      miss near not = let w : View = noting p (get_or s.words p 0) (lost_at m.0 p (old / PHASES)) in let k = r.places p near in (
        w,
        keeps,
        tt,
        hand_moved s r id p (get_or s.words p 0) m.0 w s.homes hand refl me near refl (λ q ne. refl)
            (le_refl _) refl (λ q ne. record { turns = refl; claims = refl; runs = λ g. refl })
            record {
              phase = k.phase;
              word_is = k.word_is;
              stands = subst (λ (t : ℕ). InPhase answer (offers_at r.dispatcher.ledger p) (get_elem? s.homes p) t k.phase) (let e : total (has_turn p) s.views ≡ total (has_turn p) (set s.views id w) = omega (arith, total-set (has_turn p) s.views id m.0 w me) in e) k.stands;
              held = omega (arith, total-set (holds p) s.views id m.0 w me, k.held);
              run = λ g. omega (arith, total-set (ran p g) s.views id m.0 w me, k.run g);
              past = k.past;
            }
            (λ i c e. let t = r.claims id i m.0 c me e in (t.0, t.1)) (λ q on. absurd (suc-ne-zero q (sym on ∙ idle))),
        (
          (λ at. absurd (not at)),
          (λ _. refl),
          λ _. other_word l k.phase (old / PHASES) (get_or s.words p 0) k.word_is (λ e. not (e ∙ omega arith)),
        ),
      )

      hit : (near : p < length s.homes) (ph : Phase) → (r.places p near).phase ≡ ph
          → InPhase answer (offers_at r.dispatcher.ledger p) (get_elem? s.homes p)
          (total (has_turn p) s.views) ph
          → get_or s.words p 0 ≡ word_at (offers_at r.dispatcher.ledger p) ph → get_or s.words p 0 ≡ old → G new
      hit near closed is k word at = absurd (not_closed (offers_at r.dispatcher.ledger p) (sym word ∙ at))
      hit near claimed is k word at = absurd (omega (arith, word_open (offers_at r.dispatcher.ledger p) claimed k.0))
      hit near done is k word at = absurd (omega (arith, word_open (offers_at r.dispatcher.ledger p) done k.0))
      hit near ready is k word at = let x = k.2.0 in let w : View = noting p new (turned_to (won m.0 p (old / PHASES) (job_of x)) (suc p)) in let of-job = offers_newest x (offers_at r.dispatcher.ledger p) k.2.2 in let ok = r.places p near in let lw = word_open (offers_at r.dispatcher.ledger p) ready k.0 in
          let gen : old / PHASES ≡ newest (offers_at r.dispatcher.ledger p) = omega arith in
          let turns : total (has_turn p) (set s.views id w) ≡ 1 =
          omega (
            arith,
            k.1,
            total-set (has_turn p) s.views id m.0 w me,
            only-same (suc p) (suc p) refl,
            only-other (suc p) m.0.turn
                (λ e. suc-ne-zero p (sym e ∙ idle)),
          ) in
          let mine-now : holds p w ≡ 1 + holds p m.0 = omega (arith, only-same p p refl) in (
            w,
            takes p (Some x),
            k.2.1,
            hand_moved s r id p new m.0 w (set s.homes p none) hand refl me near
                (length-set s.homes p none) (λ q ne. set_else s.homes p q none ne)
                (omega arith) refl
                (λ q ne. record {
                  turns = only-other (suc q) (suc p) (λ i. ne (sym (suc_inj i)))
                      ∙ sym (only-other (suc q) m.0.turn (λ i. suc-ne-zero q (sym i ∙ idle)));
                  claims = omega (arith, only-other q p (λ i. ne (sym i)));
                  runs = λ g. refl;
                })
                record {
                  phase = claimed;
                  word_is = omega (arith, word_open (offers_at r.dispatcher.ledger p) claimed k.0);
                  stands = (k.0, ((λ z. absurd (omega arith)), (λ _. set_here s.homes p none near), omega arith));
                  held = omega (arith, total-set (holds p) s.views id m.0 w me, ok.held, ap (held_of answer) is);
                  run = λ g. omega (arith, total-set (ran p g) s.views id m.0 w me, ok.run g)
                      ∙ (ap (λ ph. runs_of g ph (offers_at r.dispatcher.ledger p)) is
                      ∙ ready_claimed g (offers_at r.dispatcher.ledger p));
                  past = ok.past;
                }
                (claims-now x near of-job gen) (λ q on. let same : p ≡ q = suc_inj on in subst (λ (y : ℕ). 0 < holds y w) same (omega arith)),
            ((λ _. (x, k.2.3, refl)), (λ not. absurd (not at)), λ not. absurd (not at)),
          )
        where
          claims-now : (x : Parcel) → p < length s.homes
              → IsOfferedJob (job_of x) (offers_at r.dispatcher.ledger p)
              → old / PHASES ≡ newest (offers_at r.dispatcher.ledger p)
              → (i : ℕ) (c : Claim)
              → get_elem? (claim p (old / PHASES) (job_of x) ∷ m.0.held) i ≡ some c
              → (c.ticket.place < length s.homes)
              × IsCurrent c (offers_at r.dispatcher.ledger c.ticket.place)
          claims-now x near o gen zero c e =
              subst (λ (y : Claim). (y.ticket.place < length s.homes)
              × IsCurrent y (offers_at r.dispatcher.ledger y.ticket.place))
              (some-injective (claim p (old / PHASES) (job_of x)) c e)
              (near, current_of x (offers_at r.dispatcher.ledger p) p (old / PHASES) o gen)
          claims-now x near o gen (suc i) c e = let t = r.claims id i m.0 c me e in (t.0, t.1)

          run_same : (e : End) → run_of ready e ≡ run_of claimed e
          run_same Open = refl
          run_same Collected = refl
          run_same TakenBack = refl

          ready_claimed : (g : ℕ) (ls : List Offer) → runs_of g ready ls ≡ runs_of g claimed ls
          ready_claimed g [] = refl
          ready_claimed g (y ∷ ls) = ap (λ (z : ℕ). cond (g == length ls) z (runs_of g closed ls)) (run_same y.end)

  -- where a hand holds a claim of a place, the place is claimed
  claimed_phase : (s : Table) (r : BoardLaw answer s) (id p : ℕ) (v : View)
      (near : p < length s.homes) → get_elem? s.views id ≡ some v → 0 < holds p v → (ph : Phase)
      → (r.places p near).phase ≡ ph → ph ≡ claimed
  claimed_phase s r id p v near me has closed is =
      absurd (omega (
        arith,
        term_le (holds p) s.views id v me,
        (r.places p near).held,
        ap (held_of answer) is,
      ))
  claimed_phase s r id p v near me has ready is =
      absurd (omega (
        arith,
        term_le (holds p) s.views id v me,
        (r.places p near).held,
        ap (held_of answer) is,
      ))
  claimed_phase s r id p v near me has claimed is = refl
  claimed_phase s r id p v near me has done is =
      absurd (omega (
        arith,
        term_le (holds p) s.views id v me,
        (r.places p near).held,
        ap (held_of answer) is,
      ))

  -- who holds the claim alone may have the slot
  slot_with_no_other : (s : Table) (r : BoardLaw answer s) (id p : ℕ) (v : View)
      → get_elem? s.views id ≡ some v → 0 < holds p v → v.turn ≡ 0 → total (holds p) s.views ≡ 1
      → IsOpen (offers_at r.dispatcher.ledger p) → total (has_turn p) s.views ≡ 0
  slot_with_no_other s r id p v me has idle one live =
      dite (ℕ_discrete (total (has_turn p) s.views) 0) (λ z. z) (λ nz.
      let t = some_term (has_turn p) s.views (omega arith) in let u = t.1.0 in let on : u.turn ≡ suc p = only-is (suc p) u.turn t.1.2 in
      ⊎_elim (λ a. absurd (not_both (offers_at r.dispatcher.ledger p) live a.1))
      (λ (a : 0 < holds p u). dite (ℕ_discrete t.0 id)
      (λ same. let eq : u ≡ v = some-injective u v (sym t.1.1 ∙ subst (λ (x : ℕ). get_elem? s.views x ≡ some v) (sym same) me) in absurd (suc-ne-zero p (sym on ∙ ap (λ (x : View). x.turn) eq ∙ idle)))
      (λ apart. absurd (omega (arith, terms_le (holds p) s.views id t.0 v u apart me t.1.1))))
      (r.entitled t.0 p u t.1.1 on))

  -- a step of a hand at a place that it has claimed, which leaves the claim
  stays_claimed : (s : Table) (r : BoardLaw answer s) (id p : ℕ) (v : View) (t : ℕ)
      (h : maybe.Option Slot) → IsHand v.role → get_elem? s.views id ≡ some v → p < length s.homes
      → 0 < holds p v
      → (IsOpen (offers_at r.dispatcher.ledger p) → total (holds p) s.views ≡ 1
      → IsEmptyOrOut (get_elem? s.homes p) (total (has_turn p) s.views)
      → IsEmptyOrOut (some h) (total (has_turn p)
      (set s.views id (noting p (get_or s.words p 0) (turned_to v t)))))
      → ((q : ℕ) → q ≢ p → only (suc q) t ≡ only (suc q) v.turn) → ((q : ℕ) → t ≡ suc q → q ≡ p)
      → BoardLaw answer (state (set s.words p (get_or s.words p 0)) (set s.homes p h)
      (set s.views id (noting p (get_or s.words p 0) (turned_to v t))))
  stays_claimed s r id p v t h hand me near has empty turns on =
      let k = r.places p near in let w : View = noting p (get_or s.words p 0) (turned_to v t) in let is : k.phase ≡ claimed = claimed_phase s r id p v near me has k.phase refl in
      let st = subst (InPhase answer (offers_at r.dispatcher.ledger p) (get_elem? s.homes p)
      (total (has_turn p) s.views)) is k.stands in
      hand_moved s r id p (get_or s.words p 0) v w (set s.homes p h) hand refl me near
      (length-set s.homes p h) (λ q ne. set_else s.homes p q h ne) (le_refl _) refl
      (λ q ne. record { turns = turns q ne; claims = refl; runs = λ g. refl })
      record {
        phase = claimed;
        word_is = k.word_is ∙ ap (word_at (offers_at r.dispatcher.ledger p)) is;
        stands = (
          st.0,
          subst (λ (x : Home). IsEmptyOrOut x (total (has_turn p) (set s.views id w)))
              (sym (set_here s.homes p h near)) (empty st.0 (k.held ∙ ap (held_of answer) is) st.1),
        );
        held = omega (arith, total-set (holds p) s.views id v w me, k.held, ap (held_of answer) is);
        run = λ g. omega (arith, total-set (ran p g) s.views id v w me, k.run g)
            ∙ ap (λ ph. runs_of g ph (offers_at r.dispatcher.ledger p)) is;
        past = k.past;
      }
      (λ i c e. let y = r.claims id i v c me e in (y.0, y.1)) (λ q e. subst (λ (y : ℕ). 0 < holds y v) (sym (on q e)) has)

  pub reopens : (n id : ℕ) (m : Seated) (p : ℕ) → p < n → IsHand m.0.role → m.0.turn ≡ 0
      → 0 < holds p m.0 → Allows (BoardLaw answer) n id m p (λ y. y)
      (Reopened (step n p 0 0 none) m)
  reopens n id m p inside hand idle has s r wide me _ = let near : p < length s.homes = omega arith in let v : View = m.0 in let w : View = noting p (get_or s.words p 0) (turned_to v (suc p)) in
      let k = r.places p near in let is : k.phase ≡ claimed = claimed_phase s r id p v near me has k.phase refl in
      let st = subst (InPhase answer (offers_at r.dispatcher.ledger p) (get_elem? s.homes p)
      (total (has_turn p) s.views)) is k.stands in
      let zero-turns = slot_with_no_other s r id p v me has idle (k.held ∙ ap (held_of answer) is) st.0 in
      let turns : total (has_turn p) (set s.views id w) ≡ 1 =
      omega (
        arith,
        total-set (has_turn p) s.views id v w me,
        only-same (suc p) (suc p) refl,
        only-other (suc p) v.turn
            (λ e. suc-ne-zero p (sym e ∙ idle)),
      ) in (
        w,
        takes p None,
        st.1.0 zero-turns,
        stays_claimed s r id p v (suc p) none hand me near has
            (λ _ _ _. ((λ z. absurd (omega arith)), (λ _. refl), omega arith))
            (λ q ne. only-other (suc q) (suc p) (λ i. ne (sym (suc_inj i)))
            ∙ sym (only-other (suc q) v.turn (λ i. suc-ne-zero q (sym i ∙ idle))))
            (λ q e. sym (suc_inj e)),
        refl,
      )

  gives_back_from : (n id : ℕ) (v : View) (p : ℕ) (more : List (ℕ × Slot)) → p < n → IsHand v.role
      → v.turn ≡ suc p → 0 < holds p v
      → Allows (BoardLaw answer) n id (v, (p, None) ∷ more) p (λ y. y)
      (Released (step n p 0 0 none) (v, (p, None) ∷ more))
  gives_back_from n id v p more inside hand on has s r wide me _ = let near : p < length s.homes = omega arith in let w : View = noting p (get_or s.words p 0) (turned_to v 0) in
      let now = total-set (has_turn p) s.views id v w me in let on' = only-same (suc p) v.turn on in let off = only-other (suc p) 0 (λ e. suc-ne-zero p (sym e)) in (
        w,
        gives,
        tt,
        stays_claimed s r id p v 0 (some None) hand me near has (λ _ _ e. let few = e.2 in ((λ _. refl), (λ z. absurd (omega arith)), omega arith))
            (λ q ne. only-other (suc q) 0 (λ e. suc-ne-zero q (sym e))
            ∙ sym (only-other (suc q) v.turn (λ e. ne (suc_inj (sym e ∙ on)))))
            (λ q e. absurd (suc-ne-zero q (sym e))),
        refl,
      )

  pub gives_back : (n id : ℕ) (m : Seated) (p : ℕ) (more : List (ℕ × Slot)) → m.1 ≡ (p, None) ∷ more
      → p < n → IsHand m.0.role → m.0.turn ≡ suc p → 0 < holds p m.0
      → Allows (BoardLaw answer) n id m p (λ y. y) (Released (step n p 0 0 none) m)
  gives_back n id m p more e inside hand on has =
      subst (λ (c : List (ℕ × Slot)). Allows (BoardLaw answer) n id (m.0, c) p (λ y. y)
      (Released (step n p 0 0 none) (m.0, c))) (sym e)
      (gives_back_from n id m.0 p more inside hand on has)

  -- the run of the newest offer is counted
  runs_done : (l : List Offer) (p gen g : ℕ) → IsOpen l → gen ≡ newest l
      → runs_of g done l ≡ both_of p g p gen + runs_of g claimed l
  runs_done [] p gen g o e = absurd o
  runs_done (x ∷ l) p gen g o e = dite (ℕ_discrete g (length l))
      (λ is. cut (eqb g (length l)) (eq-eqb g (length l) is) (one p g gen (e ∙ sym is)))
      (λ no. cut-not (eqb g (length l)) (ne_eqb g (length l) no) (other p g gen (λ i. no (sym i ∙ e))))
    where
      one : (p g gen : ℕ) → gen ≡ g → both_of p g p gen ≡ 1
      one p g gen e = ap (λ b. cond b (only g gen) 0) (eq-eqb p p refl) ∙ only-same g gen e

      other : (p g gen : ℕ) → gen ≢ g → both_of p g p gen ≡ 0
      other p g gen n = ap (λ b. cond b (only g gen) 0) (eq-eqb p p refl) ∙ only-other g gen n

      shut : run_of claimed x.end ≡ 0
      shut = ap (run_of claimed) o

      yes : run_of done x.end ≡ 1
      yes = ap (run_of done) o

      cut : (b : _) → b ≡ true → both_of p g p gen ≡ 1
          → cond b (run_of done x.end) (runs_of g closed l)
          ≡ both_of p g p gen + cond b (run_of claimed x.end) (runs_of g closed l)
      cut true is h = omega (arith, shut, yes)
      cut false is h = absurd (cc)

      cut-not : (b : _) → b ≡ false → both_of p g p gen ≡ 0
          → cond b (run_of done x.end) (runs_of g closed l)
          ≡ both_of p g p gen + cond b (run_of claimed x.end) (runs_of g closed l)
      cut-not true is h = absurd (cc)
      cut-not false is h = omega arith

  -- a claim that is current has the generation and the job of the newest offer
  current_is : (c : Claim) (x : Parcel) (l : List Offer) → IsCurrent c l → c.job ≡ job_of x
      → (c.ticket.generation ≡ newest l) × IsOfferedJob (job_of x) l
  current_is c x [] k e = absurd k
  current_is c x (y ∷ l) k e = (k.0, k.1 ∙ e)

  finishes_from : (n id : ℕ) (v : View) (p i new : ℕ) (c : Claim) (x : Parcel)
      (more : List (ℕ × Slot)) → p < n → IsHand v.role → v.turn ≡ suc p
      → get_elem? v.held i ≡ some c → c.ticket.place ≡ p → c.job ≡ job_of x
      → IsAnswered answer x → new ≡ PHASES * c.ticket.generation + OVER
      → Allows (BoardLaw answer) n id (v, (p, Some x) ∷ more) p (λ _. new)
      (λ _. Finished (step n p new 0 none) (v, (p, Some x) ∷ more) new)
  finishes_from n id v p i new c x more inside hand on at place job out is-new s r wide me _ =
      let near : p < length s.homes = omega arith in let gen : ℕ = new / PHASES in let w : View = noting p new (turned_to (worked v p gen) 0) in let k = r.places p near in let l : List Offer = offers_at r.dispatcher.ledger p in
      let has : 0 < holds p v =
      omega (
        arith,
        term_le (λ (y : Claim). only p y.ticket.place) v.held i c at,
        only-same p c.ticket.place place,
      ) in
      let is : k.phase ≡ claimed = claimed_phase s r id p v near me has k.phase refl in
      let st = subst (InPhase answer l (get_elem? s.homes p) (total (has_turn p) s.views)) is k.stands in
      let cur = current_is c x l (subst (λ (y : ℕ). IsCurrent c (offers_at r.dispatcher.ledger y))
      place (r.claims id i v c me at).1) job in
      let few = st.1.2 in let word = word_open l claimed st.0 in let newer = word_open l done st.0 in let is-gen : gen ≡ newest l = omega (arith, cur.0) in
      let turns : total (has_turn p) (set s.views id w) ≡ 0 =
      omega (
        arith,
        total-set (has_turn p) s.views id v w me,
        only-same (suc p) v.turn on,
        only-other (suc p) 0 (λ e. suc-ne-zero p (sym e)),
      ) in (
        w,
        gives,
        tt,
        hand_moved s r id p new v w (set s.homes p (some (Some x))) hand refl me near
            (length-set s.homes p (some (Some x))) (λ q ne. set_else s.homes p q (some (Some x)) ne)
            (omega (arith, k.word_is, ap (word_at l) is, cur.0)) refl
            (λ q ne. record {
              turns = only-other (suc q) 0 (λ e. suc-ne-zero q (sym e))
                  ∙ sym (only-other (suc q) v.turn (λ e. ne (suc_inj (sym e ∙ on))));
              claims = total-without p q v.held ne;
              runs = λ g. let z : both_of q g p gen ≡ 0 = ap (λ b. cond b (only g gen) 0) (ne_eqb p q (λ e. ne (sym e))) in omega arith;
            })
            record {
              phase = done;
              word_is = omega (arith, cur.0);
              stands = (st.0, turns, (x, set_here s.homes p (some (Some x)) near, cur.1, out));
              held = omega (
                arith,
                total-set (holds p) s.views id v w me,
                none-without p v.held,
                k.held,
                ap (held_of answer) is,
              );
              run = λ g. omega (
                arith,
                total-set (ran p g) s.views id v w me,
                k.run g,
                ap (λ ph. runs_of g ph l) is,
                runs_done l p gen g st.0 is-gen,
              );
              past = k.past;
            }
            (λ j y e. let a = at_without p v.held j y e in let t = r.claims id a.0 v y me a.1 in (t.0, t.1)) (λ q e. absurd (suc-ne-zero q (sym e))),
        refl,
      )

  pub finishes : (n id : ℕ) (m : Seated) (p i new : ℕ) (c : Claim) (x : Parcel)
      (more : List (ℕ × Slot)) → m.1 ≡ (p, Some x) ∷ more → p < n → IsHand m.0.role
      → m.0.turn ≡ suc p → get_elem? m.0.held i ≡ some c → c.ticket.place ≡ p → c.job ≡ job_of x
      → IsAnswered answer x → new ≡ PHASES * c.ticket.generation + OVER
      → Allows (BoardLaw answer) n id m p (λ _. new) (λ _. Finished (step n p new 0 none) m new)
  finishes n id m p i new c x more e inside hand on at place job out is-new =
      subst (λ (y : List (ℕ × Slot)). Allows (BoardLaw answer) n id (m.0, y) p (λ _. new)
      (λ _. Finished (step n p new 0 none) (m.0, y) new)) (sym e)
      (finishes_from n id m.0 p i new c x more inside hand on at place job out is-new)

pub has_counts : (v : View) (q p g : ℕ) (j : Job) → q ≡ p → Has v.held (claim p g j) → 0 < holds q v
has_counts v q p g j is h =
    omega (
      arith,
      term_le (λ (y : Claim). only q y.ticket.place) v.held h.0 (claim p g j) h.1,
      only-same q p (sym is),
    )

pub hand_is : (who : Role) (n : ℕ) → who ≡ Hand n → IsHand who
hand_is who n e = subst IsHand (sym e) tt

pub holds_now : (w : View) (cs : List Claim) (p g : ℕ) (j : Job) → w.held ≡ claim p g j ∷ cs → 0 < holds p w
holds_now w cs p g j e =
    subst (λ (x : List Claim). 0 < total (λ (y : Claim). only p y.ticket.place) x) (sym e)
    (omega (arith, only-same p p refl))
