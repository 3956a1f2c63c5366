-- The dispatcher's steps keep the rule.
use Rattle.std.proofs.Common.{◌≡◌, ℕ, zero, suc, ◌+◌, ◌*◌, ◌/◌, ◌%◌, ◌<◌, ◌≤◌, ◌≢◌, List, [], ◌∷◌}
use Rattle.std.proofs.Common.{length, get_or, set, sym, refl, ap, ◌∙◌, subst, inl, inr, ⊎_elim}
use Rattle.std.proofs.Common.{arith, cond, eqb, eqb-true, true, false, length-set, get_or-set_other}
use Rattle.std.proofs.Common.{get_or-set_same, suc-ne-zero, le_refl}
use mathlib.Core.Logic.{dite}
use mathlib.Core.Option.{none, some, some-injective, some-ne-none}
use mathlib.Core.Option as maybe
use native.Mathlib.Decide.{ℕ_discrete}
use lib.ListN.{get_elem?}
use prog.Atomic.{either}
use Rattle.std.specs.Prelude.{Some, None}
use Rattle.rpc_base.proofs.TotalsLemmas.{only-same, only-other, only-is}
use Rattle.rpc_base.specs.Totals.{only, total}
use Rattle.atomic_table.specs.Table.{step, keeps, takes, gives, Allows}
use Rattle.atomic_table.proofs.Lists.{set_here, set_else, exchanged}
use Rattle.worker_board.specs.Tickets.{OfferNo, offer_no}
use Rattle.worker_board.specs.declared.word.TheConstants.{PHASES, READY, OVER}
use Rattle.worker_board.specs.declared.view.Offer.{Offer}
use Rattle.worker_board.specs.declared.view.Claim.{Claim}
use Rattle.worker_board.specs.declared.Parcel.{Parcel}
use Rattle.worker_board.specs.declared.view.View.{View}
use Rattle.worker_board.specs.declared.view.Role.{Role}
use Rattle.worker_board.specs.declared.view.Role.TheVariants.{Dispatcher, Hand, Spent}
use Rattle.worker_board.specs.declared.view.End.{End}
use Rattle.worker_board.specs.declared.view.End.TheVariants.{Open, Collected, TakenBack}
use Rattle.worker_board.specs.Counts.{both_of, has_turn, holds, ran, times, is_hand, hand_of}
use Rattle.worker_board.specs.Word.{IsUnfinished, Phase, closed, ready, claimed, done, digit}
use Rattle.worker_board.specs.Word.{word_at, IsOpen, IsClosed, IsCurrent, offer_of, ended, newest}
use Rattle.worker_board.specs.Word.{run_of, runs_of, OlderEnded, offers_at}
use Rattle.worker_board.specs.Rule.{Slot, Answer, Home, IsHand, IsPastReady, HasRoom, InPhase}
use Rattle.worker_board.specs.Rule.{held_of, PlaceLaw, BoardLaw}
use Rattle.worker_board.specs.Moves.{Seated, note, noting, turned_to, offered, ended_as, missed}
use Rattle.worker_board.specs.Moves.{lost_at, Opened, Released, Numbered, Named, Readied}
use Rattle.worker_board.specs.Moves.{LostBefore, Summed, Looked, TookBack}
use Rattle.worker_board.proofs.CountsLemmas.{at_lt, suc_inj, total-set, term_le}
use Rattle.worker_board.proofs.WordLemmas.{not_both, closed_phase, word_open, word_ended}
use Rattle.worker_board.proofs.WordLemmas.{word_below, closed_ended, older_ended, all_ended}
use Rattle.worker_board.proofs.WordLemmas.{runs_ended, runs_offered, lost_stays, some_term}
use Rattle.worker_board.proofs.FrameLemmas.{Table, state, Allowed, moved}

-- a claim at a place counts there
pub claim_counts : (vs : List View) (j k p : ℕ) (v : View) (c : Claim) → get_elem? vs j ≡ some v
    → get_elem? v.held k ≡ some c → c.ticket.place ≡ p → 0 < total (holds p) vs
claim_counts vs j k p v c me at is =
    omega (
      arith,
      term_le (holds p) vs j v me,
      term_le (λ (x : Claim). only p x.ticket.place) v.held k c at,
      only-same p c.ticket.place is,
    )

-- a seat's turn counts
pub turn_counts : (vs : List View) (j p : ℕ) (v : View) → get_elem? vs j ≡ some v → v.turn ≡ suc p
    → 0 < total (has_turn p) vs
turn_counts vs j p v me is = omega (arith, term_le (has_turn p) vs j v me, only-same (suc p) v.turn is)

module _ (answer : Answer) where
  -- the dispatcher's view, and its number
  pub is_dispatcher : (s : Table) (r : BoardLaw answer s) (id : ℕ) (v : View)
      → get_elem? s.views id ≡ some v → v.role ≡ Dispatcher → (id ≡ 0) × (r.dispatcher ≡ v)
  is_dispatcher s r id v me role = let z = r.one_dispatcher id v me role in (z, some-injective r.dispatcher v (sym r.first ∙ subst (λ (x : ℕ). get_elem? s.views x ≡ some v) z me))

  pub dispatcher_moved : (s : Table) (r : BoardLaw answer s) (id p n : ℕ) (v : View)
      (hs : List (maybe.Option Slot)) (lg : List (List Offer)) (t : ℕ) (ms ls : List OfferNo)
      (nx : ℕ)
      → v.role ≡ Dispatcher → get_elem? s.views id ≡ some v → p < length s.homes
      → length hs ≡ length s.homes → ((q : ℕ) → q ≢ p → get_elem? hs q ≡ get_elem? s.homes q)
      → length lg ≡ length v.ledger → ((q : ℕ) → q ≢ p → offers_at lg q ≡ offers_at v.ledger q)
      → ((q : ℕ) → q ≢ p → only (suc q) t ≡ only (suc q) v.turn)
      → PlaceLaw answer p n (get_elem? hs p) (set s.views id record v
      { turn = t; notes = note p n ∷ v.notes; ledger = lg; misses = ms; lost = ls; next = nx })
      (offers_at lg p)
      → ((c : Claim) → 0 < total (holds p) s.views → IsCurrent c (offers_at v.ledger p)
      → IsCurrent c (offers_at lg p))
      → ((q : ℕ) → t ≡ suc q → (q ≡ p) × IsClosed (offers_at lg p)) → get_or s.words p 0 ≤ n
      → ((k : ℕ) (x : OfferNo) → get_elem? ls k ≡ some x → IsPastReady x (set s.words p n))
      → BoardLaw answer (state (set s.words p n) hs
      (set s.views id record v {
        turn = t;
        notes = note p n ∷ v.notes;
        ledger = lg;
        misses = ms;
        lost = ls;
        next = nx;
      }))
  dispatcher_moved s r id p n v hs lg t ms ls nx role me near long-hs homes long-lg same turns here
      still turn up lost =
      let b = is_dispatcher s r id v me role in let w : View = record v { turn = t; notes = note p n ∷ v.notes; ledger = lg; misses = ms; lost = ls; next = nx } in
      let at : (q : ℕ) → offers_at v.ledger q ≡ offers_at r.dispatcher.ledger q =
      λ q. ap (λ (x : View). offers_at x.ledger q) (sym b.1) in
      let one : id < length s.views = at_lt s.views id v me in
      let keep : (k : ℕ) (j : ℕ) (u : View) (c : Claim) → get_elem? s.views j ≡ some u
      → get_elem? u.held k ≡ some c → c.ticket.place ≡ p → IsCurrent c (offers_at lg p) =
      λ k j u c e at' is.
      still c (claim_counts s.views j k p u c e at' is)
      (subst (IsCurrent c) (ap (offers_at r.dispatcher.ledger) is ∙ sym (at p))
      (r.claims j k u c e at').1) in
      moved answer s r id p n v w w hs me near long-hs homes
      (subst (λ (x : ℕ). get_elem? (set s.views id w) x ≡ some w) b.0 (set_here s.views id w one))
      role refl (ap (λ (x : View). x.out) (sym b.1)) (ap (λ (x : View). x.used) (sym b.1))
      (long-lg ∙ ap (λ (x : View). length x.ledger) (sym b.1) ∙ r.long) (λ q ne. same q ne ∙ at q)
      (λ q ne. record { turns = turns q ne; claims = refl; runs = λ g. refl }) here
      (λ k c e. let was = r.claims id k v c me e in (was.0, dite (ℕ_discrete c.ticket.place p) (λ is. subst (λ (x : ℕ). IsCurrent c (offers_at lg x)) (sym is) (keep k id v c me e is)) (λ ne. subst (IsCurrent c) (sym (same c.ticket.place ne ∙ at c.ticket.place)) was.1), was.2))
      (λ i k u c ne e at' is. keep k i u c e at' is)
      (λ q on. let c = turn q on in inl (b.0, subst (λ (x : ℕ). IsClosed (offers_at lg x)) (sym c.0) c.1))
      (λ no. absurd (no b.0)) up refl lost

  -- what the dispatcher's step leaves of the place that it steps at
  place_after : (p w₀ n id : ℕ) (h₀ h : Home) (vs : List View) (v w : View) (l₀ l : List Offer)
      (ph : Phase) → get_elem? vs id ≡ some v → w.held ≡ v.held → w.runs ≡ v.runs
      → (k : PlaceLaw answer p w₀ h₀ vs l₀) → n ≡ word_at l ph
      → InPhase answer l h (total (has_turn p) (set vs id w)) ph
      → held_of answer ph ≡ held_of answer k.phase
      → ((g : ℕ) → runs_of g ph l ≡ runs_of g k.phase l₀) → OlderEnded l → PlaceLaw answer p n h (set vs id w) l
  place_after p w₀ n id h₀ h vs v w l₀ l ph me held runs k word stands same-held same-runs past = record {
    phase = ph;
    word_is = word;
    stands = stands;
    held = omega (
      arith,
      total-set (holds p) vs id v w me,
      ap (λ (cs : List Claim). total (λ (c : Claim). only p c.ticket.place) cs) held,
      k.held,
    );
    run = λ g. omega (
      arith,
      total-set (ran p g) vs id v w me,
      ap (λ (ts : List OfferNo). total (λ (t : OfferNo). both_of p g t.place t.generation) ts)
          runs,
      k.run g,
      same-runs g,
    );
    past = past;
  }

  -- nobody has the slot of a closed place while the dispatcher has none
  slot_with_nobody : (s : Table) (r : BoardLaw answer s) (id p : ℕ) (v : View)
      → get_elem? s.views id ≡ some v → v.role ≡ Dispatcher → v.turn ≡ 0
      → total (holds p) s.views ≡ 0 → total (has_turn p) s.views ≡ 0
  slot_with_nobody s r id p v me role idle none-held = let b = is_dispatcher s r id v me role in dite (ℕ_discrete (total (has_turn p) s.views) 0) (λ z. z) (λ nz.
      let t = some_term (has_turn p) s.views (omega arith) in let u = t.1.0 in let on : u.turn ≡ suc p = only-is (suc p) u.turn t.1.2 in
      ⊎_elim (λ a. let same : u ≡ v = some-injective u v (sym t.1.1 ∙ subst (λ (x : ℕ). get_elem? s.views x ≡ some v) (b.0 ∙ sym a.0) me) in absurd (suc-ne-zero p (sym on ∙ ap (λ (x : View). x.turn) same ∙ idle)))
      (λ a. absurd (omega (arith, term_le (holds p) s.views t.0 u t.1.1))) (r.entitled t.0 p u t.1.1 on))

  pub opens : (n id : ℕ) (m : Seated) (p : ℕ) → p < n → m.0.role ≡ Dispatcher → m.0.turn ≡ 0
      → IsClosed (offers_at m.0.ledger p)
      → Allows (BoardLaw answer) n id m p (λ y. y) (Opened (step n p 0 0 none) m)
  opens n id m p inside role idle shut s r wide me _ =
      let near : p < length s.homes = omega arith in let v : View = m.0 in let b = is_dispatcher s r id v me role in let l : List Offer = offers_at v.ledger p in
      let k : PlaceLaw answer p (get_or s.words p 0) (get_elem? s.homes p) s.views l =
      subst (λ (x : View). PlaceLaw answer p (get_or s.words p 0)
      (get_elem? s.homes p) s.views (offers_at x.ledger p)) b.1 (r.places p near) in
      let is : k.phase ≡ closed = closed_phase answer l _ _ shut k.phase k.stands in
      let stands = subst (InPhase answer l (get_elem? s.homes p) (total (has_turn p) s.views)) is k.stands in
      let none-held : total (holds p) s.views ≡ 0 = k.held ∙ ap (held_of answer) is in
      let zero-turns = slot_with_nobody s r id p v me role idle none-held in
      let w : View = noting p (get_or s.words p 0) (turned_to v (suc p)) in
      let turns : total (has_turn p) (set s.views id w) ≡ 1 =
      omega (
        arith,
        total-set (has_turn p) s.views id v w me,
        only-same (suc p) (suc p) refl,
        only-other (suc p) v.turn
            (λ e. suc-ne-zero p (sym e ∙ idle)),
      ) in
      let long = r.wide in (
        w,
        takes p None,
        stands.1.0 zero-turns,
        dispatcher_moved s r id p (get_or s.words p 0) v (set s.homes p none) v.ledger (suc p)
            v.misses v.lost v.next role me near (length-set s.homes p none)
            (λ q ne. set_else s.homes p q none ne) refl (λ q ne. refl)
            (λ q ne. only-other (suc q) (suc p) (λ e. ne (sym (suc_inj e)))
            ∙ sym (only-other (suc q) v.turn (λ e. suc-ne-zero q (sym e ∙ idle))))
            (place_after p (get_or s.words p 0)
            (get_or s.words p 0) id (get_elem? s.homes p) _ s.views v w l l closed me refl refl
            k (k.word_is ∙ ap (word_at l) is)
            (shut, ((λ z. absurd (omega arith)), (λ _. set_here s.homes p none near), omega arith))
            (ap (held_of answer) (sym is)) (λ g. ap (λ ph. runs_of g ph l) (sym is)) k.past)
            (λ c _ cur. cur) (λ q e. (sym (suc_inj e), shut)) (le_refl _)
            (lost_stays s.words p (get_or s.words p 0) v.lost (omega arith) (le_refl _)
            (subst (λ (x : View). (k : ℕ) (t : OfferNo) → get_elem? x.lost k ≡ some t
            → IsPastReady t s.words) b.1 r.lost)),
        (refl, k.word_is ∙ ap (word_at l) is),
      )

  -- what the dispatcher knows of a place, by its own list of offers
  pub place_known : (s : Table) (r : BoardLaw answer s) (id p : ℕ) (v : View)
      → get_elem? s.views id ≡ some v → v.role ≡ Dispatcher → p < length s.homes
      → PlaceLaw answer p (get_or s.words p 0) (get_elem? s.homes p) s.views (offers_at v.ledger p)
  place_known s r id p v me role near =
      subst (λ (x : View). PlaceLaw answer p (get_or s.words p 0)
      (get_elem? s.homes p) s.views (offers_at x.ledger p))
      (is_dispatcher s r id v me role).1 (r.places p near)

  lost_now : (s : Table) (r : BoardLaw answer s) (id p n : ℕ) (v : View)
      → get_elem? s.views id ≡ some v → v.role ≡ Dispatcher → p < length s.homes
      → get_or s.words p 0 ≤ n
      → (k : ℕ) (x : OfferNo) → get_elem? v.lost k ≡ some x → IsPastReady x (set s.words p n)
  lost_now s r id p n v me role near up = let long = r.wide in
      lost_stays s.words p n v.lost (omega arith) up
      (subst (λ (x : View). (k : ℕ) (t : OfferNo) → get_elem? x.lost k ≡ some t
      → IsPastReady t s.words) (is_dispatcher s r id v me role).1 r.lost)

  -- an empty slot that was out is given back
  given_back : (l : List Offer) (h h' : Home) (t t' : ℕ) → t' + 1 ≡ t → h' ≡ some (some None)
      → (ph : Phase) → InPhase answer l h t ph → InPhase answer l h' t' ph
  given_back l h h' t t' one here closed k = let few = k.1.2 in (k.0, ((λ _. here), (λ z. absurd (omega arith)), omega arith))
  given_back l h h' t t' one here claimed k = let few = k.1.2 in (k.0, ((λ _. here), (λ z. absurd (omega arith)), omega arith))
  given_back l h h' t t' one here ready k = let none-out = k.1 in absurd (omega arith)
  given_back l h h' t t' one here done k = let none-out = k.1 in absurd (omega arith)

  releases_from : (n id : ℕ) (v : View) (p : ℕ) (more : List (ℕ × Slot)) → p < n
      → v.role ≡ Dispatcher → v.turn ≡ suc p
      → Allows (BoardLaw answer) n id (v, (p, None) ∷ more) p (λ y. y)
      (Released (step n p 0 0 none) (v, (p, None) ∷ more))
  releases_from n id v p more inside role on s r wide me _ =
      let near : p < length s.homes = omega arith in let l : List Offer = offers_at v.ledger p in let k = place_known s r id p v me role near in let w : View = noting p (get_or s.words p 0) (turned_to v 0) in
      let now = total-set (has_turn p) s.views id v w me in let on' = only-same (suc p) v.turn on in let off = only-other (suc p) 0 (λ e. suc-ne-zero p (sym e)) in (
        w,
        gives,
        tt,
        dispatcher_moved s r id p (get_or s.words p 0) v (set s.homes p (some None)) v.ledger 0
            v.misses v.lost v.next role me near (length-set s.homes p (some None))
            (λ q ne. set_else s.homes p q (some None) ne) refl (λ q ne. refl)
            (λ q ne. only-other (suc q) 0 (λ e. suc-ne-zero q (sym e))
            ∙ sym (only-other (suc q) v.turn (λ e. ne (suc_inj (sym e ∙ on)))))
            (place_after p (get_or s.words p 0)
            (get_or s.words p 0) id (get_elem? s.homes p) _ s.views v w l l k.phase me refl refl
            k k.word_is
            (given_back l _ _ _ _ (omega arith)
            (set_here s.homes p (some None) near) k.phase k.stands) refl (λ g. refl) k.past)
            (λ c _ cur. cur) (λ q e. absurd (suc-ne-zero q (sym e))) (le_refl _)
            (lost_now s r id p (get_or s.words p 0) v me role near (le_refl _)),
        refl,
      )

  pub releases : (n id : ℕ) (m : Seated) (p : ℕ) (more : List (ℕ × Slot)) → m.1 ≡ (p, None) ∷ more
      → p < n → m.0.role ≡ Dispatcher → m.0.turn ≡ suc p
      → Allows (BoardLaw answer) n id m p (λ y. y) (Released (step n p 0 0 none) m)
  releases n id m p more e inside role on =
      subst (λ (c : List (ℕ × Slot)). Allows (BoardLaw answer) n id (m.0, c) p (λ y. y)
      (Released (step n p 0 0 none) (m.0, c))) (sym e)
      (releases_from n id m.0 p more inside role on)

  set_offers : (lg : List (List Offer)) (p : ℕ) (l : List Offer) → p < length lg → offers_at (set lg p l) p ≡ l
  set_offers lg p l near = get_or-set_same lg p l [] near

  readies_from : (n id : ℕ) (v : View) (p : ℕ) (x : Parcel) (more : List (ℕ × Slot)) (new : ℕ)
      → p < n → v.role ≡ Dispatcher → v.turn ≡ suc p → IsClosed (offers_at v.ledger p)
      → HasRoom answer x
      → new ≡ PHASES * length (offers_at v.ledger p) + READY
      → Allows (BoardLaw answer) n id (v, (p, Some x) ∷ more) p (λ _. new)
      (λ _. Readied (step n p new 0 none) (v, (p, Some x) ∷ more) new)
  readies_from n id v p x more new inside role on shut fits is-new s r wide me _ =
      let near : p < length s.homes = omega arith in let b = is_dispatcher s r id v me role in let l : List Offer = offers_at v.ledger p in let o = offer_of x Open in
      let k = place_known s r id p v me role near in let is : k.phase ≡ closed = closed_phase answer l _ _ shut k.phase k.stands in
      let stands = subst (InPhase answer l (get_elem? s.homes p) (total (has_turn p) s.views)) is k.stands in
      let none-held : total (holds p) s.views ≡ 0 = k.held ∙ ap (held_of answer) is in
      let word : get_or s.words p 0 ≡ word_at l closed = k.word_is ∙ ap (word_at l) is in let low = word_below l in
      let w : View = noting p new (turned_to (offered v p x) 0) in let now = total-set (has_turn p) s.views id v w me in let on' = only-same (suc p) v.turn on in let off = only-other (suc p) 0 (λ e. suc-ne-zero p (sym e)) in
      let few = stands.1.2 in let turns : total (has_turn p) (set s.views id w) ≡ 0 = omega arith in
      let long : length v.ledger ≡ length s.homes = ap (λ (u : View). length u.ledger) (sym b.1) ∙ r.long in
      let here : offers_at w.ledger p ≡ o ∷ l = set_offers v.ledger p (o ∷ l) (omega arith) in (
        w,
        gives,
        tt,
        dispatcher_moved s r id p new v (set s.homes p (some (Some x))) w.ledger 0 v.misses v.lost
            v.next role me near (length-set s.homes p (some (Some x)))
            (λ q ne. set_else s.homes p q (some (Some x)) ne)
            (length-set v.ledger p (o ∷ l)) (λ q ne. get_or-set_other v.ledger p q (o ∷ l) [] ne)
            (λ q ne. only-other (suc q) 0 (λ e. suc-ne-zero q (sym e))
            ∙ sym (only-other (suc q) v.turn (λ e. ne (suc_inj (sym e ∙ on)))))
            (subst (λ (ls : List Offer). PlaceLaw answer p new
            (get_elem? (set s.homes p (some (Some x))) p) (set s.views id w) ls) (sym here)
            (place_after p (get_or s.words p 0) new id (get_elem? s.homes p) _ s.views v w l (o ∷ l)
            ready me refl refl k is-new
            (refl, turns, (x, set_here s.homes p (some (Some x)) near, refl, fits)) (ap (held_of answer) (sym is))
            (λ g. runs_offered g l x ∙ ap (λ ph. runs_of g ph l) (sym is)) (all_ended l shut k.past)))
            (λ c some-held _. absurd (omega arith)) (λ q e. absurd (suc-ne-zero q (sym e))) (omega arith)
            (lost_now s r id p new v me role near (omega arith)),
        λ y e. let same : x ≡ y = some_inj (ap (λ (c : List (ℕ × Slot)). (get_or c 0 (p, None)).1) e) in ap (λ (z : Parcel). (noting p new (turned_to (offered v p z) 0), more)) same,
      )
    where
      some_inj : {a b : Parcel} → Some a ≡ Some b → a ≡ b
      some_inj e = cc

  pub readies : (n id : ℕ) (m : Seated) (p : ℕ) (x : Parcel) (more : List (ℕ × Slot)) (new : ℕ)
      → m.1 ≡ (p, Some x) ∷ more → p < n → m.0.role ≡ Dispatcher → m.0.turn ≡ suc p
      → IsClosed (offers_at m.0.ledger p) → HasRoom answer x
      → new ≡ PHASES * length (offers_at m.0.ledger p) + READY
      → Allows (BoardLaw answer) n id m p (λ _. new) (λ _. Readied (step n p new 0 none) m new)
  readies n id m p x more new e inside role on shut fits is-new =
      subst (λ (c : List (ℕ × Slot)). Allows (BoardLaw answer) n id (m.0, c) p (λ _. new)
      (λ _. Readied (step n p new 0 none) (m.0, c) new)) (sym e)
      (readies_from n id m.0 p x more new inside role on shut fits is-new)

  -- a step that leaves all as it was, but for the dispatcher's lists of misses and losses
  dispatcher_notes : (s : Table) (r : BoardLaw answer s) (id p : ℕ) (v : View)
      (ms ls : List OfferNo) (nx : ℕ) → get_elem? s.views id ≡ some v → v.role ≡ Dispatcher
      → p < length s.homes → v.turn ≡ 0
      → ((k : ℕ) (x : OfferNo) → get_elem? ls k ≡ some x → IsPastReady x (set s.words p (get_or s.words p 0)))
      → BoardLaw answer (state (set s.words p (get_or s.words p 0)) s.homes
      (set s.views id record v {
        notes = note p (get_or s.words p 0) ∷ v.notes;
        misses = ms;
        lost = ls;
        next = nx;
      }))
  dispatcher_notes s r id p v ms ls nx me role near idle lost = let k = place_known s r id p v me role near in let l : List Offer = offers_at v.ledger p in let w : View = record v { notes = note p (get_or s.words p 0) ∷ v.notes; misses = ms; lost = ls; next = nx } in
      let turns : total (has_turn p) s.views ≡ total (has_turn p) (set s.views id w) =
      omega (arith, total-set (has_turn p) s.views id v w me) in
      dispatcher_moved s r id p (get_or s.words p 0) v s.homes v.ledger v.turn ms ls nx role me near
      refl (λ q ne. refl) refl (λ q ne. refl) (λ q ne. refl)
      (place_after p (get_or s.words p 0) (get_or s.words p 0) id (get_elem? s.homes p) _ s.views v
      w l l k.phase me refl refl k k.word_is
      (subst (λ (t : ℕ). InPhase answer l (get_elem? s.homes p) t k.phase) turns k.stands) refl
      (λ g. refl) k.past)
      (λ c _ cur. cur) (λ q e. absurd (suc-ne-zero q (sym e ∙ idle))) (le_refl _) lost

  -- the dispatcher ends its newest offer of a place, and takes the slot
  dispatcher_ends : (s : Table) (r : BoardLaw answer s) (id p new : ℕ) (v : View) (e : End)
      (ph : Phase) (x : Parcel) → (me : get_elem? s.views id ≡ some v)
      → (role : v.role ≡ Dispatcher) → (near : p < length s.homes) → v.turn ≡ 0
      → e ≢ Open → IsOpen (offers_at v.ledger p) → (place_known s r id p v me role near).phase ≡ ph
      → total (has_turn p) s.views ≡ 0 → held_of answer ph ≡ 0 → run_of closed e ≡ run_of ph Open
      → new ≡ PHASES * newest (offers_at v.ledger p) + OVER → get_or s.words p 0 ≤ new
      → BoardLaw answer (state (set s.words p new) (set s.homes p none)
      (set s.views id (noting p new (turned_to (ended_as e v p) (suc p)))))
  dispatcher_ends s r id p new v e ph x me role near idle over live is zero-turns zero-held same-runs is-new up = let k = place_known s r id p v me role near in let l : List Offer = offers_at v.ledger p in let b = is_dispatcher s r id v me role in
      let w : View = noting p new (turned_to (ended_as e v p) (suc p)) in let long : length v.ledger ≡ length s.homes = ap (λ (u : View). length u.ledger) (sym b.1) ∙ r.long in
      let here : offers_at w.ledger p ≡ ended e l = set_offers v.ledger p (ended e l) (omega arith) in
      let none-held : total (holds p) s.views ≡ 0 = k.held ∙ ap (held_of answer) is ∙ zero-held in
      let turns : total (has_turn p) (set s.views id w) ≡ 1 =
      omega (
        arith,
        total-set (has_turn p) s.views id v w me,
        only-same (suc p) (suc p) refl,
        only-other (suc p) v.turn
            (λ e. suc-ne-zero p (sym e ∙ idle)),
      ) in
      dispatcher_moved s r id p new v (set s.homes p none) w.ledger (suc p) v.misses v.lost v.next
      role me near (length-set s.homes p none) (λ q ne. set_else s.homes p q none ne)
      (length-set v.ledger p (ended e l)) (λ q ne. get_or-set_other v.ledger p q (ended e l) [] ne)
      (λ q ne. only-other (suc q) (suc p) (λ i. ne (sym (suc_inj i)))
      ∙ sym (only-other (suc q) v.turn (λ i. suc-ne-zero q (sym i ∙ idle))))
      (subst (λ (ls : List Offer). PlaceLaw answer p new (get_elem? (set s.homes p none) p)
      (set s.views id w) ls) (sym here)
      (place_after p (get_or s.words p 0) new id (get_elem? s.homes p) _ s.views v w l (ended e l)
      closed me refl refl k (is-new ∙ sym (word_ended l e live)) (
        closed_ended l e over,
        (
          (λ z. absurd (omega arith)),
          (λ _. set_here s.homes p none near),
          omega arith,
        ),
      ) (sym (ap (held_of answer) is ∙ zero-held))
      (λ g. runs_ended g l e ph live same-runs ∙ ap (λ i. runs_of g i l) (sym is)) (older_ended l e k.past)))
      (λ c some-held _. absurd (omega arith))
      (λ q i. (sym (suc_inj i), subst IsClosed (sym here) (closed_ended l e over))) up
      (lost_now s r id p new v me role near up)

  -- a claim that is held is a hand's that is out
  claimed_by_a_hand : (s : Table) (r : BoardLaw answer s) (p : ℕ) → p < length s.homes
      → total (holds p) s.views ≡ 1 → r.dispatcher.out ≡ [] → ⊥
  claimed_by_a_hand s r p near one none-out = let t = some_term (holds p) s.views (omega arith) in let u = t.1.0 in let c = some_term (λ (x : Claim). only p x.ticket.place) u.held t.1.2 in
      out_of u.role refl (r.claims t.0 c.0 u c.1.0 t.1.1 c.1.1).2
    where
      out_of : (who : Role) → (some_term (holds p) s.views (omega arith)).1.0.role ≡ who → IsHand who → ⊥
      out_of (Hand n) is h = let t = some_term (holds p) s.views (omega arith) in absurd (omega (arith, term_le (is_hand n) s.views t.0 t.1.0 t.1.1, r.hands n, ap (times n) none-out, ap (hand_of n) is, only-same n n refl))
      out_of Dispatcher is h = h
      out_of Spent is h = h

  pub looks : (n id : ℕ) (m : Seated) (p : ℕ) → p < n → m.0.role ≡ Dispatcher → m.0.turn ≡ 0
      → IsOpen (offers_at m.0.ledger p)
      → Allows (BoardLaw answer) n id m p (λ y. y) (Looked answer (step n p 0 0 none) m)
  looks n id m p inside role idle live s r wide me _ = let near : p < length s.homes = omega arith in let v : View = m.0 in let l : List Offer = offers_at v.ledger p in let k = place_known s r id p v me role near in
      go near k.phase refl k.stands (k.word_is ∙ word_open l k.phase live)
    where
      v : View
      v = m.0

      unready : (near : p < length s.homes) → get_or s.words p 0 % PHASES ≢ OVER
          → (LostBefore m.0 p → m.0.out ≡ [] → ⊥)
          → IsUnfinished (newest (offers_at m.0.ledger p)) (get_or s.words p 0)
          → (m.0.out ≡ [] → get_or s.words p 0 ≡ PHASES * newest (offers_at m.0.ledger p) + READY)
          → Allowed answer s p id m (Looked answer (step n p 0 0 none) m) (get_or s.words p 0)
      unready near not sure found alone = (
        noting p (get_or s.words p 0) (missed m.0 p),
        keeps,
        tt,
        dispatcher_notes s r id p m.0 (offer_no p (newest (offers_at m.0.ledger p)) ∷ m.0.misses)
            m.0.lost m.0.next me role near idle
            (lost_now s r id p (get_or s.words p 0) m.0 me role near (le_refl _)),
        (
          (λ e. absurd (not e)),
          (λ _. refl),
          (λ had none-out. absurd (sure had none-out)),
          (λ e. absurd (not e)),
          (λ _. found),
          λ _ none-out. alone none-out,
        ),
      )

      go : (near : p < length s.homes) (ph : Phase)
          → (place_known s r id p m.0 me role near).phase ≡ ph
          → InPhase answer (offers_at m.0.ledger p) (get_elem? s.homes p)
          (total (has_turn p) s.views) ph
          → get_or s.words p 0 ≡ PHASES * newest (offers_at m.0.ledger p) + digit ph
          → Allowed answer s p id m (Looked answer (step n p 0 0 none) m) (get_or s.words p 0)
      go near closed is k word = absurd (not_both (offers_at m.0.ledger p) live k.0)
      go near ready is k word = unready near (λ e. absurd (omega arith)) (λ had _. let past = subst (λ (x : View). (k : ℕ) (t : OfferNo) → get_elem? x.lost k ≡ some t → IsPastReady t s.words) (is_dispatcher s r id m.0 me role).1 r.lost had.0 _ had.1 in absurd (omega arith)) (inl word) (λ _. word)
      go near claimed is k word = let none : m.0.out ≡ [] → ⊥ = λ none-out. claimed_by_a_hand s r p near ((place_known s r id p m.0 me role near).held ∙ ap (held_of answer) is) (ap (λ (x : View). x.out) (is_dispatcher s r id m.0 me role).1 ∙ none-out) in
          unready near (λ e. absurd (omega arith)) (λ _ none-out. none none-out) (inr word)
          (λ none-out. absurd (none none-out))
      go near done is k word = let x = k.2.0 in (
        noting p (get_or s.words p 0) (turned_to (ended_as Collected m.0 p) (suc p)),
        takes p (Some x),
        k.2.1,
        dispatcher_ends s r id p (get_or s.words p 0) m.0 Collected done x me role near idle
            (λ e. cc) live is k.1 refl refl word (le_refl _),
        (
          (λ _. (x, (k.2.2, k.2.3), refl)),
          (λ not. absurd (not (omega arith))),
          (λ _ _. omega arith),
          (λ _. word),
          (λ not. absurd (not (omega arith))),
          λ not _. absurd
              (not (omega arith)),
        ),
      )

  pub takes_back : (n id : ℕ) (m : Seated) (p old new : ℕ) → p < n → m.0.role ≡ Dispatcher
      → m.0.turn ≡ 0 → IsOpen (offers_at m.0.ledger p)
      → old ≡ PHASES * newest (offers_at m.0.ledger p) + READY → new ≡ old + 2
      → Allows (BoardLaw answer) n id m p (λ y. either (eqb y old) new y) (TookBack (step n p old new none) m)
  takes_back n id m p old new inside role idle live is-old is-new s r wide me _ = let near : p < length s.homes = omega arith in let l : List Offer = offers_at m.0.ledger p in let k = place_known s r id p m.0 me role near in
      exchanged (get_or s.words p 0) old new (Allowed answer s p id m
      (TookBack (step n p old new none) m))
      (hit near k.phase refl k.stands (k.word_is ∙ word_open l k.phase live))
      (miss near k.phase k.stands (k.word_is ∙ word_open l k.phase live))
    where
      G : ℕ → Type 0
      G = Allowed answer s p id m (TookBack (step n p old new none) m)

      hit : (near : p < length s.homes) (ph : Phase)
          → (place_known s r id p m.0 me role near).phase ≡ ph
          → InPhase answer (offers_at m.0.ledger p) (get_elem? s.homes p)
          (total (has_turn p) s.views) ph
          → get_or s.words p 0 ≡ PHASES * newest (offers_at m.0.ledger p) + digit ph
          → get_or s.words p 0 ≡ old → G new
      hit near closed is k word at = absurd (not_both (offers_at m.0.ledger p) live k.0)
      hit near claimed is k word at = absurd (omega arith)
      hit near done is k word at = absurd (omega arith)
      hit near ready is k word at = let x = k.2.0 in (
        noting p new (turned_to (ended_as TakenBack m.0 p) (suc p)),
        takes p (Some x),
        k.2.1,
        dispatcher_ends s r id p new m.0 TakenBack ready x me role near idle (λ e. cc) live is k.1
            refl refl (omega arith) (omega arith),
        ((λ _. (x, k.2.2, refl)), λ not. absurd (not at)),
      )

      miss : (near : p < length s.homes) (ph : Phase)
          → InPhase answer (offers_at m.0.ledger p) (get_elem? s.homes p)
          (total (has_turn p) s.views) ph
          → get_or s.words p 0 ≡ PHASES * newest (offers_at m.0.ledger p) + digit ph
          → get_or s.words p 0 ≢ old → G (get_or s.words p 0)
      miss near ph k word not = (
        noting p (get_or s.words p 0) (lost_at m.0 p (old / PHASES)),
        keeps,
        tt,
        dispatcher_notes s r id p m.0 m.0.misses (offer_no p (old / PHASES) ∷ m.0.lost) m.0.next me
            role near idle (past near ph k word not),
        ((λ at. absurd (not at)), λ _. refl),
      )
        where
          past : (near : p < length s.homes) (ph : Phase)
              → InPhase answer (offers_at m.0.ledger p) (get_elem? s.homes p)
              (total (has_turn p) s.views) ph
              → get_or s.words p 0 ≡ PHASES * newest (offers_at m.0.ledger p) + digit ph → get_or s.words p 0 ≢ old
              → (k : ℕ) (x : OfferNo) → get_elem? (offer_no p (old / PHASES) ∷ m.0.lost) k ≡ some x
              → IsPastReady x (set s.words p (get_or s.words p 0))
          past near ph k word not zero x e = let long = r.wide in let same = get_or-set_same s.words p (get_or s.words p 0) 0 (omega arith) in
              subst (λ (t : OfferNo). IsPastReady t (set s.words p (get_or s.words p 0)))
              (some-injective (offer_no p (old / PHASES)) x e) (omega (arith, above ph word k))
            where
              above : (ph : Phase)
                  → get_or s.words p 0 ≡ PHASES * newest (offers_at m.0.ledger p) + digit ph
                  → InPhase answer (offers_at m.0.ledger p) (get_elem? s.homes p)
                  (total (has_turn p) s.views) ph → old < get_or s.words p 0
              above closed word k = absurd (not_both (offers_at m.0.ledger p) live k.0)
              above ready word k = absurd (not (word ∙ sym is-old))
              above claimed word k = omega arith
              above done word k = omega arith
          past near ph k word not (suc i) x e =
              lost_now s r id p (get_or s.words p 0) m.0 me role near (le_refl _) i x e

  pub numbers : (n id : ℕ) (m : Seated) (p : ℕ) → p < n → m.0.role ≡ Dispatcher → m.0.turn ≡ 0
      → IsOpen (offers_at m.0.ledger p)
      → Allows (BoardLaw answer) n id m p (λ y. y) (Numbered (step n p 0 0 none) m)
  numbers n id m p inside role idle live s r wide me _ = let near : p < length s.homes = omega arith in let l : List Offer = offers_at m.0.ledger p in let k = place_known s r id p m.0 me role near in (
    noting p (get_or s.words p 0) m.0,
    keeps,
    tt,
    dispatcher_notes s r id p m.0 m.0.misses m.0.lost m.0.next me role near idle
        (lost_now s r id p (get_or s.words p 0) m.0 me role near (le_refl _)),
    (refl, below (newest l) k.phase (k.word_is ∙ word_open l k.phase live)),
  )
    where
      below : (g : ℕ) (ph : Phase) → get_or s.words p 0 ≡ PHASES * g + digit ph → get_or s.words p 0 / PHASES ≡ g
      below g closed e = omega arith
      below g ready e = omega arith
      below g claimed e = omega arith
      below g done e = omega arith

  -- the dispatcher notes the number of the next hand
  pub names : (n id : ℕ) (m : Seated) (number : ℕ) → 0 < n → m.0.role ≡ Dispatcher → m.0.turn ≡ 0
      → Allows (BoardLaw answer) n id m 0 (λ y. either (eqb y number) number y)
      (Named (step n 0 number number none) m)
  names n id m number inside role idle s r wide me _ = let near : 0 < length s.homes = omega arith in let y : ℕ = get_or s.words 0 0 in
      let same : (b : _) → eqb y number ≡ b → either b number y ≡ y = go y number in
      let stay : either (eqb y number) number y ≡ y = same (eqb y number) refl in (
        noting 0 y (record m.0 { next = number }),
        keeps,
        tt,
        subst (λ (x : ℕ). BoardLaw answer (state (set s.words 0 x) s.homes
            (set s.views id (noting 0 y (record m.0 { next = number }))))) (sym stay)
            (dispatcher_notes s r id 0 m.0 m.0.misses m.0.lost number me role near idle
            (lost_now s r id 0 y m.0 me role near (le_refl _))),
        refl,
      )
    where
      go : (y number : ℕ) (b : _) → eqb y number ≡ b → either b number y ≡ y
      go y number true e = sym (eqb-true y number e)
      go y number false e = refl

  at_most_once : (g : ℕ) (ph : Phase) (l : List Offer) → runs_of g ph l ≤ 1
  at_most_once g ph [] = omega arith
  at_most_once g ph (x ∷ l) = go (eqb g (length l)) ph x.end (at_most_once g closed l)
    where
      go : (b : _) (ph : Phase) (e : End) → runs_of g closed l ≤ 1 → cond b (run_of ph e) (runs_of g closed l) ≤ 1
      go false ph e h = h
      go true closed Open h = omega arith
      go true ready Open h = omega arith
      go true claimed Open h = omega arith
      go true done Open h = omega arith
      go true closed Collected h = omega arith
      go true ready Collected h = omega arith
      go true claimed Collected h = omega arith
      go true done Collected h = omega arith
      go true closed TakenBack h = omega arith
      go true ready TakenBack h = omega arith
      go true claimed TakenBack h = omega arith
      go true done TakenBack h = omega arith

  pub sums : (n id : ℕ) (m : Seated) → 0 < n → m.0.role ≡ Dispatcher → m.0.turn ≡ 0
      → Allows (BoardLaw answer) n id m 0 (λ y. y) (Summed (step n 0 0 0 none) m)
  sums n id m inside role idle s r wide me _ = let near : 0 < length s.homes = omega arith in (
    noting 0 (get_or s.words 0 0) m.0,
    keeps,
    tt,
    dispatcher_notes s r id 0 m.0 m.0.misses m.0.lost m.0.next me role near idle
        (lost_now s r id 0 (get_or s.words 0 0) m.0 me role near (le_refl _)),
    (refl, λ p g h. let k = place_known s r id p m.0 me role (subst (λ (x : ℕ). p < x) (sym wide) h) in omega (arith, term_le (ran p g) s.views id m.0 me, k.run g, at_most_once g k.phase (offers_at m.0.ledger p))),
  )
