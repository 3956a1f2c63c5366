-- The steps of a seat keep the rule.
use Rattle.std.proofs.Common.{◌≡◌, ℕ, zero, suc, ◌+◌, ◌*◌, ◌/◌, ◌%◌, ◌<◌, ◌≤◌, ◌≢◌, List, [], ◌∷◌}
use Rattle.std.proofs.Common.{length, get_or, set, sym, refl, ap, ◌∙◌, subst}
use Rattle.std.proofs.Common.{arith, eqb, length-set, suc-ne-zero, le_refl}
use mathlib.Core.Logic.{dite}
use mathlib.Core.Option.{none, some, some-injective, some-ne-none}
use mathlib.Core.Option as maybe
use native.Mathlib.Decide.{ℕ_discrete}
use lib.ListN.{get_elem?}
use prog.Atomic.{either}
use Rattle.std.specs.Prelude.{Some, None}
use Rattle.rpc_base.proofs.TotalsLemmas.{only-same, only-other, only-is}
use Rattle.atomic_table.specs.Table.{step, keeps, takes, gives, Act, Valid, Allows, stepped, carried_after}
use Rattle.atomic_table.proofs.Lists.{set_here, set_else, exchanged}
use Rattle.message_buffer.specs.Buffer.{Buffer, capacity_of}
use Rattle.shared_pool.specs.Loans.{LoanNo, loan_no}
use Rattle.shared_pool.specs.declared.word.TheConstants.{MOST_LOANS}
use Rattle.shared_pool.specs.declared.view.Note.{Note}
use Rattle.shared_pool.specs.declared.view.View.{View}
use Rattle.rpc_base.specs.Totals.{only, total}
use Rattle.worker_board.proofs.CountsLemmas.{suc_inj, total-set, term_le, terms_le}
use Rattle.worker_board.proofs.FrameLemmas.{state}
use Rattle.worker_board.proofs.WordLemmas.{some_term}
use Rattle.shared_pool.specs.Counts.{has_turn, holds, got, gave}
use Rattle.shared_pool.specs.Rule.{Slot, Stands, IsEmptyOrOut, PlaceLaw, PoolLaw, word_of}
use Rattle.shared_pool.specs.Rule.{Whereabouts, home, out, loans_in}
use Rattle.shared_pool.specs.Moves.{Seated, note, noted, turned_to, lent_to, returned, Looked, Tried}
use Rattle.shared_pool.specs.Moves.{Released, Reopened, Returned}
use Rattle.shared_pool.proofs.CountsLemmas.{is_loan-here, is_loan-else}
use Rattle.shared_pool.proofs.CountsLemmas.{once_more, once_same, at_without, total-without, none-without}
use Rattle.shared_pool.proofs.FrameLemmas.{Table, Alike, notes_grow, alike_place, moved}

-- a held loan counts at its place
pub held_counts : (p : ℕ) (v : View) (k : ℕ) (l : LoanNo) → get_elem? v.held k ≡ some l → l.place ≡ p
    → 0 < holds p v
held_counts p v k l at is = omega (arith, term_le (λ (x : LoanNo). only p x.place) v.held k l at, only-same p l.place is)

module _ (capacity : ℕ) where
  -- a step to the word k can be taken, keeps the rule and tells what it should
  abbrev pub Allowed : Table → ℕ → ℕ → Seated → (ℕ → Seated → Type 0) → ℕ → Type 0
  Allowed s i id m then k = (w : View) × (a : Act Slot) × Valid s.homes m.1 a
      × PoolLaw capacity (stepped s i k id m.1 w a)
      × then (get_or s.words i 0) (w, carried_after m.1 a)

  -- a step that changes the notes alone
  notes_step : (s : Table) (r : PoolLaw capacity s) (id p : ℕ) (v : View) (ns : List Note)
      → get_elem? s.views id ≡ some v → p < length s.homes
      → ns ≡ note p (get_or s.words p 0) ∷ v.notes → v.turn ≡ 0
      → PoolLaw capacity (state (set s.words p (get_or s.words p 0)) s.homes (set s.views id record v { notes = ns }))
  notes_step s r id p v ns me near is idle =
      let w : View = record v { notes = ns } in let wide = r.wide in
      let same : (q : ℕ) → Alike q v w = λ q. record { turns = refl; loans = refl; lent = λ g. refl; back = λ g. refl } in
      moved capacity s r id p (get_or s.words p 0) v w s.homes me near refl (λ q ne. refl) (λ q ne. same q)
      (alike_place capacity p _ _ _ _ s.views id v w me (same p) refl refl (r.places p near))
      (le_refl _)
      (λ old k x at. notes_grow s.words p (get_or s.words p 0) v.notes (omega arith) old k x
      (subst (λ (xs : List Note). get_elem? xs k ≡ some x) is at))
      (λ k l at. let was = r.loans id k v l me at in (was.0, (λ e. subst (λ (i : ℕ). get_or s.words i 0 ≡ word_of l.generation out) e was.1), λ _. was.1))
      (λ i k u l ne e at is'. subst (λ (x : ℕ). get_or s.words x 0 ≡ word_of l.generation out) is' (r.loans i k u l e at).1)
      (λ q on. absurd (suc-ne-zero q (sym on ∙ idle)))

  pub looks : (n id : ℕ) (m : Seated) (p : ℕ) → p < n → m.0.turn ≡ 0
      → Allows (PoolLaw capacity) n id m p (λ y. y) (Looked (step n p 0 0 none) m)
  looks n id m p inside idle s r wide me _ = let near : p < length s.homes = omega arith in (
    noted (note p (get_or s.words p 0) ∷ []) m.0,
    keeps,
    tt,
    notes_step s r id p m.0 _ me near refl idle,
    (refl, (r.places p near).most),
  )

  -- an even word is that of a buffer at home
  is_home : (w g : ℕ) (x : Whereabouts) → w ≡ word_of g x → w % 2 ≡ 0 → (x ≡ home) × (g ≡ w / 2)
  is_home w g home e even = (refl, omega arith)
  is_home w g out e even = absurd (omega arith)

  -- whose place is held is out
  is_out : (n : ℕ) (x : Whereabouts) → n ≡ loans_in x → 0 < n → x ≡ out
  is_out n home e some-held = absurd (omega arith)
  is_out n out e some-held = refl

  pub tries : (n id : ℕ) (m : Seated) (p old new : ℕ) → p < n → m.0.turn ≡ 0 → m.0.capacity ≡ capacity
      → old % 2 ≡ 0 → old < 2 * MOST_LOANS → new ≡ old + 1
      → Allows (PoolLaw capacity) n id m p (λ y. either (eqb y old) new y) (Tried (step n p old new none) m)
  tries n id m p old new inside idle sized even below is-new s r wide me _ =
      let near : p < length s.homes = omega arith in
      exchanged (get_or s.words p 0) old new G (hit near) (miss near)
    where
      v : View
      v = m.0

      G : ℕ → Type 0
      G = Allowed s p id m (Tried (step n p old new none) m)

      miss : p < length s.homes → get_or s.words p 0 ≢ old → G (get_or s.words p 0)
      miss near not = (
        noted (note p (get_or s.words p 0) ∷ []) v,
        keeps,
        tt,
        notes_step s r id p v _ me near refl idle,
        ((λ at. absurd (not at)), λ _. refl),
      )

      hit : p < length s.homes → get_or s.words p 0 ≡ old → G new
      hit near at = let k = r.places p near in let c = is_home old k.generation k.where_is (sym at ∙ k.word_is) even in
          let l : LoanNo = loan_no p (old / 2) in let w : View = turned_to (suc p) (lent_to l v) in
          let st = subst (Stands capacity (get_elem? s.homes p) (total (has_turn p) s.views)) c.0 k.stands in
          let b = st.0.0 in
          let none-held : total (holds p) s.views ≡ 0 = k.held ∙ ap loans_in c.0 in
          let begun : k.generation + loans_in k.where_is ≡ old / 2 = omega (arith, c.1, ap loans_in c.0) in
          let turns : total (has_turn p) (set s.views id w) ≡ 1 =
          omega (
            arith,
            st.1,
            total-set (has_turn p) s.views id v w me,
            only-same (suc p) (suc p) refl,
            only-other (suc p) v.turn (λ e. suc-ne-zero p (sym e ∙ idle)),
          ) in (
            w,
            takes p (Some b),
            st.0.1,
            moved capacity s r id p new v w (set s.homes p none) me near (length-set s.homes p none)
                (λ q ne. set_else s.homes p q none ne)
                (λ q ne. record {
                  turns = only-other (suc q) (suc p) (λ e. ne (sym (suc_inj e)))
                      ∙ sym (only-other (suc q) v.turn (λ e. suc-ne-zero q (sym e ∙ idle)));
                  loans = omega (arith, only-other q p (λ e. ne (sym e)));
                  lent = λ g. omega (arith, is_loan-else q g l (λ e. ne (sym e)));
                  back = λ g. refl;
                })
                record {
                  generation = old / 2;
                  where_is = out;
                  word_is = omega arith;
                  most = omega arith;
                  stands = ((λ z. absurd (omega arith)), (λ _. set_here s.homes p none near), omega arith);
                  held = omega (arith, total-set (holds p) s.views id v w me, only-same p p refl);
                  lent = once_more (k.generation + loans_in k.where_is) (old / 2 + 1) (λ g. total (got p g) s.views)
                      (λ g. total (got p g) (set s.views id w)) (omega arith) k.lent
                      (λ g. omega (arith, total-set (got p g) s.views id v w me, is_loan-here p g l refl, ap (only g) begun));
                  back = once_same k.generation (old / 2) (λ g. total (gave p g) s.views)
                      (λ g. total (gave p g) (set s.views id w)) (sym c.1) k.back
                      (λ g. omega (arith, total-set (gave p g) s.views id v w me));
                }
                (omega arith)
                (λ old-notes. old-notes)
                (mine near l refl (omega arith) none-held)
                (λ i j u x ne e held is. absurd (omega (arith, term_le (holds p) s.views i u e, held_counts p u j x held is)))
                (λ q on. let same : p ≡ q = suc_inj on in subst (λ (y : ℕ). 0 < holds y w) same (omega (arith, only-same p p refl))),
            ((λ _. (b, st.0.2 ∙ sym sized, refl, omega (arith, none-held, term_le (holds p) s.views id v me))), λ not. absurd (not at)),
          )
        where
          mine : p < length s.homes → (l : LoanNo) → l.place ≡ p → new ≡ word_of l.generation out → total (holds p) s.views ≡ 0
              → (i : ℕ) (x : LoanNo) → get_elem? (l ∷ v.held) i ≡ some x
              → (x.place < length s.homes) × (x.place ≡ p → new ≡ word_of x.generation out) × (x.place ≢ p → get_or s.words x.place 0 ≡ word_of x.generation out)
          mine near l here word none-held zero x e = subst (λ (y : LoanNo). (y.place < length s.homes) × (y.place ≡ p → new ≡ word_of y.generation out) × (y.place ≢ p → get_or s.words y.place 0 ≡ word_of y.generation out))
              (some-injective l x e) (subst (λ (y : ℕ). y < length s.homes) (sym here) near, (λ _. word), λ ne. absurd (ne here))
          mine near l here word none-held (suc i) x e = let was = r.loans id i v x me e in (
            was.0,
            (λ is. absurd (omega (arith, term_le (holds p) s.views id v me, held_counts p v i x e is))),
            λ _. was.1,
          )

  -- a step of who holds a place that moves its slot alone
  slot_step : (s : Table) (r : PoolLaw capacity s) (id p t : ℕ) (v : View) (hs : List (maybe.Option Slot))
      → get_elem? s.views id ≡ some v → p < length s.homes → 0 < holds p v
      → length hs ≡ length s.homes → ((q : ℕ) → q ≢ p → get_elem? hs q ≡ get_elem? s.homes q)
      → ((q : ℕ) → q ≢ p → only (suc q) t ≡ only (suc q) v.turn)
      → ((q : ℕ) → t ≡ suc q → q ≡ p)
      → (total (has_turn p) (set s.views id (turned_to t v)) ≤ 1)
      → (total (has_turn p) (set s.views id (turned_to t v)) ≡ 0 → get_elem? hs p ≡ some (some None))
      → (total (has_turn p) (set s.views id (turned_to t v)) ≡ 1 → get_elem? hs p ≡ some none)
      → PoolLaw capacity (state (set s.words p (get_or s.words p 0)) hs (set s.views id (turned_to t v)))
  slot_step s r id p t v hs me near mine long-hs homes turns here few empty away =
      let w : View = turned_to t v in let k = r.places p near in
      let is : k.where_is ≡ out = is_out (total (holds p) s.views) k.where_is k.held (omega (arith, term_le (holds p) s.views id v me)) in
      moved capacity s r id p (get_or s.words p 0) v w hs me near long-hs homes
      (λ q ne. record { turns = turns q ne; loans = refl; lent = λ g. refl; back = λ g. refl })
      record {
        generation = k.generation;
        where_is = out;
        word_is = k.word_is ∙ ap (word_of k.generation) is;
        most = k.most;
        stands = (empty, away, few);
        held = omega (arith, total-set (holds p) s.views id v w me, k.held, ap loans_in is);
        lent = once_same (k.generation + loans_in k.where_is) (k.generation + 1) (λ g. total (got p g) s.views) (λ g. total (got p g) (set s.views id w))
            (omega (arith, ap loans_in is)) k.lent (λ g. omega (arith, total-set (got p g) s.views id v w me));
        back = once_same k.generation k.generation (λ g. total (gave p g) s.views) (λ g. total (gave p g) (set s.views id w))
            refl k.back (λ g. omega (arith, total-set (gave p g) s.views id v w me));
      }
      (le_refl _) (λ old. old)
      (λ i l at. let was = r.loans id i v l me at in (was.0, (λ e. subst (λ (x : ℕ). get_or s.words x 0 ≡ word_of l.generation out) e was.1), λ _. was.1))
      (λ i j u l ne e at is'. subst (λ (x : ℕ). get_or s.words x 0 ≡ word_of l.generation out) is' (r.loans i j u l e at).1)
      (λ q on. subst (λ (x : ℕ). 0 < holds x v) (sym (here q on)) mine)

  -- the slot of a place that a seat holds is with it alone, or with nobody
  slot_of : (s : Table) (r : PoolLaw capacity s) (id p : ℕ) (v : View) → get_elem? s.views id ≡ some v
      → p < length s.homes → 0 < holds p v → (k : PlaceLaw capacity p (get_or s.words p 0) (get_elem? s.homes p) s.views)
      → IsEmptyOrOut (get_elem? s.homes p) (total (has_turn p) s.views)
  slot_of s r id p v me near mine k =
      subst (Stands capacity (get_elem? s.homes p) (total (has_turn p) s.views))
      (is_out (total (holds p) s.views) k.where_is k.held (omega (arith, term_le (holds p) s.views id v me))) k.stands

  releases_from : (n id : ℕ) (v : View) (p : ℕ) (more : List (ℕ × Slot)) → p < n → v.turn ≡ suc p → 0 < holds p v
      → Allows (PoolLaw capacity) n id (v, (p, None) ∷ more) p (λ y. y) (Released (step n p 0 0 none) (v, (p, None) ∷ more))
  releases_from n id v p more inside on mine s r wide me _ =
      let near : p < length s.homes = omega arith in let w : View = turned_to 0 v in
      let st = slot_of s r id p v me near mine (r.places p near) in
      let turns : total (has_turn p) (set s.views id w) ≡ 0 =
      omega (arith, st.2, total-set (has_turn p) s.views id v w me, only-same (suc p) v.turn on, only-other (suc p) 0 (λ e. suc-ne-zero p (sym e))) in (
        w,
        gives,
        tt,
        slot_step s r id p 0 v (set s.homes p (some None)) me near mine (length-set s.homes p (some None))
            (λ q ne. set_else s.homes p q (some None) ne)
            (λ q ne. only-other (suc q) 0 (λ e. suc-ne-zero q (sym e)) ∙ sym (only-other (suc q) v.turn (λ e. ne (suc_inj (sym e ∙ on)))))
            (λ q e. absurd (suc-ne-zero q (sym e))) (omega arith)
            (λ _. set_here s.homes p (some None) near) (λ z. absurd (omega arith)),
        refl,
      )

  pub releases : (n id : ℕ) (m : Seated) (p : ℕ) (more : List (ℕ × Slot)) → m.1 ≡ (p, None) ∷ more → p < n
      → m.0.turn ≡ suc p → 0 < holds p m.0
      → Allows (PoolLaw capacity) n id m p (λ y. y) (Released (step n p 0 0 none) m)
  releases n id m p more has inside on mine =
      subst (λ (c : List (ℕ × Slot)). Allows (PoolLaw capacity) n id (m.0, c) p (λ y. y) (Released (step n p 0 0 none) (m.0, c)))
      (sym has) (releases_from n id m.0 p more inside on mine)

  -- nobody has the slot of a place whose holder has none
  slot_with_nobody : (s : Table) (r : PoolLaw capacity s) (id p : ℕ) (v : View) → get_elem? s.views id ≡ some v
      → p < length s.homes → 0 < holds p v → v.turn ≡ 0 → total (has_turn p) s.views ≡ 0
  slot_with_nobody s r id p v me near mine idle = let k = r.places p near in let is = is_out (total (holds p) s.views) k.where_is k.held (omega (arith, term_le (holds p) s.views id v me)) in
      dite (ℕ_discrete (total (has_turn p) s.views) 0) (λ z. z) (λ nz.
      let t = some_term (has_turn p) s.views (omega arith) in let u = t.1.0 in let on : u.turn ≡ suc p = only-is (suc p) u.turn t.1.2 in
      let theirs = r.entitled t.0 p u t.1.1 on in
      dite (ℕ_discrete t.0 id)
      (λ same. let one : u ≡ v = some-injective u v (sym t.1.1 ∙ subst (λ (x : ℕ). get_elem? s.views x ≡ some v) (sym same) me) in absurd (suc-ne-zero p (sym on ∙ ap (λ (x : View). x.turn) one ∙ idle)))
      (λ apart. absurd (omega (arith, terms_le (holds p) s.views id t.0 v u apart me t.1.1, k.held, ap loans_in is))))

  pub reopens : (n id : ℕ) (m : Seated) (p : ℕ) → p < n → m.0.turn ≡ 0 → 0 < holds p m.0
      → Allows (PoolLaw capacity) n id m p (λ y. y) (Reopened (step n p 0 0 none) m)
  reopens n id m p inside idle mine s r wide me _ =
      let near : p < length s.homes = omega arith in let v : View = m.0 in let w : View = turned_to (suc p) v in
      let st = slot_of s r id p v me near mine (r.places p near) in
      let nobody = slot_with_nobody s r id p v me near mine idle in
      let turns : total (has_turn p) (set s.views id w) ≡ 1 =
      omega (arith, nobody, total-set (has_turn p) s.views id v w me, only-same (suc p) (suc p) refl, only-other (suc p) v.turn (λ e. suc-ne-zero p (sym e ∙ idle))) in (
        w,
        takes p None,
        st.0 nobody,
        slot_step s r id p (suc p) v (set s.homes p none) me near mine (length-set s.homes p none)
            (λ q ne. set_else s.homes p q none ne)
            (λ q ne. only-other (suc q) (suc p) (λ e. ne (sym (suc_inj e))) ∙ sym (only-other (suc q) v.turn (λ e. suc-ne-zero q (sym e ∙ idle))))
            (λ q e. sym (suc_inj e)) (omega arith) (λ z. absurd (omega arith)) (λ _. set_here s.homes p none near),
        refl,
      )

  returns_from : (n id : ℕ) (v : View) (p g i new : ℕ) (b : Buffer) (more : List (ℕ × Slot)) → p < n → v.turn ≡ suc p
      → get_elem? v.held i ≡ some (loan_no p g) → capacity_of b ≡ capacity → new ≡ 2 * g + 2
      → Allows (PoolLaw capacity) n id (v, (p, Some b) ∷ more) p (λ _. new) (λ _. Returned (step n p new 0 none) (v, (p, Some b) ∷ more) new)
  returns_from n id v p g i new b more inside on at sized is-new s r wide me _ =
      let near : p < length s.homes = omega arith in let l : LoanNo = loan_no p g in let w : View = turned_to 0 (returned l v) in
      let k = r.places p near in let mine : 0 < holds p v = held_counts p v i l at refl in
      let is : k.where_is ≡ out = is_out (total (holds p) s.views) k.where_is k.held (omega (arith, term_le (holds p) s.views id v me)) in
      let st = slot_of s r id p v me near mine k in
      let word : get_or s.words p 0 ≡ 2 * g + 1 = (r.loans id i v l me at).1 in
      let gen : k.generation ≡ g = omega (arith, k.word_is, ap loans_in is) in
      let one : total (holds p) s.views ≡ 1 = k.held ∙ ap loans_in is in
      let turns : total (has_turn p) (set s.views id w) ≡ 0 =
      omega (arith, st.2, total-set (has_turn p) s.views id v w me, only-same (suc p) v.turn on, only-other (suc p) 0 (λ e. suc-ne-zero p (sym e))) in (
        w,
        gives,
        tt,
        moved capacity s r id p new v w (set s.homes p (some (Some b))) me near (length-set s.homes p (some (Some b)))
            (λ q ne. set_else s.homes p q (some (Some b)) ne)
            (λ q ne. record {
              turns = only-other (suc q) 0 (λ e. suc-ne-zero q (sym e)) ∙ sym (only-other (suc q) v.turn (λ e. ne (suc_inj (sym e ∙ on))));
              loans = total-without p q v.held ne;
              lent = λ x. refl;
              back = λ x. omega (arith, is_loan-else q x l (λ e. ne (sym e)));
            })
            record {
              generation = suc g;
              where_is = home;
              word_is = omega arith;
              most = omega (arith, k.most);
              stands = ((b, set_here s.homes p (some (Some b)) near, sized), turns);
              held = omega (arith, one, mine, total-set (holds p) s.views id v w me, none-without p v.held, term_le (holds p) s.views id v me);
              lent = once_same (k.generation + loans_in k.where_is) (suc g + 0) (λ x. total (got p x) s.views) (λ x. total (got p x) (set s.views id w))
                  (omega (arith, gen, ap loans_in is)) k.lent (λ x. omega (arith, total-set (got p x) s.views id v w me));
              back = once_more k.generation (suc g) (λ x. total (gave p x) s.views) (λ x. total (gave p x) (set s.views id w))
                  (omega (arith, gen)) k.back
                  (λ x. omega (arith, total-set (gave p x) s.views id v w me, is_loan-here p x l refl, ap (only x) gen));
            }
            (omega (arith, word))
            (λ old-notes. old-notes)
            (λ j x e. let a = at_without p v.held j x e in let was = r.loans id a.1.0 v x me a.1.1 in (was.0, (λ same. absurd (a.0 same)), λ _. was.1))
            (λ j q u x ne e held same. absurd (omega (arith, one, mine, terms_le (holds p) s.views id j v u ne me e, held_counts p u q x held same)))
            (λ q e. absurd (suc-ne-zero q (sym e))),
        (λ g' e. let eq : g ≡ g' = omega arith in ap (λ (x : ℕ). (turned_to 0 (returned (loan_no p x) v), more)) eq),
      )

  pub returns : (n id : ℕ) (m : Seated) (p g i new : ℕ) (b : Buffer) (more : List (ℕ × Slot)) → m.1 ≡ (p, Some b) ∷ more → p < n
      → m.0.turn ≡ suc p → get_elem? m.0.held i ≡ some (loan_no p g) → capacity_of b ≡ capacity → new ≡ 2 * g + 2
      → Allows (PoolLaw capacity) n id m p (λ _. new) (λ _. Returned (step n p new 0 none) m new)
  returns n id m p g i new b more has inside on at sized is-new =
      subst (λ (c : List (ℕ × Slot)). Allows (PoolLaw capacity) n id (m.0, c) p (λ _. new) (λ _. Returned (step n p new 0 none) (m.0, c) new))
      (sym has) (returns_from n id m.0 p g i new b more inside on at sized is-new)
