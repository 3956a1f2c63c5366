-- Seats that are split off and joined keep the rule.
use Rattle.std.proofs.Common.{◌≡◌, ℕ, suc, ◌+◌, ◌<◌, ◌≤◌, ◌≢◌, List, [], ◌∷◌, ◌++◌, length}
use Rattle.std.proofs.Common.{get_or, set, sym, refl, ap, ◌∙◌, subst, ⊎_elim, arith, suc-ne-zero}
use mathlib.Core.Option.{some, some-ne-none}
use lib.ListN.{get_elem?}
use Rattle.rpc_base.proofs.TotalsLemmas.{only-other}
use Rattle.atomic_table.specs.Table.{Splits, Joins}
use Rattle.atomic_table.proofs.Lists.{at_set, set_else, set_again, at_snoc}
use Rattle.shared_pool.specs.declared.view.View.{View}
use Rattle.rpc_base.specs.Totals.{total}
use Rattle.worker_board.proofs.CountsLemmas.{at_append, total-append, total-set}
use Rattle.shared_pool.specs.Counts.{is_loan, of_place, has_turn, holds, got, gave}
use Rattle.shared_pool.specs.Rule.{PoolLaw, IsCurrent, fresh}
use Rattle.shared_pool.specs.Moves.{split_off, taken_in}
use Rattle.shared_pool.proofs.FrameLemmas.{same_sums}

idle_turn : (p capacity : ℕ) → has_turn p (fresh capacity) ≡ 0
idle_turn p capacity = only-other (suc p) 0 (λ e. suc-ne-zero p (sym e))

module _ (capacity : ℕ) where
  pub splits : (id : ℕ) (v : View) → Splits (PoolLaw capacity) id v v (split_off v)
  splits id v s r me = let u : View = split_off v in
      subst (λ (vs : List View). PoolLaw capacity record { words = s.words; homes = s.homes; views = vs ++ u ∷ [] })
      (sym (set_again s.views id v me))
      record {
        wide = r.wide;
        places = λ p h. same_sums capacity p _ _ _ _ s.views (s.views ++ u ∷ []) refl refl
            (omega (arith, total-append (has_turn p) s.views (u ∷ []), idle_turn p v.capacity))
            (omega (arith, total-append (holds p) s.views (u ∷ [])))
            (λ g. omega (arith, total-append (got p g) s.views (u ∷ [])))
            (λ g. omega (arith, total-append (gave p g) s.views (u ∷ []))) (r.places p h);
        seen = λ j k x y e at. ⊎_elim (λ (t : get_elem? s.views j ≡ some x). r.seen j k x y t at)
            (λ (t : u ≡ x). absurd (some-ne-none y (sym (subst (λ (z : View). get_elem? z.notes k ≡ some y) (sym t) at))))
            (at_snoc s.views u x j e);
        loans = λ j k x l e at. ⊎_elim (λ (t : get_elem? s.views j ≡ some x). r.loans j k x l t at)
            (λ (t : u ≡ x). absurd (some-ne-none l (sym (subst (λ (z : View). get_elem? z.held k ≡ some l) (sym t) at))))
            (at_snoc s.views u x j e);
        entitled = λ j p x e on. ⊎_elim (λ (t : get_elem? s.views j ≡ some x). r.entitled j p x t on)
            (λ (t : u ≡ x). absurd (suc-ne-zero p (sym on ∙ ap (λ (z : View). z.turn) (sym t))))
            (at_snoc s.views u x j e);
      }

  pub joins : (id : ℕ) (v : View) (other : ℕ) (w : View) → w.turn ≡ 0 → w.held ≡ []
      → Joins (PoolLaw capacity) id v other w (taken_in v w) (fresh 0)
  joins id v other w calm empty s r me apart them = let d : View = taken_in v w in let u : View = fresh 0 in
      let vs : List View = set s.views id d in let there : get_elem? s.views other ≡ some w = sym (set_else s.views id other d apart) ∙ them in
      let sum : (f : View → ℕ) → total f (set vs other u) + f v + f w ≡ total f s.views + f d + f u =
      λ f. omega (arith, total-set f vs other w u them, total-set f s.views id v d me) in
      let cases : (P : View → Type 0) (j : ℕ) (x : View) → get_elem? (set vs other u) j ≡ some x
      → (u ≡ x → P x) → (d ≡ x → P x) → (get_elem? s.views j ≡ some x → P x) → P x
      = λ P j x e p q o. ⊎_elim (λ (t : (j ≡ other) × (u ≡ x)). p t.1)
      (λ (t : (j ≢ other) × (get_elem? vs j ≡ some x)). ⊎_elim
      (λ (a : (j ≡ id) × (d ≡ x)). q a.1)
      (λ (a : (j ≢ id) × (get_elem? s.views j ≡ some x)). o a.1) (at_set s.views id j d x t.1))
      (at_set vs other j u x e) in
      record {
        wide = r.wide;
        places = λ p h. same_sums capacity p _ _ _ _ s.views (set vs other u) refl refl
            (omega (arith, sum (has_turn p), idle_turn p 0, only-other (suc p) w.turn (λ e. suc-ne-zero p (sym e ∙ calm))))
            (omega (arith, sum (holds p), ap (of_place p) empty))
            (λ g. omega (arith, sum (got p g), total-append (is_loan p g) w.lent v.lent))
            (λ g. omega (arith, sum (gave p g), total-append (is_loan p g) w.back v.back)) (r.places p h);
        seen = λ j k x y e at. cases (λ z. get_elem? z.notes k ≡ some y → y.word ≤ get_or s.words y.place 0) j x e
            (λ t q. absurd (some-ne-none y (sym (subst (λ (z : View). get_elem? z.notes k ≡ some y) (sym t) q))))
            (λ t q. ⊎_elim (λ n. r.seen other n.0 w y there n.1) (λ n. r.seen id n.0 v y me n.1)
            (at_append w.notes v.notes k y (subst (λ (z : View). get_elem? z.notes k ≡ some y) (sym t) q)))
            (λ a q. r.seen j k x y a q) at;
        loans = λ j k x l e at. cases (λ z. get_elem? z.held k ≡ some l → (l.place < length s.homes) × IsCurrent s.words l) j x e
            (λ t q. absurd (some-ne-none l (sym (subst (λ (z : View). get_elem? z.held k ≡ some l) (sym t) q))))
            (λ t q. r.loans id k v l me (subst (λ (z : View). get_elem? z.held k ≡ some l) (sym t) q))
            (λ a q. r.loans j k x l a q) at;
        entitled = λ j p x e on. cases (λ z. z.turn ≡ suc p → 0 < holds p z) j x e
            (λ t q. absurd (suc-ne-zero p (sym (subst (λ (z : View). z.turn ≡ suc p) (sym t) q))))
            (λ t q. subst (λ (z : View). 0 < holds p z) t (r.entitled id p v me (subst (λ (z : View). z.turn ≡ suc p) (sym t) q)))
            (λ a q. r.entitled j p x a q) on;
      }
