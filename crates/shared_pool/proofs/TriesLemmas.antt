-- Tries at one place after another.
use Rattle.std.proofs.Common.{◌≡◌, ℕ, zero, suc, ◌+◌, ◌-◌, ◌%◌, ◌<◌, List, [], ◌++◌}
use Rattle.std.proofs.Common.{sym, refl, ap, ◌∙◌, subst, arith}
use Rattle.std.proofs.Math.Nat.{mod-eq_of_lt, add-mod_right}
use Rattle.std.proofs.lemmas.List.{append_assoc}
use mathlib.Core.Logic.{dite}
use native.Mathlib.Decide.{ℕ_discrete, dec_le}
use Rattle.shared_pool.specs.Loans.{LoanNo}
use Rattle.shared_pool.specs.declared.view.Note.{Note}
use Rattle.shared_pool.specs.declared.view.View.{View}
use Rattle.shared_pool.specs.Moves.{noted}
use Rattle.shared_pool.specs.Seats.{IsMiss, Missed, Misses, MissedFrom, LentFrom, AllTried, lent_at}

-- one more try that gave nothing
pub missed_more : (places start k p n : ℕ) (v u w : View) → p ≡ (start + k) % places → n ≡ suc k
    → MissedFrom places start k v u → Missed p u w → MissedFrom places start n v w
missed_more places start k p n v u w here is b m = let last : List Note = m.0 in let before : List Note = b.0 in
    subst (λ (x : ℕ). MissedFrom places start x v w) (sym is) (
      last ++ before,
      (last, before, refl, subst (λ (x : ℕ). IsMiss x last) here m.1, b.1),
      m.2 ∙ ap (noted last) b.2
          ∙ ap (λ (ns : List Note). record v { notes = ns }) (sym (append_assoc last before v.notes)),
    )

-- a try that gave the loan
pub lent_now : (places start k p : ℕ) (l : LoanNo) (v u w : View) → k < places → p ≡ (start + k) % places → l.place ≡ p
    → MissedFrom places start k v u → w ≡ lent_at l u → LentFrom places start l v w
lent_now places start k p l v u w below here is b e = (k, u, below, is ∙ here, b, e)

-- one of the tries
miss_at : (places start n k : ℕ) (more : List Note) → k < n → Misses places start n more
    → (front : List Note) × (miss : List Note) × (behind : List Note) × (more ≡ front ++ miss ++ behind)
    × IsMiss ((start + k) % places) miss
miss_at places start zero k more below m = absurd (omega arith)
miss_at places start (suc n) k more below m = dite (ℕ_discrete k n)
    (λ is. ([], m.0, m.1, m.2, subst (λ (x : ℕ). IsMiss ((start + x) % places) m.0) (sym is) m.3))
    (λ ne. let t = miss_at places start n k m.1 (omega arith) m.4 in (
      m.0 ++ t.0,
      t.1,
      t.2,
      m.2 ∙ ap (λ (ns : List Note). m.0 ++ ns) t.3 ∙ sym (append_assoc m.0 (t.0 ++ t.1) t.2)
          ∙ ap (λ (ns : List Note). ns ++ t.2) (sym (append_assoc m.0 t.0 t.1)),
      t.4,
    ))

-- each place is the one of some try
pub all_tried : (places start : ℕ) (more : List Note) → start < places → Misses places start places more → AllTried places more
all_tried places start more below m p near = dite (dec_le start p)
    (λ le. let t = miss_at places start places (p - start) more (omega arith) m in (
      t.0,
      t.1,
      t.2,
      t.3,
      subst (λ (x : ℕ). IsMiss x t.1)
          (ap (λ (x : ℕ). x % places) (let e : start + (p - start) ≡ p = omega arith in e) ∙ mod-eq_of_lt near) t.4,
    ))
    (λ gt. let t = miss_at places start places (p + places - start) more (omega arith) m in (
      t.0,
      t.1,
      t.2,
      t.3,
      subst (λ (x : ℕ). IsMiss x t.1)
          (ap (λ (x : ℕ). x % places) (let e : start + (p + places - start) ≡ p + places = omega arith in e) ∙ add-mod_right p places ∙ mod-eq_of_lt near) t.4,
    ))
