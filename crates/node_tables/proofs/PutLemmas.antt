-- A packet put behind those that stand before it.
use Rattle.std.proofs.Common.{◌≡◌, ◌≤◌, ◌+◌, ℕ, suc, Bool, true, false, not, cond, Some, None, List, [], ◌∷◌}
use Rattle.std.proofs.Common.{length, refl, ap, ◌∙◌, arith, ltb}
use Rattle.std.specs.List.{insert, position, position_or_len}
use Rattle.std.specs.Option.{unwrap_or}
use Rattle.std.proofs.Math.Numerals.{one-add}
use Rattle.rpc_base.proofs.BasicLemmas.{found-none}
use Rattle.rpc_laws.specs.declared.tables.Queued.{Queued}
use Rattle.rpc_laws.specs.Queues.{put_queued, stands_before}

module _ (q : Queued) where
  abbrev behind : Queued → Bool
  behind p = not (stands_before p.due q.due)

  put-cons : (p : Queued) (ps : List Queued) (i : ℕ) (b : Bool)
      → ((j : ℕ) → j ≡ position_or_len behind ps → put_queued q ps ≡ insert ps j q)
      → i ≡ cond (not (not b)) (1 + position_or_len behind ps) 0
      → cond b (p ∷ put_queued q ps) (q ∷ p ∷ ps) ≡ insert (p ∷ ps) i q
  put-cons p ps i false ih e = rw e refl
  put-cons p ps i true ih e =
      let k : i ≡ suc (position_or_len behind ps) = e ∙ one-add _ in
      rw k (ap (λ (zs : List Queued). p ∷ zs) (ih _ refl))

  put-at : (ps : List Queued) (i : ℕ) → i ≡ position_or_len behind ps → put_queued q ps ≡ insert ps i q
  put-at [] i e = rw e refl
  put-at (p ∷ ps) i e = put-cons p ps i (stands_before p.due q.due) (put-at ps) e

  place-is : (n m : ℕ) (b : Bool) → ltb n m ≡ b → n ≤ m → unwrap_or (cond b (Some n) None) m ≡ n
  place-is n m true e h = refl
  place-is n m false e h = let past = found-none n m false e refl in omega arith

  within : (ps : List Queued) → position_or_len behind ps ≤ length ps
  within [] = omega arith
  within (p ∷ ps) = least (stands_before p.due q.due) (within ps) where
    least : (b : Bool) → position_or_len behind ps ≤ length ps
        → cond (not (not b)) (1 + position_or_len behind ps) 0 ≤ length (p ∷ ps)
    least true h = omega arith
    least false h = omega arith

  pub put-is : (ps : List Queued) → put_queued q ps ≡ insert ps (unwrap_or (position behind ps) (length ps)) q
  put-is ps = put-at ps _ (place-is (position_or_len behind ps) (length ps) _ refl (within ps))
