-- What is left where all that pass are taken out, one by one.
use Rattle.std.proofs.Common.{◌≡◌, Bool, true, false, not, cond, List, [], ◌∷◌, refl, ap}
use Rattle.std.specs.List.{filter}
use Rattle.rpc_base.specs.Tables.{without_first}

left-by : {A : Type 0} (q : A → Bool) (y : A) (ys zs : List A) (b : Bool) → q y ≡ b
    → filter (λ x. not (q x)) zs ≡ filter (λ x. not (q x)) ys
    → filter (λ x. not (q x)) (cond b ys (y ∷ zs))
    ≡ cond (not b) (y ∷ filter (λ x. not (q x)) ys) (filter (λ x. not (q x)) ys)
left-by q y ys zs true t e = refl
left-by q y ys zs false t e = rw t (ap (λ xs. y ∷ xs) e)

-- one that passes makes no difference to those that don't
pub left-one : {A : Type 0} (q : A → Bool) (xs : List A)
    → filter (λ x. not (q x)) (without_first q xs) ≡ filter (λ x. not (q x)) xs
left-one q [] = refl
left-one q (y ∷ ys) = left-by q y ys (without_first q ys) (q y) refl (left-one q ys)
