-- Counted bytes, and parts of them.
use Rattle.std.proofs.Common.{◌≡◌, ℕ, ◌+◌, ◌-◌, ◌%◌, ◌<◌, ◌≤◌, length, List, ◌∷◌, map, take, drop}
use Rattle.std.proofs.Common.{suc, zero, refl, ap, ap₂, subst, arith, ◌∙◌}
use Rattle.std.specs.List.{range_with_len}
use Rattle.std.proofs.lemmas.List.FromFn.{length-map-range_with_len, take-map-range_with_len}
use Rattle.load_plan.specs.Calls.{counted_from}

-- what is left of the values over a range without the first
drop-range : (g : ℕ → ℕ) (f a n : ℕ)
    → drop f (map g (range_with_len a (f + n))) ≡ map g (range_with_len (a + f) n)
drop-range g zero a n =
    let none : 0 + n ≡ n = omega arith in
    let same : a + 0 ≡ a = omega arith in
    rw (none, same) refl
drop-range g (suc f) a n =
    let next : suc f + n ≡ suc (f + n) = omega arith in
    let more : (a + 1) + f ≡ a + suc f = omega arith in
    rw next
    (subst (λ b. drop f (map g (range_with_len (a + 1) (f + n))) ≡ map g (range_with_len b n)) more
    (drop-range g f (a + 1) n))

-- the values over a range that begins later
shift-range : (g h : ℕ → ℕ) (f : ℕ) → ((j : ℕ) → g (f + j) ≡ h j) → (a n : ℕ)
    → map g (range_with_len (f + a) n) ≡ map h (range_with_len a n)
shift-range g h f same a zero = refl
shift-range g h f same a (suc n) =
    let next : f + (a + 1) ≡ (f + a) + 1 = omega arith in
    ap₂ (λ x xs. x ∷ xs) (same a)
    (subst (λ b. map g (range_with_len b n) ≡ map h (range_with_len (a + 1) n)) next
    (shift-range g h f same (a + 1) n))

pub length-counted : (first n : ℕ) → length (counted_from first n) ≡ n
length-counted first n = length-map-range_with_len (λ j. (first + j) % 256) 0 n

-- a part of counted bytes that are as many as needed
pub part-counted : (first size : ℕ) → (total : List ℕ) → total ≡ counted_from 0 (size + 256)
    → take size (drop (first % 256) total) ≡ counted_from first size
part-counted first size total is =
    let f = first % 256 in
    let less : f < 256 = omega arith in
    let whole : size + 256 ≡ f + (size + (256 - f)) = omega (arith, less) in
    let start : 0 + f ≡ f + 0 = omega arith in
    rw (is, whole, drop-range (λ j. (0 + j) % 256) f 0 (size + (256 - f)), start)
    (take-map-range_with_len (λ j. (0 + j) % 256) (f + 0) (size + (256 - f)) size (omega arith)
    ∙ shift-range (λ j. (0 + j) % 256) (λ j. (first + j) % 256) f (λ j. omega arith) 0 size)

-- and they are there
pub within-counted : (first size : ℕ) → (total : List ℕ) → total ≡ counted_from 0 (size + 256)
    → first % 256 + size ≤ length total
within-counted first size total is =
    let long = ap length is ∙ length-map-range_with_len (λ j. (0 + j) % 256) 0 (size + 256) in
    omega (arith, long)

-- counting goes round at 256
pub round-counted : (a b n : ℕ) → counted_from (a % 256 + b % 256) n ≡ counted_from (a + b) n
round-counted a b n = map-same (λ j. (a % 256 + b % 256 + j) % 256) (λ j. (a + b + j) % 256)
    (λ j. omega arith) 0 n
  where
    map-same : (g h : ℕ → ℕ) → ((j : ℕ) → g j ≡ h j) → (s k : ℕ)
        → map g (range_with_len s k) ≡ map h (range_with_len s k)
    map-same g h same s zero = refl
    map-same g h same s (suc k) = ap₂ (λ x xs. x ∷ xs) (same s) (map-same g h same (s + 1) k)
