-- Where buckets begin, and which one is a time's.
use Rattle.std.proofs.Common.{◌≡◌, ℕ, zero, suc, ◌+◌, ◌-◌, ◌*◌, ◌/◌, ◌%◌, ◌^◌, ◌<◌, ◌≤◌}
use Rattle.std.proofs.Common.{refl, sym, ◌∙◌, ap, subst, arith, inl, inr}
use Rattle.std.proofs.Math.Nat.{suc-mul, pow-suc, eq-or-lt_of_le, add-suc, add-zero, add-mul}
use Rattle.std.proofs.Math.Pow.{pow_mono}
use Rattle.std.proofs.lemmas.Bool.{cases_lt}
use Rattle.std.proofs.lemmas.Nat.{pow_pos, pow-add, shr_split, le-div, div_below, mod_below}
use Rattle.std.proofs.lemmas.Nat.{shl_whole, one_shl, mul-le, row_fits}
use Rattle.time_histogram.specs.Buckets.{IsBucketOf, least_of, width_of}

-- buckets of one width, one behind another
climb : (k w d : ℕ) → ((j : ℕ) → j < d → width_of (k + j) ≡ w)
    → least_of (k + d) ≡ least_of k + d * w
unfolding least_of
climb k w zero h = ap least_of (add-zero k) ∙ omega arith
climb k w (suc d) h =
    let before : least_of (k + d) ≡ least_of k + d * w =
    climb k w d (λ j less. h j (omega arith)) in
    let width : width_of (k + d) ≡ w = h d (omega arith) in
    let product : suc d * w ≡ d * w + w = suc-mul d w in
    ap least_of (add-suc k d) ∙ omega (arith, before, width, product)

-- the first 256 buckets have one time each, and the later ones a power of two
pub width_low : (j : ℕ) → j < 256 → width_of j ≡ 1
width_low j h = let none : j / 128 - 1 ≡ 0 = omega arith in ap (λ (e : ℕ). 2 ^ e) none

pub width_at : (e j : ℕ) → j < 128 → width_of (128 * e + 128 + j) ≡ 2 ^ e
width_at e j h =
    let row : (128 * e + 128 + j) / 128 - 1 ≡ e = omega arith in ap (λ (i : ℕ). 2 ^ i) row

pub least_low : (k : ℕ) → k < 257 → least_of k ≡ k
unfolding least_of
least_low zero h = refl
least_low (suc k) h =
    let before : least_of k ≡ k = least_low k (omega arith) in
    let width : width_of k ≡ 1 = width_low k (omega arith) in
    omega (arith, before, width)

row : (e : ℕ) → least_of (128 * e + 128) ≡ 128 * 2 ^ e
row zero = least_low 128 (omega arith)
row (suc e) =
    let before : least_of (128 * e + 128) ≡ 128 * 2 ^ e = row e in
    let climbed : least_of (128 * e + 128 + 128) ≡ least_of (128 * e + 128) + 128 * 2 ^ e =
    climb (128 * e + 128) (2 ^ e) 128 (width_at e) in
    let double : 2 ^ suc e ≡ 2 ^ e * 2 = pow-suc 2 e in
    let here : 128 * suc e + 128 ≡ 128 * e + 128 + 128 = omega arith in
    ap least_of here ∙ omega (arith, before, climbed, double)

pub least_at : (e d : ℕ) → d < 128 → least_of (128 * e + 128 + d) ≡ (128 + d) * 2 ^ e
least_at e d h =
    let climbed : least_of (128 * e + 128 + d) ≡ least_of (128 * e + 128) + d * 2 ^ e =
    climb (128 * e + 128) (2 ^ e) d (λ j less. width_at e j (omega arith)) in
    let begun : least_of (128 * e + 128) ≡ 128 * 2 ^ e = row e in
    let product : (128 + d) * 2 ^ e ≡ 128 * 2 ^ e + d * 2 ^ e = add-mul 128 d (2 ^ e) in
    omega (arith, climbed, begun, product)

-- a bucket ends where a later one begins, or before
pub ends_before : (a b : ℕ) → a < b → least_of a + width_of a ≤ least_of b
unfolding least_of
ends_before a zero h = absurd (omega arith)
ends_before a (suc b) h =
    elim (eq-or-lt_of_le {n = a} {m = b} (omega arith)) [
      | inl e ↦ subst (λ (k : ℕ). least_of a + width_of a ≤ least_of k + width_of k) e (omega arith)
      | inr less ↦ let before : least_of a + width_of a ≤ least_of b = ends_before a b less in
          omega (arith, before)
    ]

-- the bucket of a small time
pub bucket_low : (t : ℕ) → t < 128 → IsBucketOf t t
bucket_low t h =
    let least : least_of t ≡ t = least_low t (omega arith) in
    let width : width_of t ≡ 1 = width_low t (omega arith) in
    record { from = omega (arith, least); below = omega (arith, least, width) }

-- a time of 128 and more has a logarithm of 7 and more
pub log_least : (t l : ℕ) → 128 ≤ t → t < 2 * 2 ^ l → 7 ≤ l
log_least t l h k =
    elim (cases_lt l 7) [
      | inl less ↦ let low : 2 ^ l ≤ 2 ^ 6 = pow_mono {i = l} {j = 6} (omega arith) in
          absurd (omega (arith, low))
      | inr is ↦ is
    ]

-- the power of two of a logarithm, and what a time is above it
pub record IsScaled (t e : ℕ) : Type 0 where
  pub least : 128 ≤ t / 2 ^ e
  pub below : t / 2 ^ e < 256
  pub from : t / 2 ^ e * 2 ^ e ≤ t
  pub within : t < t / 2 ^ e * 2 ^ e + 2 ^ e

pub scaled : (t l : ℕ) → 128 ≤ t → 2 ^ l ≤ t → t < 2 * 2 ^ l → IsScaled t (l - 7)
scaled t l h from below =
    let long : 7 ≤ l = log_least t l h below in
    let is : l ≡ 7 + (l - 7) = omega arith in
    let whole : 2 ^ l ≡ 128 * 2 ^ (l - 7) = ap (λ i. 2 ^ i) is ∙ pow-add 2 7 (l - 7) in
    let some : 0 < 2 ^ (l - 7) = pow_pos (l - 7) in
    let split : t / 2 ^ (l - 7) * 2 ^ (l - 7) + t % 2 ^ (l - 7) ≡ t = shr_split t (l - 7) in
    let rest : t % 2 ^ (l - 7) < 2 ^ (l - 7) = mod_below t (2 ^ (l - 7)) some in
    record {
      least = le-div 128 t (2 ^ (l - 7)) some (omega (arith, whole));
      below = div_below t (2 ^ (l - 7)) 256 some (omega (arith, whole));
      from = omega (arith, split);
      within = omega (arith, split, rest);
    }

-- the bucket of a larger time
pub bucket_high : (t e : ℕ) → IsScaled t e → IsBucketOf t (e * 128 + t / 2 ^ e)
bucket_high t e s =
    let d : ℕ = t / 2 ^ e - 128 in
    let short : d < 128 = omega (arith, s.least, s.below) in
    let is : 128 + d ≡ t / 2 ^ e = omega (arith, s.least) in
    let place : 128 * e + 128 + d ≡ e * 128 + t / 2 ^ e = omega (arith, s.least) in
    let least : least_of (e * 128 + t / 2 ^ e) ≡ t / 2 ^ e * 2 ^ e =
    ap least_of (sym place) ∙ (least_at e d short ∙ ap (λ m. m * 2 ^ e) is) in
    let width : width_of (e * 128 + t / 2 ^ e) ≡ 2 ^ e =
    ap width_of (sym place) ∙ width_at e d short in
    record {
      from = subst (λ (n : ℕ). n ≤ t) (sym least) s.from;
      below = omega (arith, least, width, s.within);
    }

-- the times of a bucket of more than one
pub record Spans (k : ℕ) : Type 0 where
  pub least : least_of k ≡ (128 + k % 128) * 2 ^ (k / 128 - 1)
  pub whole : (128 + k % 128) * 2 ^ (k / 128 - 1) % 18446744073709551616
      ≡ (128 + k % 128) * 2 ^ (k / 128 - 1)
  pub width : 1 * 2 ^ (k / 128 - 1) % 18446744073709551616 ≡ 2 ^ (k / 128 - 1)
  pub some : 0 < 2 ^ (k / 128 - 1)
  pub fits : (128 + k % 128) * 2 ^ (k / 128 - 1) + 2 ^ (k / 128 - 1) ≤ 18446744073709551616
  pub close : 128 * 2 ^ (k / 128 - 1) ≤ (128 + k % 128) * 2 ^ (k / 128 - 1)

pub spans : (k : ℕ) → 128 ≤ k → k < 7424 → Spans k
spans k h below =
    let rest : k % 128 < 128 = omega arith in
    let e : ℕ = k / 128 - 1 in
    let few : e ≤ 56 = omega arith in
    let place : k ≡ 128 * e + 128 + k % 128 = omega arith in
    let above : 256 * 2 ^ e ≡ 2 ^ (8 + e) = sym (pow-add 2 8 e) in
    let most : 2 ^ (8 + e) ≤ 2 ^ 64 = pow_mono {i = 8 + e} {j = 64} (omega arith) in
    let fits : (128 + k % 128) * 2 ^ e + 2 ^ e ≤ 256 * 2 ^ e =
    row_fits (128 + k % 128) (2 ^ e) 256 (2 ^ e) (omega arith) (omega arith) in
    record {
      least = ap least_of place ∙ least_at e (k % 128) rest;
      whole = shl_whole (128 + k % 128) 8 e 64 (omega arith) (omega arith);
      width = one_shl e 64 (omega arith);
      some = pow_pos e;
      fits = omega (arith, above, most, fits);
      close = mul-le 128 (2 ^ e) (128 + k % 128) (2 ^ e) (omega arith) (omega arith);
    }
