-- How many references there are to each place, and how many places are spare, after one place changed.
use Rattle.std.proofs.Common.{◌≡◌, ◌≢◌, ℕ, ◌+◌, ◌-◌, ◌<◌, true, cond}
use Rattle.std.proofs.Common.{Some, length, refl, sym, ap, ◌∙◌, inl, inr, arith}
use Rattle.std.specs.List.{position_or_len}
use Rattle.std.proofs.lemmas.Bool.{cases_eq}
use Rattle.std.proofs.lemmas.List.Sums.{passes_at_first, sum_by-set}
use Rattle.message_buffer.specs.Buffer.{Buffer}
use Rattle.buffer_pool.specs.declared.usage.Use.{Use}
use Rattle.buffer_pool.specs.declared.usage.Use.TheVariants.{Empty, Full, Lent}
use Rattle.buffer_pool.specs.Uses.{is_empty, is_full, refs_in}
use Rattle.buffer_pool.specs.Pool.{Pool, IsFull, emptied, filled, held, lowest_empty, refs_of}
use Rattle.buffer_pool.specs.Pool.{released, spare_of, use_at}
use Rattle.buffer_pool.proofs.PoolLemmas.{changed_other, changed_own, full_from_refs, full_within}
use Rattle.rpc_base.proofs.BasicLemmas.{found-at}

pub lowest_at : (s : Pool) (p : ℕ) → lowest_empty s ≡ Some p → (p < length s.uses) × (is_empty (use_at s p) ≡ true)
lowest_at s p e =
    let (same, within) = found-at (position_or_len is_empty s.uses) (length s.uses) p _ refl e in
    (rw same within, rw same (passes_at_first is_empty s.uses Empty within))

-- a use that is full isn't empty, and an empty one has no references
pub full_used : (u : Use) → is_full u ≡ true → cond {A = ℕ} (is_empty u) 1 0 ≡ 0
full_used Empty full = cc
full_used (Full refs) full = refl
full_used Lent full = refl

empty_refs : (u : Use) → is_empty u ≡ true → refs_in u ≡ 0
empty_refs Empty e = refl
empty_refs (Full refs) e = cc
empty_refs Lent e = cc

-- references
pub refs_filled : (s : Pool) (p q : ℕ) (b : Buffer) → lowest_empty s ≡ Some p → refs_of (filled p b s) q ≡ refs_of s q
refs_filled s p q b e = elim (cases_eq q p) [
  | inl same ↦ (let at = lowest_at s p e in rw same (ap refs_in (changed_own s.uses p (Full 0) Empty at.0) ∙ sym (empty_refs (use_at s p) at.1)))
  | inr other ↦ ap refs_in (changed_other s.uses p q (Full 0) Empty other)
]

pub refs_emptied : (s : Pool) (p q : ℕ) → IsFull s p → refs_of s p ≡ 0 → refs_of (emptied p s) q ≡ refs_of s q
refs_emptied s p q full none = elim (cases_eq q p) [
  | inl same ↦ rw same (ap refs_in (changed_own s.uses p Empty Empty (full_within s.uses p full)) ∙ sym none)
  | inr other ↦ ap refs_in (changed_other s.uses p q Empty Empty other)
]

pub refs_held_other : (s : Pool) (p q : ℕ) → q ≢ p → refs_of (held p s) q ≡ refs_of s q
refs_held_other s p q other = ap refs_in (changed_other s.uses p q (Full (refs_of s p + 1)) Empty other)

pub refs_released_other : (s : Pool) (p q : ℕ) → q ≢ p → refs_of (released p s) q ≡ refs_of s q
refs_released_other s p q other = ap refs_in (changed_other s.uses p q (Full (refs_of s p - 1)) Empty other)

-- spare places
pub spare_filled : (s : Pool) (p : ℕ) (b : Buffer) → lowest_empty s ≡ Some p
    → spare_of (filled p b s) + 1 ≡ spare_of s
spare_filled s p b e =
    let at = lowest_at s p e in
    let one = sum_by-set (λ u. cond {A = ℕ} (is_empty u) 1 0) s.uses p (Full 0) Empty at.0 in
    let was : cond {A = ℕ} (is_empty (use_at s p)) 1 0 ≡ 1 = ap (λ b. cond {A = ℕ} b 1 0) at.1 in
    omega (arith, one, was)

pub spare_emptied : (s : Pool) (p : ℕ) → IsFull s p → spare_of (emptied p s) ≡ spare_of s + 1
spare_emptied s p full =
    omega (
      arith,
      sum_by-set (λ u. cond {A = ℕ} (is_empty u) 1 0) s.uses p Empty Empty
          (full_within s.uses p full),
      full_used (use_at s p) full,
    )

pub spare_held : (s : Pool) (p : ℕ) → IsFull s p → spare_of (held p s) ≡ spare_of s
spare_held s p full =
    omega (
      arith,
      sum_by-set (λ u. cond {A = ℕ} (is_empty u) 1 0) s.uses p (Full (refs_of s p + 1))
          Empty (full_within s.uses p full),
      full_used (use_at s p) full,
    )

pub spare_released : (s : Pool) (p : ℕ) → 0 < refs_of s p → spare_of (released p s) ≡ spare_of s
spare_released s p some =
    let full = full_from_refs s p some in
    omega (
      arith,
      sum_by-set (λ u. cond {A = ℕ} (is_empty u) 1 0) s.uses p (Full (refs_of s p - 1))
          Empty (full_within s.uses p full),
      full_used (use_at s p) full,
    )
