-- What is done to a place of a pool, by the use of each: full places stay full, and none is full and empty.
use Rattle.std.proofs.Common.{◌≡◌, ◌≢◌, ℕ, ◌<◌, Bool, true, false, cond, eqb, Option, Some, None}
use Rattle.std.proofs.Common.{List, length, get_or, set, sym, ap, ◌∙◌, inl, inr, arith}
use Rattle.std.proofs.lemmas.Bool.{cases_eq, cases_lt, eq-eqb, eqb-false, ne_eqb}
use Rattle.std.proofs.lemmas.List.{get_or_past}
use Rattle.message_buffer.specs.Buffer.{Buffer}
use Rattle.buffer_pool.specs.declared.usage.Use.{Use}
use Rattle.buffer_pool.specs.declared.usage.Use.TheVariants.{Empty, Full, Lent}
use Rattle.buffer_pool.specs.Uses.{is_empty, is_full}
use Rattle.buffer_pool.specs.Pool.{Pool, lowest_empty, use_at}
use Rattle.buffer_pool.proofs.CountLemmas.{lowest_at}
use Rattle.buffer_pool.proofs.PoolLemmas.{changed_other, changed_own, full_within}

-- a full place that is filled or held anew is full, and each other one as it was
pub full-cases : (uses : List Use) (p q : ℕ) (u : Use) → is_full u ≡ true
    → is_full (get_or uses q Empty) ≡ true → is_full (get_or (set uses p u) q Empty) ≡ true
full-cases uses p q u full was =
    elim (cases_eq q p) [
      | inl same ↦ (let within : p < length uses = rw same at (full_within uses q was) in rw same (ap is_full (changed_own uses p u Empty within) ∙ full))
      | inr other ↦ ap is_full (changed_other uses p q u Empty other) ∙ was
    ]

-- a place is not both full and empty
pub full-empty : (u : Use) → is_full u ≡ true → is_empty u ≡ true → ⊥
full-empty Empty full empty = cc
full-empty (Full refs) full empty = cc
full-empty Lent full empty = cc

pub lowest-empty : (pool : Pool) (p : ℕ) → lowest_empty pool ≡ Some p → is_empty (use_at pool p) ≡ true
lowest-empty pool p e = (lowest_at pool p e).1

-- a place that is named once, or not at all
pub named-one : (a p : ℕ) → a ≡ p → cond {A = ℕ} (eqb a p) 1 0 ≡ 1
named-one a p e = ap (λ b. cond {A = ℕ} b 1 0) (eq-eqb a p e)

pub unnamed-one : (a p : ℕ) → a ≢ p → cond {A = ℕ} (eqb a p) 1 0 ≡ 0
unnamed-one a p other = ap (λ b. cond {A = ℕ} b 1 0) (ne_eqb a p other)

pub unnamed-cases : (a p : ℕ) (b : Bool) → eqb a p ≡ b → cond {A = ℕ} b 1 0 ≡ 0 → a ≢ p
unnamed-cases a p true t e = absurd (omega arith)
unnamed-cases a p false t e = eqb-false a p t

-- a place with a buffer is one of the pool's
pub buffer-within : (bufs : List (Option Buffer)) (p : ℕ) (b : Buffer) → get_or bufs p None ≡ Some b → p < length bufs
buffer-within bufs p b e = elim (cases_lt p (length bufs)) [
  | inl within ↦ within
  | inr past ↦ (let none = get_or_past bufs p None past in absurd (some-none b (sym e ∙ none)))
]
  where
    some-none : (b : Buffer) → Some b ≡ None → ⊥
    some-none b e = cc
