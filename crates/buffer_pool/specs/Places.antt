-- References to a place that may be absent, since an entry without a body names none; and the
-- places that others name.
use Rattle.std.specs.Prelude.{◌≡◌, ℕ, ◌<◌, ◌≤◌, false, List, Option, Some, None, IfSome}
use Rattle.std.specs.List.{AllByRecursion}
use Rattle.rpc_base.specs.declared.limits.TheConstants.{MOST_REFERENCES}
use Rattle.buffer_pool.specs.Pool.{Pool, IsFull, buf_at, held, refs_of, released, use_at}
use Rattle.buffer_pool.specs.Uses.{is_empty}

-- one reference more to a place, if there is one
abbrev pub held_at : Option ℕ → Pool → Pool
held_at None pool = pool
held_at (Some p) pool = held p pool

-- one reference less to a place, if there is one
abbrev pub released_at : Option ℕ → Pool → Pool
released_at None pool = pool
released_at (Some p) pool = released p pool

-- the place, if there is one, is full and one reference more can be counted
abbrev pub MayHold : Pool → Option ℕ → Type 0
MayHold pool place = IfSome place (λ p. IsFull pool p × (refs_of pool p < MOST_REFERENCES))

-- there is a reference to the place, if there is a place
abbrev pub IsHeld : Pool → Option ℕ → Type 0
IsHeld pool place = IfSome place (λ p. 0 < refs_of pool p)

-- what a session names before and after: a place with a use that it didn't name isn't named by it
-- then, and is as it was
abbrev pub LeavesUnnamed : {A : Type 0} → (ℕ → A → ℕ) → (old new : A) → (before after : Pool)
    → Type 0
LeavesUnnamed names old new before after =
    (p : ℕ) → names p old ≡ 0 → is_empty (use_at before p) ≡ false
    → (names p new ≡ 0) × (use_at after p ≡ use_at before p) × (buf_at after p ≡ buf_at before p)

-- the pool has what each of these needs of it, and none of the places that they name is named twice
pub record KeepsAll {A : Type 0} (IsKept : Pool → A → Type 0) (names : ℕ → List A → ℕ)
    (pool : Pool) (xs : List A) : Type 0 where
  pub kept : AllByRecursion (IsKept pool) xs
  pub apart : (p : ℕ) → names p xs ≤ 1
