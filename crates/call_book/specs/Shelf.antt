-- Values by the number of a thing of an endpoint.
use Rattle.std.specs.Prelude.{ℕ, ◌≡◌, ◌==◌, ◌&&◌, Bool, List, Option, Some, None, if◌then◌else◌}
use Rattle.std.specs.Map.{lookup}
use Rattle.rpc_laws.specs.Endpoints.{Endpoint}
use Rattle.lawful_history.specs.Told.{is_endpoint, or_told}

-- whether two keys are the same: a node, a life and a number
abbrev pub same_key : ℕ × ℕ × ℕ → ℕ × ℕ × ℕ → Bool
same_key a b = (a.0 == b.0 && a.1 == b.1) && a.2 == b.2

-- what these entries have for a number of an endpoint
abbrev pub kept : {V : Type 0} → List ((ℕ × ℕ × ℕ) × V) → Endpoint → ℕ → Option V
kept entries n k = lookup (same_key (n.node, n.life, k)) entries

-- a value is put for number k of endpoint n, and all others stay
abbrev pub Puts : {V : Type 0} → Endpoint → ℕ → V → (old new : List ((ℕ × ℕ × ℕ) × V)) → Type 0
Puts n k value old new =
    (m : Endpoint) (j : ℕ)
    → kept new m j ≡ (if is_endpoint n m && k == j then Some value else kept old m j)

-- what is told of number j, where a value is told of one number at most
abbrev pub told_at : {V : Type 0} → (j : ℕ) → Option (ℕ × V) → Option V
told_at j None = None
told_at j (Some told) = if told.0 == j then Some told.1 else None

-- what is told of one number of endpoint n is kept from then on
abbrev pub Notes : {V : Type 0} → Endpoint → Option (ℕ × V) → (old new : List ((ℕ × ℕ × ℕ) × V))
    → Type 0
Notes n told old new =
    (m : Endpoint) (j : ℕ)
    → kept new m j ≡ or_told (if is_endpoint n m then told_at j told else None) (kept old m j)
