-- Which client sessions a poll visits.
use Rattle.std.specs.Prelude.{◌≡◌, ℕ, ◌<◌, ◌≤◌, ◌||◌, Bool, true, false, Option, Some, None}
use Rattle.std.specs.Prelude.{IfSome, List}
use Rattle.std.specs.Prelude.{slice_get}
use Rattle.std.specs.List.{Contains}
use Rattle.rpc_laws.specs.declared.tables.Client.{Client}
pub use Rattle.session_store.specs.Changes.{has_request}
use Rattle.session_store.specs.Sides.{has_calls}

-- a poll visits a session that has calls or a request of its own
abbrev pub is_visited : Client → Bool
is_visited x = has_calls x || has_request x.state

-- each session that a poll visits is among these
abbrev pub Covers : List ℕ → List Client → Type 0
Covers callers clients = (i : ℕ) → (x : Client) → slice_get clients i ≡ Some x
    → is_visited x ≡ true → Contains callers i

-- no session from one place on, and below another, is visited
abbrev pub NoneCalls : (low high : ℕ) → List Client → Type 0
NoneCalls low high clients = (i : ℕ) → low ≤ i → i < high
    → IfSome (slice_get clients i) (λ x. is_visited x ≡ false)

-- from place `from` on, and below `count`, none before the next one is visited
abbrev pub IsNextCaller : (from count : ℕ) → List Client → Option ℕ → Type 0
IsNextCaller from count clients None = NoneCalls from count clients
IsNextCaller from count clients (Some n) =
    (from ≤ n) × (n < count) × NoneCalls from n clients
