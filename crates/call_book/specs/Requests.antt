-- The calls of an endpoint, by session and request.
use Rattle.std.specs.Prelude.{ℕ, ◌≡◌, ◌==◌, ◌&&◌, Bool, List, Option, Some, None, if◌then◌else◌}
use Rattle.std.specs.Map.{lookup}
use Rattle.rpc_laws.specs.Endpoints.{Endpoint}
use Rattle.lawful_history.specs.Told.{is_endpoint, or_told}

-- whether two keys are the same: a node, a life, a session and a request
abbrev pub same_request : ℕ × ℕ × ℕ × ℕ → ℕ × ℕ × ℕ × ℕ → Bool
same_request a b = ((a.0 == b.0 && a.1 == b.1) && a.2 == b.2) && a.3 == b.3

-- the call that these entries have for a request of a session of an endpoint
abbrev pub call_kept : List ((ℕ × ℕ × ℕ × ℕ) × ℕ) → Endpoint → (s r : ℕ) → Option ℕ
call_kept entries n s r = lookup (same_request (n.node, n.life, s, r)) entries

-- a call that begins as a request of a session
pub record Beginning : Type 0 where
  pub session : ℕ
  pub request : ℕ
  pub call : ℕ

-- which call begins as request r of session s, where one begins at most
abbrev pub begins_as : (s r : ℕ) → Option Beginning → Option ℕ
begins_as s r None = None
begins_as s r (Some began) =
    if began.session == s && began.request == r then Some began.call else None

-- a call that begins at endpoint n is kept from then on
abbrev pub NotesCall : Endpoint → Option Beginning → (old new : List ((ℕ × ℕ × ℕ × ℕ) × ℕ)) → Type 0
NotesCall n began old new =
    (m : Endpoint) (s r : ℕ)
    → call_kept new m s r
    ≡ or_told (if is_endpoint n m then begins_as s r began else None) (call_kept old m s r)
