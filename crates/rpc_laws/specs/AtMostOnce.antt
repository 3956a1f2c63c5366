-- At most once: no request runs twice, and no call begins or ends twice.
use Rattle.std.specs.Prelude.{ℕ, ◌≤◌, ◌==◌, ◌&&◌, Bool, false, List, count_by}
use Rattle.rpc_base.specs.declared.event.Event.{Event}
use Rattle.rpc_base.specs.declared.event.Event.TheVariants.{Ran, Worked, Begun, DoneOk}
use Rattle.rpc_base.specs.declared.event.Event.TheVariants.{DoneTooSmall, DonePeerLost}
use Rattle.rpc_base.specs.declared.fact.Fact.{Fact}
use Rattle.rpc_base.specs.declared.fact.Who.{Who}
use Rattle.rpc_base.specs.declared.fact.Who.TheVariants.{Node, Net}

-- a fact of node n
abbrev pub is_at : ℕ → Who → Bool
is_at n (Node m) = m == n
is_at n Net = false

abbrev pub runs_request : ℕ → ℕ → Event → Bool
runs_request t r (Ran session request y) = session == t && request == r
runs_request t r _ = false

abbrev pub works_request : ℕ → ℕ → Event → Bool
works_request t r (Worked session request) = session == t && request == r
works_request t r _ = false

abbrev pub begins_call : ℕ → Event → Bool
begins_call c (Begun call r) = call == c
begins_call c _ = false

abbrev pub ends_call : ℕ → Event → Bool
ends_call c (DoneOk call) = call == c
ends_call c (DoneTooSmall call size) = call == c
ends_call c (DonePeerLost call) = call == c
ends_call c _ = false

-- how many facts of node n have such an event
abbrev pub times : ℕ → (Event → Bool) → List Fact → ℕ
times n test h = count_by (λ f. is_at n f.who && test f.event) h

-- no (m, T, r) has two Ran or two Worked facts, and no (n, call) two Begun or two Done facts
pub record Once (h : List Fact) : Type 0 where
  pub ran : (m t r : ℕ) → times m (runs_request t r) h ≤ 1
  pub worked : (m t r : ℕ) → times m (works_request t r) h ≤ 1
  pub begun : (n c : ℕ) → times n (begins_call c) h ≤ 1
  pub done : (n c : ℕ) → times n (ends_call c) h ≤ 1
