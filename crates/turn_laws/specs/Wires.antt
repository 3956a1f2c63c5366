-- Deeds of a node in a wire run.
use Rattle.std.specs.Prelude.{ℕ, ◌≡◌, Some, List, map, slice_get}
use Rattle.std.specs.List.{AllByRecursion}
use Rattle.rpc_outside.specs.Linking.{Carried}
use Rattle.rpc_laws.specs.declared.tables.InFlight.{InFlight}

-- a datagram that comes to node n is on the wire: it was sent before, by the peer that it is said
-- to be from, to this node
pub record IsOnWire (wire : List InFlight) (n : ℕ) (c : Carried) : Type 0 where
  pub number : ℕ
  pub is_copy : slice_get wire number ≡ Some (record { from = c.0; to = n; bytes = c.1 })

-- so is each of these
abbrev pub AreOnWire : List InFlight → ℕ → List Carried → Type 0
AreOnWire wire n came = AllByRecursion (IsOnWire wire n) came

-- what node n sent, in that order
abbrev pub on_wire : ℕ → List Carried → List InFlight
on_wire n sent = map (λ c. record { from = n; to = c.0; bytes = c.1 }) sent
