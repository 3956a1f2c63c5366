-- What one node sends into the network.
use Rattle.std.specs.Prelude.{ℕ, List}
use Rattle.rpc_laws.specs.declared.tables.InFlight.{InFlight}
use Rattle.rpc_outside.specs.Linking.{Carried}

-- what a node sent, each with the node that it goes to, and how often memory was wanting
pub record Sending : Type 0 where
  pub sent : List Carried
  pub faults : ℕ

-- a datagram of a node on its way
abbrev pub copy_from : ℕ → Carried → InFlight
copy_from me d = record { from = me; to = d.0; bytes = d.1 }
