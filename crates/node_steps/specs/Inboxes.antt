-- What stands in an inbox.
use Rattle.std.specs.Prelude.{◌≡◌, true, Some, List, slice_get}
use Rattle.rpc_laws.specs.declared.tables.Arrival.{Arrival}
use Rattle.rpc_laws.specs.Front.{control_of, is_control}
use Rattle.node_steps.specs.declared.inbox.Heard.{Heard}

-- a control packet
abbrev pub IsControl : Arrival → Type 0
IsControl a = is_control a.bytes ≡ true

-- the packet in front: who sent it, and its header
pub record IsFront (inbox : List Arrival) (h : Heard) : Type 0 where
  pub front : Arrival
  pub is_front : slice_get inbox 0 ≡ Some front
  pub peer : h.peer ≡ front.peer
  pub reads : control_of front.bytes ≡ Some h.head
