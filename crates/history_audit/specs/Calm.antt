-- Whether a history is rough, and which fact tells of a packet of a call that finds a full ring.
use Rattle.std.specs.Prelude.{ℕ, ◌≡◌, Bool, false, List, is_some}
use Rattle.std.specs.List.{list_any}
use Rattle.packet_header.specs.Reading.{message_of}
use Rattle.ring_laws.specs.CalmRing.{is_rough}
use Rattle.rpc_base.specs.declared.event.Event.{Event}
use Rattle.rpc_base.specs.declared.event.Event.TheVariants.{Overflowed}
use Rattle.rpc_base.specs.declared.fact.Fact.{Fact}
use Rattle.rpc_base.specs.declared.fact.Who.{Who}
use Rattle.rpc_base.specs.declared.fact.Who.TheVariants.{Node, Net}

-- whether a datagram was repeated, a call rolled back or a node restarted
abbrev pub IsRough : Bool → List Fact → Type 0
IsRough rough h = list_any (λ f. is_rough f.event) h ≡ rough

-- whether a packet of a call finds a node's ring full
abbrev pub finds_full : Who → Event → List ℕ → Bool
finds_full (Node n) (Overflowed peer) bytes = is_some (message_of bytes)
finds_full (Node n) _ bytes = false
finds_full Net e bytes = false
