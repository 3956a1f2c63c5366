-- What a node does with the reply in front of its receive ring.
use Rattle.std.specs.Prelude.{ℕ, ◌≡◌, Option, Some, None, List, [], ◌∷◌, drop, slice_get}
use Rattle.client_core.specs.Shown.{done_fact}
use Rattle.client_core.specs.declared.outcome.Done.{Done}
use Rattle.packet_header.specs.Reading.{body_of}
use Rattle.packet_header.specs.declared.packet.MessageHeader.{MessageHeader}
use Rattle.rpc_base.specs.declared.event.Event.TheVariants.{Dropped}
use Rattle.rpc_base.specs.declared.fact.Fact.{Fact}
use Rattle.rpc_base.specs.declared.state.DropReason.{DropReason}
use Rattle.rpc_laws.specs.declared.tables.Arrival.{Arrival}
use Rattle.rpc_laws.specs.declared.tables.Timed.{Timed}
use Rattle.rpc_laws.specs.Facts.{plain}
use Rattle.rpc_laws.specs.PollOrder.{replies_facts}
use Rattle.rpc_laws.specs.Steps.{Goes}

-- the front of the ring is dropped
pub record Drops (why : DropReason) (s : Timed) (x : List Fact) (t : Timed) : Type 0 where
  pub facts : x ≡ plain s.lists.me (Dropped why) ∷ []
  pub goes : Goes s x t

-- the fact that a call is over, if one is
abbrev pub over_facts : ℕ → Option Done → List Fact
over_facts me None = []
over_facts me (Some d) = done_fact me d ∷ []

-- the front of the ring, whose header is h, is handled by the client rule. The call that is given
-- out is the one whose end is noted, and none is where none is
pub record HearsReply (h : MessageHeader) (o : Option Done) (s : Timed) (x : List Fact) (t : Timed)
    : Type 0 where
  pub front : Arrival
  pub is_front : slice_get s.lists.ring 0 ≡ Some front
  pub facts : x ≡ replies_facts s.lists front.peer h (body_of front.bytes)
  pub goes : Goes s x t
  pub over : drop 1 x ≡ over_facts s.lists.me o
