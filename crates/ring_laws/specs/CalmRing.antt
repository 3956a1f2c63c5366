-- No message finds a full ring while no datagram was repeated, no call rolled back and no node
-- restarted.
use Rattle.std.specs.Prelude.{ℕ, ◌≡◌, Bool, true, false, IsSome, List, []}
use Rattle.std.specs.List.{list_any}
use Rattle.packet_header.specs.Reading.{message_of}
use Rattle.rpc_base.specs.declared.event.Event.{Event}
use Rattle.rpc_base.specs.declared.event.Event.TheVariants.{Overflowed, Repeated, Restarted, Rolled}
use Rattle.rpc_base.specs.declared.fact.Fact.{Fact}
use Rattle.rpc_base.specs.declared.fact.Who.{Who}
use Rattle.rpc_base.specs.declared.fact.Who.TheVariants.{Node, Net}
use Rattle.rpc_laws.specs.Endpoints.{Lived}
use Rattle.rpc_laws.specs.OwnAnswer.{AtEach}

-- what puts a packet on its way once more, and a restart
abbrev pub is_rough : Event → Bool
is_rough (Repeated i) = true
is_rough (Rolled c posted got) = true
is_rough (Restarted life) = true
is_rough _ = false

-- no datagram was repeated, no call rolled back and no node restarted, so far
abbrev pub Calm : List Lived → Type 0
Calm past = list_any (λ f. is_rough f.fact.event) past ≡ false

-- a message that finds a full ring has no calm history before it
abbrev pub Fits : List Lived → Event → List ℕ → Type 0
Fits past (Overflowed peer) bytes = IsSome (message_of bytes) → Calm past → ⊥
Fits past _ bytes = Unit {0}

abbrev pub FitsAt : List Lived → Who → Event → List ℕ → Type 0
FitsAt past (Node n) e bytes = Fits past e bytes
FitsAt past Net e bytes = Unit {0}

-- so it is at each fact
abbrev pub MessagesFit : List Fact → Type 0
MessagesFit h = AtEach (λ past f. FitsAt past f.who f.event f.first) [] h
