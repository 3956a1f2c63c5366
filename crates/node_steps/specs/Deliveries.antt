-- What is answered where a datagram is delivered.
use Rattle.std.specs.Prelude.{ℕ, nat_lt, List, length, Result, Ok, Err, if◌then◌else◌}
use Rattle.packet_header.specs.Reading.{decoded}
use Rattle.packet_header.specs.declared.packet.BadPacket.{BadPacket}
use Rattle.packet_header.specs.declared.packet.Packet.{Packet}
use Rattle.packet_header.specs.declared.packet.Packet.TheVariants.{Control, Message}
use Rattle.rpc_laws.specs.declared.tables.Lists.{Lists}
use Rattle.rpc_laws.specs.Deliveries.{inbox_room}
use Rattle.node_steps.specs.declared.deliveries.Delivery.{Delivery}
use Rattle.node_steps.specs.declared.deliveries.Delivery.TheVariants.{Bad, Full, Inbox, Ring}

abbrev pub place_for : (length room : ℕ) → Delivery → Delivery
place_for n room there = if nat_lt n room then there else Full

-- by what it is read as: a packet of a call, a control packet, or no packet for this reason
abbrev pub delivered_by : Lists → Result Packet BadPacket → Delivery
delivered_by s (Ok (Message m)) = place_for (length s.ring) s.room Ring
delivered_by s (Ok (Control c)) = place_for (length s.inbox) inbox_room Inbox
delivered_by s (Err why) = Bad why

-- where a datagram stands, or why it is gone
abbrev pub delivered_as : Lists → List ℕ → Delivery
delivered_as s bytes = delivered_by s (decoded bytes)
