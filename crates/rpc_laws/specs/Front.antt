-- What a datagram says, and what the one at the front of a ring does.
use Rattle.std.specs.Prelude.{ℕ, Bool, is_some, Option, Some, None, List, [], ◌∷◌, Result, Ok, Err}
use Rattle.packet_header.specs.Reading.{decoded, message_of, body_of}
use Rattle.packet_header.specs.declared.packet.BadPacket.{BadPacket}
use Rattle.packet_header.specs.declared.packet.ControlHeader.{ControlHeader}
use Rattle.packet_header.specs.declared.packet.MessageHeader.{MessageHeader}
use Rattle.packet_header.specs.declared.packet.Packet.{Packet}
use Rattle.packet_header.specs.declared.packet.Packet.TheVariants.{Message, Control}
use Rattle.rpc_laws.specs.declared.tables.Arrival.{Arrival}

-- the control header that was read, if one was
abbrev pub control_in : Result Packet BadPacket → Option ControlHeader
control_in (Ok (Message m)) = None
control_in (Ok (Control c)) = Some c
control_in (Err bad) = None

-- the control header of a datagram that is a control packet
abbrev pub control_of : List ℕ → Option ControlHeader
control_of bytes = control_in (decoded bytes)

-- whether a datagram is a packet of a call, and whether it is a control packet
abbrev pub is_message : List ℕ → Bool
is_message bytes = is_some (message_of bytes)

abbrev pub is_control : List ℕ → Bool
is_control bytes = is_some (control_of bytes)

abbrev pub front_bytes : List Arrival → List ℕ
front_bytes [] = []
front_bytes (d ∷ ds) = d.bytes

-- its header, where it spells a message packet
abbrev pub front_header : List Arrival → Option MessageHeader
front_header ring = message_of (front_bytes ring)

abbrev pub front_body : List Arrival → List ℕ
front_body ring = body_of (front_bytes ring)
