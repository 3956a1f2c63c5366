-- What a datagram is read as: a packet, or the first reason why it is none.
use Rattle.packet_header.specs.declared.layout.TheConstants.{FROM_LIFE, MAGIC, PADDING}
use Rattle.packet_header.specs.declared.layout.TheConstants.{PADDING_BYTES, TO_LIFE}
use Rattle.std.specs.Prelude.{ℕ, ◌+◌, ◌==◌, nat_lt, nat_le, ◌&&◌, ◌||◌, not, Bool, true, false}
use Rattle.std.specs.Prelude.{if◌then◌else◌, List, [], ◌∷◌, length, drop, slice_index, Option, Some}
use Rattle.std.specs.Prelude.{None, Result, Ok, Err}
use Rattle.rpc_base.specs.declared.limits.TheConstants.{SESSION_NUMBERS}
use Rattle.rpc_base.specs.declared.limits.TheConstants.{HEAD_BYTES, PART_BYTES, MOST_DATAGRAM_BYTES}
use Rattle.packet_header.specs.declared.packet.Kind.{Kind}
use Rattle.packet_header.specs.declared.packet.Kind.TheVariants.{Request, Rfr, Cr, Response}
use Rattle.packet_header.specs.declared.packet.ControlKind.{ControlKind}
use Rattle.packet_header.specs.declared.packet.ControlKind.TheVariants.{ConnectRequest}
use Rattle.packet_header.specs.declared.packet.ControlKind.TheVariants.{ConnectReply}
use Rattle.packet_header.specs.declared.packet.ControlKind.TheVariants.{DisconnectRequest}
use Rattle.packet_header.specs.declared.packet.ControlKind.TheVariants.{DisconnectReply}
use Rattle.packet_header.specs.declared.packet.MessageHeader.{MessageHeader}
use Rattle.packet_header.specs.declared.packet.ControlHeader.{ControlHeader}
use Rattle.packet_header.specs.declared.packet.Packet.{Packet}
use Rattle.packet_header.specs.declared.packet.Packet.TheVariants.{Message, Control}
use Rattle.packet_header.specs.declared.packet.BadPacket.{BadPacket}
use Rattle.packet_header.specs.declared.packet.BadPacket.TheVariants.{Short, Magic, Field, Length}
use Rattle.packet_header.specs.declared.packet.BadPacket.TheVariants.{Kind as NoKind}
use Rattle.packet_header.specs.declared.decoding.AnyKind.{AnyKind}
use Rattle.packet_header.specs.declared.decoding.AnyKind.TheVariants.{OfMessage, OfControl}
use Rattle.packet_header.specs.Parts.{part_size, tail}
use Rattle.packet_header.specs.Ranges.{within, lives, sessions, message_row, control_row}
use Rattle.packet_header.specs.Header.{number_at}

-- the kind that a byte stands for, if any
unfoldable pub kind_of : ℕ → Option AnyKind
kind_of byte =
    if byte == 0 then Some (OfMessage Request)
    else (if byte == 1 then Some (OfMessage Rfr)
    else (if byte == 2 then Some (OfMessage Cr)
    else (if byte == 3 then Some (OfMessage Response)
    else (if byte == 4 then Some (OfControl ConnectRequest)
    else (if byte == 5 then Some (OfControl ConnectReply)
    else (if byte == 6 then Some (OfControl DisconnectRequest)
    else (if byte == 7 then Some (OfControl DisconnectReply)
    else None)))))))

-- the fields as they stand, whatever their ranges
unfoldable pub message_at : Kind → List ℕ → MessageHeader
message_at kind bytes = record {
  kind = kind;
  req_type = slice_index bytes 2;
  size = number_at 3 3 bytes;
  session = number_at 6 2 bytes;
  number = number_at 8 2 bytes;
  request = number_at 10 6 bytes;
  to_life = number_at TO_LIFE 4 bytes;
}

-- 0xFFFF is no server
abbrev pub server_of : ℕ → Option ℕ
server_of number = if number == SESSION_NUMBERS then None else Some number

-- 0 is nobody's life
abbrev pub life_of : ℕ → Option ℕ
life_of number = if number == 0 then None else Some number

-- the fields as they stand
unfoldable pub control_at : ControlKind → List ℕ → ControlHeader
control_at kind bytes = record {
  kind = kind;
  client = number_at 2 2 bytes;
  server = server_of (number_at 4 2 bytes);
  credits = number_at 6 2 bytes;
  status = slice_index bytes 8;
  from_life = number_at FROM_LIFE 4 bytes;
  to_life = life_of (number_at TO_LIFE 4 bytes);
}

-- there is a server session, by its number, exactly where the row has one: as a test
abbrev pub is_server : Bool → Option ℕ → Bool
is_server true (Some server) = within sessions server
is_server true None = false
is_server false (Some server) = false
is_server false None = true

-- there is a life exactly where the row has one: as a test
abbrev pub is_life : Bool → Option ℕ → Bool
is_life true (Some life) = within lives life
is_life true None = false
is_life false (Some life) = false
is_life false None = true

-- the fields of a message header: the offset of each, and whether it is in range
abbrev pub message_fields : MessageHeader → List (ℕ × Bool)
message_fields m =
    (2, within (message_row m.kind m.size).types m.req_type)
    ∷ (3, within (message_row m.kind m.size).sizes m.size)
    ∷ (6, within sessions m.session)
    ∷ (8, within (message_row m.kind m.size).numbers m.number)
    ∷ (TO_LIFE, within lives m.to_life)
    ∷ []

-- the fields of a control header; padding is the number in the bytes that should be zero
abbrev pub control_fields : ControlHeader → (padding : ℕ) → List (ℕ × Bool)
control_fields c padding =
    (2, within sessions c.client)
    ∷ (4, is_server (control_row c.kind c.status).has_server c.server)
    ∷ (6, within (control_row c.kind c.status).credits c.credits)
    ∷ (8, c.status == 0 || c.status == (control_row c.kind c.status).refusal)
    ∷ (FROM_LIFE, within lives c.from_life)
    ∷ (PADDING, padding == 0)
    ∷ (TO_LIFE, is_life (control_row c.kind c.status).has_life c.to_life)
    ∷ []

-- the offset of the first field outside its range
abbrev pub first_outside : List (ℕ × Bool) → Option ℕ
first_outside [] = None
first_outside (field ∷ fields) = if not field.1 then Some field.0 else first_outside fields

unfoldable pub message_fault : MessageHeader → Option ℕ
message_fault m = first_outside (message_fields m)

unfoldable pub control_fault : ControlHeader → (padding : ℕ) → Option ℕ
control_fault c padding = first_outside (control_fields c padding)

-- the length of a datagram; of a response the last part's
abbrev pub wanted : Kind → (size number : ℕ) → ℕ
wanted Request size number = HEAD_BYTES + part_size size number
wanted Rfr size number = HEAD_BYTES
wanted Cr size number = HEAD_BYTES
wanted Response size number = HEAD_BYTES + tail size

-- a response's part may be full, where its message fills one
abbrev pub is_full_part : Kind → (size length : ℕ) → Bool
is_full_part Response size n = nat_le PART_BYTES size && n == MOST_DATAGRAM_BYTES
is_full_part Request size n = false
is_full_part Rfr size n = false
is_full_part Cr size n = false

-- a packet whose fields are read is refused for its first fault, and then for its length
abbrev pub checked : Option ℕ → (fits : Bool) → Packet → (want got : ℕ) → Result Packet BadPacket
checked (Some offset) fits p want got = Err (Field offset)
checked None true p want got = Ok p
checked None false p want got = Err (Length want got)

-- a datagram of a call, by its fields and its length
unfoldable pub message_read : MessageHeader → (length : ℕ) → Result Packet BadPacket
message_read m n =
    checked (message_fault m) (n == wanted m.kind m.size m.number || is_full_part m.kind m.size n)
    (Message m) (wanted m.kind m.size m.number) n

-- a datagram of session control, by its fields and its length
unfoldable pub control_read : ControlHeader → (padding length : ℕ) → Result Packet BadPacket
control_read c padding n =
    checked (control_fault c padding) (n == HEAD_BYTES) (Control c) HEAD_BYTES n

-- a datagram that begins as a header does, by its kind
abbrev pub read_as : Option AnyKind → List ℕ → Result Packet BadPacket
read_as None bytes = Err (NoKind (slice_index bytes 1))
read_as (Some (OfMessage kind)) bytes = message_read (message_at kind bytes) (length bytes)
read_as (Some (OfControl kind)) bytes =
    control_read (control_at kind bytes) (number_at PADDING PADDING_BYTES bytes) (length bytes)

-- a datagram: the first 20 bytes are wanted, then the magic byte, and then a kind
unfoldable pub decoded : List ℕ → Result Packet BadPacket
decoded bytes =
    if nat_lt (length bytes) HEAD_BYTES then Err (Short (length bytes))
    else (if not (slice_index bytes 0 == MAGIC) then Err (Magic (slice_index bytes 0))
    else read_as (kind_of (slice_index bytes 1)) bytes)

-- the message header that was read, if one was
abbrev pub message_in : Result Packet BadPacket → Option MessageHeader
message_in (Ok (Message m)) = Some m
message_in (Ok (Control c)) = None
message_in (Err bad) = None

-- the message header of a datagram that is a packet of a call
abbrev pub message_of : List ℕ → Option MessageHeader
message_of bytes = message_in (decoded bytes)

-- what follows the header
abbrev pub body_of : {T : Type 0} → List T → List T
body_of bytes = drop HEAD_BYTES bytes
