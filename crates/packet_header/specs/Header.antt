-- What a datagram's header says: its bytes, the ranges of its fields, and the datagram's length.
use Rattle.packet_header.specs.declared.layout.TheConstants.{FROM_LIFE, MAGIC, PADDING}
use Rattle.packet_header.specs.declared.layout.TheConstants.{PADDING_BYTES, TO_LIFE}
use Rattle.std.specs.Prelude.{◌≡◌, ◌≤◌, ◌<◌, ℕ, ◌+◌, ◌⊎◌, Bool, true, false, List, length, drop}
use Rattle.std.specs.Prelude.{◌++◌, slice_index, Option, Some, None, unwrap_or}
use Rattle.rpc_base.specs.declared.limits.TheConstants.{SESSION_NUMBERS}
use Rattle.rpc_base.specs.declared.limits.TheConstants.{HEAD_BYTES, PART_BYTES, MOST_DATAGRAM_BYTES}
use Rattle.byteorder.specs.Endian.{big_bytes, big_number}
use Rattle.packet_header.specs.declared.packet.Kind.{Kind}
use Rattle.packet_header.specs.declared.packet.Kind.TheVariants.{Request, Rfr, Cr, Response}
use Rattle.packet_header.specs.declared.packet.ControlKind.{ControlKind}
use Rattle.packet_header.specs.declared.packet.ControlKind.TheVariants.{ConnectRequest}
use Rattle.packet_header.specs.declared.packet.ControlKind.TheVariants.{ConnectReply}
use Rattle.packet_header.specs.declared.packet.ControlKind.TheVariants.{DisconnectRequest}
use Rattle.packet_header.specs.declared.packet.ControlKind.TheVariants.{DisconnectReply}
use Rattle.packet_header.specs.declared.packet.MessageHeader.{MessageHeader}
use Rattle.packet_header.specs.declared.packet.ControlHeader.{ControlHeader}
use Rattle.packet_header.specs.declared.packet.Packet.{Packet}
use Rattle.packet_header.specs.declared.packet.Packet.TheVariants.{Message, Control}
use Rattle.packet_header.specs.Parts.{part_size, tail}
use Rattle.packet_header.specs.Ranges.{Within, lives, sessions, message_row, control_row}

-- the number in the n bytes from an offset, the highest byte first
abbrev pub number_at : ℕ → ℕ → List ℕ → ℕ
number_at offset n bytes = big_number n (drop offset bytes)

-- each is a byte
abbrev pub AreBytes : List ℕ → Type 0
AreBytes bytes = (k : ℕ) → slice_index bytes k < 256

-- a header, by its first eight bytes as a number, the eight behind them, and the last four
abbrev pub head_bytes : (first second last : ℕ) → List ℕ
head_bytes first second last = big_bytes 8 first ++ (big_bytes 8 second ++ big_bytes 4 last)

-- the byte of each kind
abbrev pub kind_code : Kind → ℕ
kind_code Request = 0
kind_code Rfr = 1
kind_code Cr = 2
kind_code Response = 3

abbrev pub control_code : ControlKind → ℕ
control_code ConnectRequest = 4
control_code ConnectReply = 5
control_code DisconnectRequest = 6
control_code DisconnectReply = 7

-- the first 20 bytes are the fields of a packet that carries a call
pub record HasMessageHead (m : MessageHeader) (bytes : List ℕ) : Type 0 where
  pub whole : HEAD_BYTES ≤ length bytes
  pub magic : slice_index bytes 0 ≡ MAGIC
  pub kind : slice_index bytes 1 ≡ kind_code m.kind
  pub req_type : slice_index bytes 2 ≡ m.req_type
  pub size : number_at 3 3 bytes ≡ m.size
  pub session : number_at 6 2 bytes ≡ m.session
  pub number : number_at 8 2 bytes ≡ m.number
  pub request : number_at 10 6 bytes ≡ m.request
  pub to_life : number_at TO_LIFE 4 bytes ≡ m.to_life

-- the first 20 bytes are the fields of a packet that opens or closes a session; 0xFFFF is no
-- server, and 0 nobody's life
pub record HasControlHead (c : ControlHeader) (bytes : List ℕ) : Type 0 where
  pub whole : HEAD_BYTES ≤ length bytes
  pub magic : slice_index bytes 0 ≡ MAGIC
  pub kind : slice_index bytes 1 ≡ control_code c.kind
  pub client : number_at 2 2 bytes ≡ c.client
  pub server : number_at 4 2 bytes ≡ unwrap_or c.server SESSION_NUMBERS
  pub credits : number_at 6 2 bytes ≡ c.credits
  pub status : slice_index bytes 8 ≡ c.status
  pub from_life : number_at FROM_LIFE 4 bytes ≡ c.from_life
  pub padding : number_at PADDING PADDING_BYTES bytes ≡ 0
  pub to_life : number_at TO_LIFE 4 bytes ≡ unwrap_or c.to_life 0

-- the first 20 bytes are the packet's header
abbrev pub HasHead : Packet → List ℕ → Type 0
HasHead (Message m) bytes = HasMessageHead m bytes
HasHead (Control c) bytes = HasControlHead c bytes

-- each field of a message header is in the range of its row; every request number is in range
pub record MessageInRange (m : MessageHeader) : Type 0 where
  pub req_type : Within (message_row m.kind m.size).types m.req_type
  pub size : Within (message_row m.kind m.size).sizes m.size
  pub session : Within sessions m.session
  pub number : Within (message_row m.kind m.size).numbers m.number
  pub to_life : Within lives m.to_life

-- there is a server session, by its number, exactly where the row has one
abbrev pub IsServer : Bool → Option ℕ → Type 0
IsServer true (Some server) = Within sessions server
IsServer false None = Unit {0}
IsServer true None = ⊥
IsServer false (Some server) = ⊥

-- there is a life exactly where the row has one
abbrev pub IsLife : Bool → Option ℕ → Type 0
IsLife true (Some life) = Within lives life
IsLife false None = Unit {0}
IsLife true None = ⊥
IsLife false (Some life) = ⊥

-- each field of a control header is in the range of its row
pub record ControlInRange (c : ControlHeader) : Type 0 where
  pub client : Within sessions c.client
  pub server : IsServer (control_row c.kind c.status).has_server c.server
  pub credits : Within (control_row c.kind c.status).credits c.credits
  pub status : (c.status ≡ 0) ⊎ (c.status ≡ (control_row c.kind c.status).refusal)
  pub from_life : Within lives c.from_life
  pub to_life : IsLife (control_row c.kind c.status).has_life c.to_life

-- each field is in its range
abbrev pub InRange : Packet → Type 0
InRange (Message m) = MessageInRange m
InRange (Control c) = ControlInRange c

-- the lengths of a whole datagram: of a response the last part, and each other part is full
abbrev pub MessageLength : Kind → (size number length : ℕ) → Type 0
MessageLength Request size number n = n ≡ HEAD_BYTES + part_size size number
MessageLength Rfr size number n = n ≡ HEAD_BYTES
MessageLength Cr size number n = n ≡ HEAD_BYTES
MessageLength Response size number n =
    (n ≡ HEAD_BYTES + tail size) ⊎ ((PART_BYTES ≤ size) × (n ≡ MOST_DATAGRAM_BYTES))

-- a datagram of n bytes is as long as its header tells
abbrev pub HasLength : Packet → ℕ → Type 0
HasLength (Message m) n = MessageLength m.kind m.size m.number n
HasLength (Control c) n = n ≡ HEAD_BYTES

-- the bytes are a datagram of this packet: they begin with its header, its fields are in range, and
-- the length is right
pub record Spells (p : Packet) (bytes : List ℕ) : Type 0 where
  pub head : HasHead p bytes
  pub in_range : InRange p
  pub long : HasLength p (length bytes)
