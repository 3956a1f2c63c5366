-- Why a datagram is refused: the first of these reasons that holds.
use Rattle.packet_header.specs.declared.layout.TheConstants.{MAGIC, PADDING, PADDING_BYTES}
use Rattle.std.specs.Prelude.{◌≡◌, ◌≢◌, ◌≤◌, ◌<◌, ℕ, ◌⊎◌, List, length, slice_index, Some}
use Rattle.rpc_base.specs.declared.limits.TheConstants.{HEAD_BYTES}
use Rattle.packet_header.specs.declared.packet.Kind.{Kind}
use Rattle.packet_header.specs.declared.packet.ControlKind.{ControlKind}
use Rattle.packet_header.specs.declared.packet.Packet.{Packet}
use Rattle.packet_header.specs.declared.packet.Packet.TheVariants.{Message, Control}
use Rattle.packet_header.specs.declared.packet.BadPacket.{BadPacket}
use Rattle.packet_header.specs.declared.packet.BadPacket.TheVariants.{Short, Magic, Field, Length}
use Rattle.packet_header.specs.declared.packet.BadPacket.TheVariants.{Kind as NoKind}
use Rattle.packet_header.specs.Header.{HasHead, HasLength, InRange, control_code, kind_code}
use Rattle.packet_header.specs.Header.{number_at}
use Rattle.packet_header.specs.Reading.{control_at, control_fields, first_outside, message_at}
use Rattle.packet_header.specs.Reading.{message_fields, wanted}

-- a whole header with the magic byte and this kind
pub record IsOfKind (code : ℕ) (bytes : List ℕ) : Type 0 where
  pub whole : HEAD_BYTES ≤ length bytes
  pub magic : slice_index bytes 0 ≡ MAGIC
  pub kind : slice_index bytes 1 ≡ code

-- the first field outside its range stands at this offset
abbrev pub FirstOutside : ℕ → List ℕ → Type 0
FirstOutside offset bytes =
    ((kind : Kind) × IsOfKind (kind_code kind) bytes
    × (first_outside (message_fields (message_at kind bytes)) ≡ Some offset))
    ⊎ ((kind : ControlKind) × IsOfKind (control_code kind) bytes
    × (first_outside
    (control_fields (control_at kind bytes) (number_at PADDING PADDING_BYTES bytes))
    ≡ Some offset))

-- the length that a refusal names
abbrev pub length_of : Packet → ℕ
length_of (Message m) = wanted m.kind m.size m.number
length_of (Control c) = HEAD_BYTES

-- a packet's header, and not its length
pub record HasOtherLength (want got : ℕ) (bytes : List ℕ) : Type 0 where
  pub packet : Packet
  pub head : HasHead packet bytes
  pub in_range : InRange packet
  pub wanted_length : want ≡ length_of packet
  pub own_length : got ≡ length bytes
  pub other : ¬ HasLength packet got

-- this is why the datagram is refused
abbrev pub Refuses : BadPacket → List ℕ → Type 0
Refuses (Short len) bytes = (len ≡ length bytes) × (length bytes < HEAD_BYTES)
Refuses (Magic byte) bytes =
    (HEAD_BYTES ≤ length bytes) × (byte ≡ slice_index bytes 0) × (byte ≢ MAGIC)
Refuses (NoKind byte) bytes = IsOfKind byte bytes × (7 < byte)
Refuses (Field offset) bytes = FirstOutside offset bytes
Refuses (Length want got) bytes = HasOtherLength want got bytes
