-- The tables of the fields' ranges: a row for each kind of packet.
use Rattle.std.specs.Prelude.{ℕ, ◌-◌, ◌≤◌, nat_le, ◌&&◌, not, ◌==◌, Bool, true, false}
use Rattle.packet_header.specs.declared.packet.Kind.{Kind}
use Rattle.packet_header.specs.declared.packet.Kind.TheVariants.{Request, Rfr, Cr, Response}
use Rattle.packet_header.specs.declared.packet.ControlKind.{ControlKind}
use Rattle.packet_header.specs.declared.packet.ControlKind.TheVariants.{ConnectRequest}
use Rattle.packet_header.specs.declared.packet.ControlKind.TheVariants.{ConnectReply}
use Rattle.packet_header.specs.declared.packet.ControlKind.TheVariants.{DisconnectRequest}
use Rattle.packet_header.specs.declared.packet.ControlKind.TheVariants.{DisconnectReply}
use Rattle.packet_header.specs.declared.ranges.Span.{Span}
use Rattle.packet_header.specs.declared.ranges.ControlRow.{ControlRow}
use Rattle.packet_header.specs.Parts.{packet_count}
use Rattle.rpc_base.specs.declared.limits.TheConstants.{MOST_CREDITS, MOST_MESSAGE_BYTES}
use Rattle.rpc_base.specs.declared.limits.TheConstants.{SESSION_NUMBERS}

-- the numbers from low to high, both among them
abbrev pub span : ℕ → ℕ → Span
span low high = record { lowest = low; highest = high }

-- a number is in a range
abbrev pub Within : Span → ℕ → Type 0
Within s n = (s.lowest ≤ n) × (n ≤ s.highest)

-- the same as a test
abbrev pub within : Span → ℕ → Bool
within s n = nat_le s.lowest n && nat_le n s.highest

-- session numbers: all but 0xFFFF
abbrev pub sessions : Span
sessions = span 0 (SESSION_NUMBERS - 1)

-- lives: all 4-byte numbers but 0
abbrev pub lives : Span
lives = span 1 4294967295

-- the ranges of a message header's fields that differ from kind to kind
pub record MessageRow : Type 0 where
  pub types : Span
  pub sizes : Span
  pub numbers : Span

-- types, sizes and packet numbers of the packets that carry a call; size is the size field's number
abbrev pub message_row : Kind → ℕ → MessageRow
message_row Request size =
    record {
      types = span 0 255;
      sizes = span 0 MOST_MESSAGE_BYTES;
      numbers = span 0
          (packet_count size - 1);
    }
message_row Rfr size = record { types = span 0 0; sizes = span 0 0; numbers = span 1 2046 }
message_row Cr size = record { types = span 0 0; sizes = span 0 0; numbers = span 0 1022 }
message_row Response size =
    record { types = span 0 255; sizes = span 0 MOST_MESSAGE_BYTES; numbers = span 0 2046 }

-- whether there is a server session, the credits, the status besides 0, and whether the receiver's
-- life is known, of the packets that open and close sessions; status is the status field's number
abbrev pub control_row : ControlKind → ℕ → ControlRow
control_row ConnectRequest status =
    record { has_server = false; credits = span 1 MOST_CREDITS; refusal = 0; has_life = false }
control_row ConnectReply status =
    record {
      has_server = not (status == 1);
      credits = span 1 MOST_CREDITS;
      refusal = 1;
      has_life = true;
    }
control_row DisconnectRequest status =
    record { has_server = true; credits = span 0 0; refusal = 0; has_life = true }
control_row DisconnectReply status =
    record { has_server = true; credits = span 0 0; refusal = 2; has_life = true }
