-- Bytes that are the header of a packet.
use Rattle.std.specs.Prelude.{ℕ, List}
use Rattle.packet_header.specs.declared.packet.Packet.{Packet}
use Rattle.packet_header.specs.Header.{InRange}
use Rattle.packet_header.specs.Laws.{IsHeadOf}

-- and each field of the packet is in its range
abbrev pub IsSpelled : Packet → (head : List ℕ) → Type 0
IsSpelled packet head = InRange packet × IsHeadOf packet head
