-- The laws of frames.
use Rattle.std.specs.Prelude.{◌≡◌, ℕ, List}
use Rattle.std.specs.List.{All}
use Rattle.packet_header.specs.declared.packet.Packet.{Packet}
use Rattle.packet_header.specs.Header.{Spells}
use Rattle.packet_frames.specs.Frames.{IsPacket, datagram_of, packets_in}

-- what is taken out of the datagram of some packets are these packets, in order
abbrev pub ReadsBack : Type 0
ReadsBack = (ps : List (List ℕ)) → All IsPacket ps → packets_in (datagram_of ps) ≡ ps

-- a datagram is that of one list of packets only
abbrev pub OneListOnly : Type 0
OneListOnly =
    (ps qs : List (List ℕ)) → All IsPacket ps → All IsPacket qs → datagram_of ps ≡ datagram_of qs
    → ps ≡ qs

-- the bytes of each packet of the tables may go bare
abbrev pub TakesEachPacket : Type 0
TakesEachPacket = (p : Packet) (bytes : List ℕ) → Spells p bytes → IsPacket bytes
