-- Packets in one datagram: how they are put in, and what is taken out.
use Rattle.std.specs.Prelude.{◌≡◌, ◌≤◌, ◌<◌, ℕ, zero, suc, ◌+◌, ◌*◌, ◌/◌, ◌%◌, ◌&&◌, ◌==◌, nat_le}
use Rattle.std.specs.Prelude.{if◌then◌else◌, List, [], ◌∷◌, length, take, drop, flat_map}
use Rattle.std.specs.Prelude.{slice_index}
use Rattle.packet_header.specs.declared.layout.TheConstants.{MAGIC}
use Rattle.packet_frames.specs.declared.sizes.TheConstants.{FRAME_BYTE, MOST_PACKET_BYTES}

-- a packet behind its length, in two bytes, the high one first
abbrev pub item : List ℕ → List ℕ
item p = (length p / 256) ∷ (length p % 256) ∷ p

-- packets in a row, each behind its length
abbrev pub items : List (List ℕ) → List ℕ
items ps = flat_map item ps

-- the datagram of these packets: one goes bare, several stand behind a byte that begins no packet
abbrev pub datagram_of : List (List ℕ) → List ℕ
datagram_of [] = FRAME_BYTE ∷ []
datagram_of (p ∷ []) = p
datagram_of (p ∷ q ∷ ps) = FRAME_BYTE ∷ items (p ∷ q ∷ ps)

-- a packet of n bytes has no room behind these, where the datagram has at most so many; an empty
-- frame takes any packet
pub record HasNoRoom (ps : List (List ℕ)) (most n : ℕ) : Type 0 where
  pub several : 0 < length ps
  pub long : most < length (FRAME_BYTE ∷ items ps) + 2 + n

-- the first `most` packets of a row, up to the first place where no whole packet stands
abbrev pub first_packets : ℕ → List ℕ → List (List ℕ)
first_packets zero row = []
first_packets (suc most) [] = []
first_packets (suc most) (high ∷ []) = []
first_packets (suc most) (high ∷ low ∷ rest) =
    if nat_le (256 * high + low) MOST_PACKET_BYTES && nat_le (256 * high + low) (length rest)
    then take (256 * high + low) rest ∷ first_packets most (drop (256 * high + low) rest) else []

-- all packets of a row: it has fewer than bytes
abbrev pub packets_of : List ℕ → List (List ℕ)
packets_of row = first_packets (length row) row

-- a datagram that is no frame is one packet, unless it is empty or too long
abbrev pub bare_packet : List ℕ → List (List ℕ)
bare_packet d = if nat_le 1 (length d) && nat_le (length d) MOST_PACKET_BYTES then d ∷ [] else []

-- what is taken out of a datagram
abbrev pub packets_in : List ℕ → List (List ℕ)
packets_in [] = []
packets_in (first ∷ rest) =
    if first == FRAME_BYTE then packets_of rest else bare_packet (first ∷ rest)

-- what is left of a datagram once all before this place was taken out
abbrev pub packets_from : ℕ → List ℕ → List (List ℕ)
packets_from zero d = packets_in d
packets_from (suc at) d = packets_of (drop (suc at) d)

-- bytes that may go bare: they begin as each packet does
pub record IsPacket (p : List ℕ) : Type 0 where
  pub begins : slice_index p 0 ≡ MAGIC
  pub short : length p ≤ MOST_PACKET_BYTES
