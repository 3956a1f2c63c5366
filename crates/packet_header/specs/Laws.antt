-- Two laws of the headers.
use Rattle.std.specs.Prelude.{◌≡◌, ◌<◌, ◌^◌, ℕ, List, length}
use Rattle.rpc_base.specs.declared.limits.TheConstants.{HEAD_BYTES}
use Rattle.packet_header.specs.declared.packet.Packet.{Packet}
use Rattle.packet_header.specs.declared.packet.Packet.TheVariants.{Message, Control}
use Rattle.packet_header.specs.Header.{AreBytes, HasHead, InRange, Spells}

-- a datagram is at most one packet
abbrev pub NoBytesSpellTwo : Type 0
NoBytesSpellTwo = (p q : Packet) (bytes : List ℕ) → Spells p bytes → Spells q bytes → p ≡ q

-- these are 20 bytes and the packet's header
abbrev pub IsHeadOf : Packet → List ℕ → Type 0
IsHeadOf p head = AreBytes head × (length head ≡ HEAD_BYTES) × HasHead p head

-- there is one header of this packet
abbrev pub HasOneHead : Packet → Type 0
HasOneHead p =
    (head : List ℕ) × IsHeadOf p head × ((other : List ℕ) → IsHeadOf p other → other ≡ head)

-- a request number is below 2^48
abbrev pub RequestFits : Packet → Type 0
RequestFits (Message m) = m.request < 2 ^ 48
RequestFits (Control c) = Unit {0}

-- each packet in range has one header
abbrev pub OneHead : Type 0
OneHead = (p : Packet) → InRange p → RequestFits p → HasOneHead p
