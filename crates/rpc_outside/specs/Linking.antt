-- What a link does with datagrams: it sends some, and gives out those that wait.
use Rattle.std.specs.Prelude.{◌≡◌, ◌≢◌, ℕ, ◌≤◌, List, [], ◌∷◌, ◌++◌, length, take, Option}
use Rattle.std.specs.Prelude.{option_map, ⊤}
use Rattle.std.specs.List.{All}
use Rattle.rpc_outside.specs.declared.link.TheConstants.{MOST_LINK_BYTES}
use Rattle.rpc_outside.specs.declared.link.Got.{Got}
use Rattle.rpc_outside.specs.declared.link.Got.TheVariants.{Packet, Nothing}

-- the peer of a datagram, and its bytes
abbrev pub Carried : Type 0
Carried = ℕ × List ℕ

-- each of these datagrams is one that a link may carry
abbrev pub AreCarried : List Carried → Type 0
AreCarried datagrams = All (λ d. length d.1 ≤ MOST_LINK_BYTES) datagrams

-- a datagram behind those that are told
abbrev pub with_last : Carried → Option (List Carried) → Option (List Carried)
with_last datagram told = option_map (λ ds. ds ++ datagram ∷ []) told

-- a datagram in front of those that are told
abbrev pub with_front : Carried → Option (List Carried) → Option (List Carried)
with_front datagram told = option_map (λ ds. datagram ∷ ds) told

-- where a datagram came, this holds of its peer and its length
abbrev pub IfPacket : Got → (ℕ → ℕ → Type 0) → Type 0
IfPacket (Packet peer len) P = P peer len
IfPacket Nothing P = ⊤

-- a datagram came: its bytes are the front of `out`, it was the first of those that waited, and is
-- the last of those received
pub record Comes {L : Type 0} (waiting received : L → Option (List Carried)) (old new : L)
    (out : List ℕ) (peer len : ℕ) : Type 0 where
  pub within : len ≤ MOST_LINK_BYTES
  pub front : waiting old ≡ with_front (peer, take len out) (waiting new)
  pub last : received new ≡ with_last (peer, take len out) (received old)

-- no datagram came
pub record NoneComes {L : Type 0} (waiting received : L → Option (List Carried)) (old new : L)
    : Type 0 where
  pub waits : waiting new ≡ waiting old
  pub stays : received new ≡ received old

-- the bound address and the numbers of addresses stay
pub record KeepsAddresses {L : Type 0} (bound : L → Option (List ℕ))
    (numbers : L → List ℕ → Option ℕ) (old new : L) : Type 0 where
  pub binds : bound new ≡ bound old
  pub counts : numbers new ≡ numbers old

-- every other address keeps its number
abbrev pub OthersKeep : List ℕ → (old new : List ℕ → Option ℕ) → Type 0
OthersKeep address old new = (other : List ℕ) → other ≢ address → new other ≡ old other

-- what came and what still waits, of the datagrams that a link in memory was made with
pub record Inbound : Type 0 where
  pub received : List Carried
  pub waiting : List Carried

abbrev pub inbound : List Carried → List Carried → Inbound
inbound received waiting = record { received = received; waiting = waiting }
