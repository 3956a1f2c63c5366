-- The bodies of datagrams, by the kind of their packets.
use Rattle.rpc_base.specs.declared.limits.TheConstants.{HEAD_BYTES}
use Rattle.std.proofs.Common.{◌≡◌, ◌≤◌, ◌+◌, ◌∙◌, ℕ, ◌⊎◌, inl, inr, List, [], length, arith, Some}
use Rattle.std.proofs.Math.ListN.{drop_of_length-le}
use Rattle.std.proofs.lemmas.List.{length-drop}
use Rattle.packet_header.specs.declared.packet.Kind.TheVariants.{Request, Rfr, Cr, Response}
use Rattle.packet_header.specs.declared.packet.MessageHeader.{MessageHeader}
use Rattle.packet_header.specs.Parts.{part_size, tail}
use Rattle.packet_header.specs.Header.{MessageLength}
use Rattle.packet_header.specs.Reading.{body_of, message_of}
use Rattle.packet_header.proofs.Readings.{message_of-spells}

-- a datagram is as long as its message header tells
pub message_of-length : (m : MessageHeader) (bytes : List ℕ) → message_of bytes ≡ Some m
    → MessageLength m.kind m.size m.number (length bytes)
message_of-length m bytes h = (message_of-spells m bytes h).long

body_size : (bytes : List ℕ) (n : ℕ) → length bytes ≡ HEAD_BYTES + n → length (body_of bytes) ≡ n
body_size bytes n h = length-drop HEAD_BYTES bytes ∙ omega arith

no_body : (bytes : List ℕ) → length bytes ≡ HEAD_BYTES → body_of bytes ≡ []
no_body bytes h = drop_of_length-le bytes {i = HEAD_BYTES} (omega arith)

-- a request packet has its part of the message
pub request-body : (m : MessageHeader) (bytes : List ℕ) → message_of bytes ≡ Some m
    → m.kind ≡ Request → length (body_of bytes) ≡ part_size m.size m.number
request-body m bytes h kind = body_size bytes _ (rw kind at (message_of-length m bytes h))

-- an RFR and a CR have none
pub rfr-body : (m : MessageHeader) (bytes : List ℕ) → message_of bytes ≡ Some m → m.kind ≡ Rfr → body_of bytes ≡ []
rfr-body m bytes h kind = no_body bytes (rw kind at (message_of-length m bytes h))

pub cr-body : (m : MessageHeader) (bytes : List ℕ) → message_of bytes ≡ Some m → m.kind ≡ Cr → body_of bytes ≡ []
cr-body m bytes h kind = no_body bytes (rw kind at (message_of-length m bytes h))

response_sizes : (bytes : List ℕ) (size : ℕ) → (length bytes ≡ HEAD_BYTES + tail size)
    ⊎ ((1024 ≤ size) × (length bytes ≡ 1044)) → (length (body_of bytes) ≡ tail size)
    ⊎ ((1024 ≤ size) × (length (body_of bytes) ≡ 1024))
response_sizes bytes size (inl last) = inl (body_size bytes _ last)
response_sizes bytes size (inr (full, long)) = inr (full, body_size bytes 1024 long)

-- a response packet has the last part of its message, or a full one
pub response-body : (m : MessageHeader) (bytes : List ℕ) → message_of bytes ≡ Some m
    → m.kind ≡ Response → (length (body_of bytes) ≡ tail m.size)
    ⊎ ((1024 ≤ m.size) × (length (body_of bytes) ≡ 1024))
response-body m bytes h kind = response_sizes bytes m.size (rw kind at (message_of-length m bytes h))
