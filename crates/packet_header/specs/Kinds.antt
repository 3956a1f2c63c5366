-- What the packets that carry a call are for.
use Rattle.std.specs.Prelude.{◌+◌, ◌==◌, ◌&&◌, Bool, true, false, not}
use Rattle.packet_header.specs.Parts.{packet_count}
use Rattle.packet_header.specs.declared.packet.Kind.{Kind}
use Rattle.packet_header.specs.declared.packet.Kind.TheVariants.{Request, Rfr, Cr, Response}
use Rattle.packet_header.specs.declared.packet.MessageHeader.{MessageHeader}

-- whether a packet asks for the next part of the response
abbrev pub is_rfr : Kind → Bool
is_rfr Rfr = true
is_rfr _ = false

-- whether it gives a credit back
abbrev pub is_cr : Kind → Bool
is_cr Cr = true
is_cr _ = false

-- whether it is a part of the response
abbrev pub is_response : Kind → Bool
is_response Response = true
is_response _ = false

-- whether a client sends it to a server
abbrev pub is_asking : Kind → Bool
is_asking Request = true
is_asking Rfr = true
is_asking _ = false

-- whether a packet is the last of its request
abbrev pub is_last : MessageHeader → Bool
is_last h = not (is_rfr h.kind) && (h.number + 1 == packet_count h.size)
