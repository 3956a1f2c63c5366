-- Which way a packet of a call goes.
use Rattle.std.specs.Prelude.{Bool, true, false}
use Rattle.packet_header.specs.declared.packet.Kind.{Kind}
use Rattle.packet_header.specs.declared.packet.Kind.TheVariants.{Request, Rfr}

-- whether a packet asks: it goes from a client end to a server end
abbrev pub is_ask : Kind → Bool
is_ask Request = true
is_ask Rfr = true
is_ask _ = false
