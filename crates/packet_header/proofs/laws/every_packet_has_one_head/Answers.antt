-- A packet's header is made of its fields in turn, and there is no other.
use Rattle.packet_header.proofs.NewHeads.{has_one_head}
use Rattle.packet_header.proofs.laws.every_packet_has_one_head.Goals as goal

pub returns : goal.returns
returns c = has_one_head
