-- A datagram's packet is the one that it is read as.
use Rattle.packet_header.proofs.Readings.{one_packet}
use Rattle.packet_header.proofs.laws.no_bytes_spell_two_packets.Goals as goal

pub returns : goal.returns
returns c = one_packet
