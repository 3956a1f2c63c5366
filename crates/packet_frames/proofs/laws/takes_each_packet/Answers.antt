-- A packet has its first byte by its header, and is no longer than a header and a part.
use Rattle.packet_frames.proofs.DatagramLemmas.{takes_each_packet}
use Rattle.packet_frames.proofs.laws.takes_each_packet.Goals as goal

pub returns : goal.returns
returns c = takes_each_packet
