-- Both lists are what is taken out of the one datagram.
use Rattle.packet_frames.proofs.DatagramLemmas.{one_list_only}
use Rattle.packet_frames.proofs.laws.one_list_only.Goals as goal

pub returns : goal.returns
returns c = one_list_only
