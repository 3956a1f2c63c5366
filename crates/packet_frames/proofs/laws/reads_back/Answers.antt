-- Each packet is read again, behind its length or bare.
use Rattle.packet_frames.proofs.DatagramLemmas.{reads_back}
use Rattle.packet_frames.proofs.laws.reads_back.Goals as goal

pub returns : goal.returns
returns c = reads_back
