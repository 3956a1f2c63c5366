-- A reply is queued only to a packet that was taken, so its packet is there; and no packet tells of a clock.
use Rattle.node_laws.proofs.SendsLaws.{sends_own}
use Rattle.node_laws.proofs.laws.sends_its_own.Goals as goal

pub returns : goal.returns
returns c = sends_own
