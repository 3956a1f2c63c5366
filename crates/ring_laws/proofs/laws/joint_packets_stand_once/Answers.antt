use Rattle.ring_laws.proofs.JointTidy.{joint-tidy}
use Rattle.ring_laws.proofs.laws.joint_packets_stand_once.Goals as goal

pub returns : goal.returns
returns c = joint-tidy
