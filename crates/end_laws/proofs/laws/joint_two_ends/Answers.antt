use Rattle.end_laws.proofs.JointLaws.{joint-ends}
use Rattle.end_laws.proofs.laws.joint_two_ends.Goals as goal

pub returns : goal.returns
returns c = joint-ends
