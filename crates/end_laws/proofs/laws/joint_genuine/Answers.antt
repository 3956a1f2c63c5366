use Rattle.end_laws.proofs.JointGenuine.{joint-genuine}
use Rattle.end_laws.proofs.laws.joint_genuine.Goals as goal

pub returns : goal.returns
returns c = joint-genuine
