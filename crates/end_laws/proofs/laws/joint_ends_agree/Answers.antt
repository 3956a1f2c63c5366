use Rattle.end_laws.proofs.JointLaws.{joint-agree}
use Rattle.end_laws.proofs.laws.joint_ends_agree.Goals as goal

pub returns : goal.returns
returns c = joint-agree
