use Rattle.world_laws.proofs.JointCalls.{joint-once}
use Rattle.world_laws.proofs.laws.joint_happens_at_most_once.Goals as goal

pub returns : goal.returns
returns c = joint-once
