use Rattle.world_laws.proofs.JointCalls.{joint-numbers}
use Rattle.world_laws.proofs.laws.joint_numbers_are_used_once.Goals as goal

pub returns : goal.returns
returns c = joint-numbers
