use Rattle.world_laws.proofs.JointNodes.{joint-nodes}
use Rattle.world_laws.proofs.laws.joint_runs_nodes.Goals as goal

pub returns : goal.returns
returns c = joint-nodes
