use Rattle.world_laws.proofs.JointCalls.{joint-in-order, wire-in-order}
use Rattle.world_laws.proofs.laws.joint_calls_are_in_order.Goals as goal

pub returns-clause-joint : goal.returns-clause-joint
returns-clause-joint c = joint-in-order

pub returns-clause-wires : goal.returns-clause-wires
returns-clause-wires c = wire-in-order
