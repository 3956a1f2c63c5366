use Rattle.world_laws.proofs.JointCalls.{joint-calls-once, wire-calls-once}
use Rattle.world_laws.proofs.laws.joint_calls_run_once.Goals as goal

pub returns-clause-joint : goal.returns-clause-joint
returns-clause-joint c = joint-calls-once

pub returns-clause-wires : goal.returns-clause-wires
returns-clause-wires c = wire-calls-once
