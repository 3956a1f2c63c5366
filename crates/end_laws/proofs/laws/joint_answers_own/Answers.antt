use Rattle.end_laws.proofs.JointOwn.{joint-own, plain-own}
use Rattle.end_laws.proofs.WireOwn.{wire-own}
use Rattle.end_laws.proofs.laws.joint_answers_own.Goals as goal

pub returns-clause-joint : goal.returns-clause-joint
returns-clause-joint c = joint-own

pub returns-clause-plain : goal.returns-clause-plain
returns-clause-plain c = plain-own

pub returns-clause-wires : goal.returns-clause-wires
returns-clause-wires c = wire-own
