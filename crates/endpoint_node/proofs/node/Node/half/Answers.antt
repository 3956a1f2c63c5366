use Rattle.std.proofs.Common.{arith}
use Rattle.endpoint_node.proofs.node.Node.half.Goals as goal

pub returns-then-is_due-clause-between : goal.returns-then-is_due-clause-between
returns-then-is_due-clause-between c = record {
  order = omega (arith, c.requires.wide);
  rests = c.requires.between.rests;
  late = rw c.if-is_due.true at c.is_due.ensures;
}

pub returns-clause-between : goal.returns-clause-between
returns-clause-between c = record {
  order = omega (arith, c.requires.wide);
  rests = rw c.if-is_due.false at c.is_due.ensures;
  late = c.requires.between.late;
}
