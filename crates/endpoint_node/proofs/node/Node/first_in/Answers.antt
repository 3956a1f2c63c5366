use Rattle.std.proofs.Common.{arith}
use Rattle.node_steps.proofs.DueLemmas.{rests-before}
use Rattle.endpoint_node.proofs.node.Node.first_in.Goals as goal

pub returns : goal.returns
returns c =
    let i = c.halves.invariant in (
      λ _. omega (arith, i.1, i.0.order),
      i.2,
      i.0.late,
      λ t from low. rests-before t c.halves.span.resting
          (omega (arith, low, c.halves-test.false, i.0.order)) c.args.self.now.lists i.0.rests,
    )
