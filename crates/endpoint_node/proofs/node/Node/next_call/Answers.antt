use Rattle.std.proofs.Common.{arith}
use Rattle.node_steps.proofs.CallSteps.{few-asked}
use Rattle.endpoint_node.proofs.node.Node.next_call.Goals as goal

pub returns-clause-few : goal.returns-clause-few
returns-clause-few c =
    let kept = c.self.invariant.0.kept in
    omega (
      arith,
      kept.asked,
      few-asked c.self.inside.store.clients kept.few,
      c.clients-at_most_65536.ensures.count,
      c.clients-at_most_65536.ensures.few,
    )

pub invariant_of-result : goal.invariant_of-result
invariant_of-result c =
    let kept = c.self.invariant.0.kept in
    omega (
      arith,
      kept.asked,
      few-asked c.self.inside.store.clients kept.few,
      c.clients-at_most_65536.ensures.count,
      c.clients-at_most_65536.ensures.few,
    )
