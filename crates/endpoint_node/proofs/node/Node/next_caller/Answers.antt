use Rattle.std.proofs.Common.{arith}
use Rattle.node_steps.proofs.PostCallers.{none-called}
use Rattle.endpoint_node.proofs.node.Node.next_caller.Goals as goal

pub returns-in_default : goal.returns-in_default
returns-in_default c =
    let none = rw c.in_default.is at c.next.ensures in
    rw (← c.self.view_is) (λ i low high.
    none-called c.self.inside.callers c.self.inside.store.clients i c.self.invariant.2
    (λ there. let h = none i there in absurd (omega (arith, h, low))))

pub returns-then-next-count : goal.returns-then-next-count
returns-then-next-count c =
    let next = rw c.in-Some.is at c.next.ensures in (
      omega (arith, next.1, c.from-next.ensures),
      c.if-next-count.true,
      rw (← c.self.view_is) (λ i low high.
          none-called c.self.inside.callers c.self.inside.store.clients i c.self.invariant.2
          (λ there. let h = next.2 i there low in absurd (omega (arith, h, high, c.from-next.ensures)))),
    )

pub returns : goal.returns
returns c =
    let next = rw c.in-Some.is at c.next.ensures in
    rw (← c.self.view_is) (λ i low high.
    none-called c.self.inside.callers c.self.inside.store.clients i c.self.invariant.2
    (λ there. let h = next.2 i there low in
    absurd (omega (arith, h, high, c.if-next-count.false, c.from-next.ensures))))
