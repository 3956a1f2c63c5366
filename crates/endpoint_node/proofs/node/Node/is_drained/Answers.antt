use Rattle.std.proofs.Common.{sym, ◌∙◌}
use Rattle.std.proofs.lemmas.Bool.{false≢true}
use Rattle.node_steps.proofs.StatusSteps.{no-arrivals}
use Rattle.endpoint_node.proofs.node.Node.is_drained.Goals as goal

pub returns-else-is_empty : goal.returns-else-is_empty
returns-else-is_empty c = (
  λ yes. absurd (false≢true (sym c.if-is_empty.false ∙ yes)),
  λ drained. (let still = rw (← c.self.view_is) at drained in
      absurd (false≢true (sym c.if-is_empty.false
      ∙ c.is_empty.ensures.1 (no-arrivals c.self.inside.rx.items still.ring)))),
)
