use Rattle.std.proofs.Common.{◌≡◌, List, length, sym, ap, ◌∙◌, eq-eqb}
use Rattle.std.proofs.lemmas.Bool.{false≢true}
use Rattle.node_steps.proofs.StatusSteps.{no-arrivals}
use Rattle.endpoint_node.proofs.node.Node.quiet.Goals as goal
use Rattle.endpoint_node.proofs.node.Node.quiet.Goals.{then-is_empty, else-is_empty}
use Rattle.endpoint_node.proofs.node.Node.quiet.Goals.{then-is_empty-2, else-is_empty-2}

pub returns-else-queued-eq0 : goal.returns-else-queued-eq0
returns-else-queued-eq0 c = (
  λ yes. absurd (false≢true (sym c.if-queued-eq0.false ∙ yes)),
  λ quiet. (let still = rw (← c.self.view_is) at quiet in elim c.if-is_empty-2.branch [
    | then-is_empty-2 w ↦ (
        let none : w.queued.result ≡ 0 = w.queued.ensures ∙ ap (λ (qs : List _). length qs) still.queued in
        absurd (false≢true (sym c.if-queued-eq0.false ∙ w.value-is
        ∙ eq-eqb w.queued.result 0 none)))
    | else-is_empty-2 w ↦ elim c.if-is_empty.branch [
      | then-is_empty v ↦ absurd (false≢true (sym w.if-is_empty-2.false ∙ v.value-is
          ∙ v.is_empty-then-is_empty.ensures.1 still.inbox))
      | else-is_empty v ↦ absurd (false≢true (sym v.if-is_empty.false
          ∙ c.is_empty.ensures.1 (no-arrivals c.self.inside.rx.items still.ring)))
    ]
  ]),
)
