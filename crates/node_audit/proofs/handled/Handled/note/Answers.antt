use Rattle.std.proofs.Common.{◌∙◌}
use Rattle.node_audit.proofs.HandledLemmas.{total-next}
use Rattle.node_audit.proofs.handled.Handled.note.Goals as goal

pub returns-clause-noted : goal.returns-clause-noted
returns-clause-noted c = λ x k. record {
  worked = c.in_ok-note.ensures.noted x k.worked;
  total = c.total_after-self.ensures ∙ total-next x c.args.fact.now c.args.self.now.total k.total;
}
