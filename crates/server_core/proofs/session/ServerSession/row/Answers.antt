use Rattle.std.proofs.Common.{sym, ◌∙◌}
use Rattle.server_core.proofs.RowLemmas.{row-shown}
use Rattle.server_core.proofs.session.ServerSession.row.Goals as goal

pub returns-clause-rule : goal.returns-clause-rule
returns-clause-rule c = λ pool keeps.
    row-shown pool c.args.mode c.args.jobs_full c.args.head.now c.args.self.now keeps ∙ sym c.slot_row.ensures.row
