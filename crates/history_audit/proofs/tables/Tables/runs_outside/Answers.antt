use Rattle.std.proofs.Common.{sym, ◌∙◌}
use Rattle.history_audit.proofs.FairLemmas.{runs-busy, runs-shut}
use Rattle.history_audit.proofs.tables.Tables.runs_outside.Goals as goal

pub returns-then-is_open : goal.returns-then-is_open
returns-then-is_open c = λ h keeps busy.
    runs-busy h _ (sym (c.is_open.ensures h busy) ∙ c.if-is_open.true)

pub returns : goal.returns
returns c = λ h keeps busy.
    let shut = sym (c.is_open.ensures h busy) ∙ c.if-is_open.false in
    runs-shut h _ _ shut (c.is_run.ensures h keeps shut)
