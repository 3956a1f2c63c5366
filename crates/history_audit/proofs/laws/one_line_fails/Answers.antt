use Rattle.history_audit.proofs.VerdictLemmas.{one-line}
use Rattle.history_audit.proofs.laws.one_line_fails.Goals as goal

pub returns : goal.returns
returns c = one-line
