use Rattle.history_audit.proofs.VerdictLemmas.{reports-tell}
use Rattle.history_audit.proofs.laws.reports_tell.Goals as goal

pub returns : goal.returns
returns c = reports-tell
