use Rattle.history_audit.proofs.VerdictLemmas.{no-both}
use Rattle.history_audit.proofs.laws.no_report_is_both.Goals as goal

pub returns : goal.returns
returns c = no-both
