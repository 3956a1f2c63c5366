use Rattle.history_audit.proofs.ReadingLemmas.{judged-ok}
use Rattle.history_audit.proofs.report.judged.Goals as goal

pub returns-clause-audited : goal.returns-clause-audited
returns-clause-audited c =
    judged-ok c.args.bytes.now c.in-Some.text.now c.audited_below.result c.requires c.in-Some.ensures.some
    c.audited_below.ensures.audited
