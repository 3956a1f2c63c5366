use Rattle.std.proofs.Common.{subst, sym}
use Rattle.count_line.specs.declared.audit.AuditLine.{AuditLine}
use Rattle.rpc_tools.proofs.AuditLemmas.{says-verdict}
use Rattle.rpc_tools.specs.Audits.{Says}
use Rattle.rpc_tools.proofs.report.judge_bytes.Goals as goal

pub returns-in-Ok-clause-says : goal.returns-in-Ok-clause-says
returns-in-Ok-clause-says c = λ few.
    subst (λ (l : AuditLine). Says c.args.bytes.now l) (sym c.line_of.ensures)
    (says-verdict c.args.bytes.now c.in-Ok.verdict few c.in-Ok.ensures.verdict)
