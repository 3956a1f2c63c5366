use Rattle.std.proofs.Common.{refl}
use Rattle.std.proofs.KnownBytes.{Keeps-refl}
use Rattle.rpc_tools.proofs.AuditLemmas.{answers, audits-said, audits-silent, said-risen}
use Rattle.rpc_tools.proofs.report.audit_report.Goals as goal

pub returns-in-Ok-clause-audits : goal.returns-in-Ok-clause-audits
returns-in-Ok-clause-audits g c =
    audits-said c.say.result c.in-Ok.line _ _ _ _ c.say.ensures
    (c.in-Ok.ensures.judges _ _ c.read_all-input.ensures.gives)

pub returns-in-Ok-clause-answers : goal.returns-in-Ok-clause-answers
returns-in-Ok-clause-answers g c = λ bytes line left says source sink memory.
    answers _ bytes line _ _ _ _ (returns-in-Ok-clause-audits g c) left says source sink memory

pub returns-in-Err-clause-audits : goal.returns-in-Err-clause-audits
returns-in-Err-clause-audits g c =
    audits-silent c.in-Err.status _ _ _ _ (c.in-Err.ensures.judges _ _ c.read_all-input.ensures.gives)
    (record { kept = Keeps-refl _; quiet = refl })

pub returns-in-Err-clause-answers : goal.returns-in-Err-clause-answers
returns-in-Err-clause-answers g c = λ bytes line left says source sink memory.
    answers _ bytes line _ _ _ _ (returns-in-Err-clause-audits g c) left says source sink memory

pub returns-in-Ok-clause-cause : goal.returns-in-Ok-clause-cause
returns-in-Ok-clause-cause g c =
    said-risen c.say.result c.in-Ok.line _ _ _ _ c.say.ensures
    (c.in-Ok.ensures.cause _ c.read_all-input.ensures.cause)

pub returns-in-Err-clause-cause : goal.returns-in-Err-clause-cause
returns-in-Err-clause-cause g c = c.in-Err.ensures.cause _ c.read_all-input.ensures.cause
