use Rattle.std.proofs.Common.{sym, ◌∙◌, true≢false}
use Rattle.history_audit.proofs.AuditorLemmas.{verdict-lawful, verdict-unended}
use Rattle.history_audit.proofs.auditor.Auditor.ended.Goals as goal

pub returns-then-is_whole : goal.returns-then-is_whole
returns-then-is_whole c = λ bytes h is busy counted fair fronts.
    verdict-lawful bytes h _ is counted fair ((c.is_whole.ensures h busy).0 c.if-is_whole.true)

pub returns-else-is_whole : goal.returns-else-is_whole
returns-else-is_whole c = λ bytes h is busy counted fair fronts.
    verdict-unended bytes h _ is counted fronts
    (λ w. true≢false (sym ((c.is_whole.ensures h busy).1 w) ∙ c.if-is_whole.false))
