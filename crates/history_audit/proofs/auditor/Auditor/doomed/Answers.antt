use Rattle.std.proofs.Common.{sym, ◌∙◌, true≢false}
use Rattle.history_audit.proofs.AuditorLemmas.{finds-doomed, finds-whole}
use Rattle.history_audit.proofs.auditor.Auditor.doomed.Goals as goal

pub returns-then-is_whole : goal.returns-then-is_whole
returns-then-is_whole c = λ h busy counted wrong before.
    finds-whole c.args.self.now.tables h _ c.args.wrong counted wrong before
    ((c.is_whole.ensures h busy).0 c.if-is_whole.true)

pub returns-else-is_whole : goal.returns-else-is_whole
returns-else-is_whole c = λ h busy counted wrong before.
    finds-doomed c.args.self.now.tables h c.args.wrong wrong before
    (λ w. true≢false (sym ((c.is_whole.ensures h busy).1 w) ∙ c.if-is_whole.false))
