use Rattle.std.proofs.Common.{◌∙◌, sym}
use Rattle.history_audit.proofs.PollLemmas.{next-net, next-ended, next-polls, next-quiet, open-next}
use Rattle.history_audit.proofs.polls.OpenPolls.note.Goals as goal

pub returns-in_default-clause-noted : goal.returns-in_default-clause-noted
returns-in_default-clause-noted c = λ h a.
    open-next _ _ h c.args.fact.now (λ n. next-net n c.args.fact.now _ c.in_default.ensures.net) a

pub returns-in_ok-open-clause-noted : goal.returns-in_ok-open-clause-noted
returns-in_ok-open-clause-noted c = λ h a.
    open-next _ _ h c.args.fact.now (λ n. c.in_ok-open.ensures.more n
    ∙ next-polls n _ c.args.fact.now _ c.in-Some.ensures.node (sym c.is_polls.ensures ∙ c.if-is_polls.true)) a

pub returns-then-ends_poll-clause-noted : goal.returns-then-ends_poll-clause-noted
returns-then-ends_poll-clause-noted c = λ h a.
    open-next _ _ h c.args.fact.now (λ n. c.shut.ensures n
    ∙ next-ended n _ c.args.fact.now _ c.in-Some.ensures.node
    (sym c.is_polls.ensures ∙ c.if-is_polls.false) (sym c.ends_poll.ensures ∙ c.if-ends_poll.true)) a

pub returns-else-ends_poll-clause-noted : goal.returns-else-ends_poll-clause-noted
returns-else-ends_poll-clause-noted c = λ h a.
    open-next _ _ h c.args.fact.now (λ n.
    next-quiet n _ c.args.fact.now _ c.in-Some.ensures.node
    (sym c.is_polls.ensures ∙ c.if-is_polls.false) (sym c.ends_poll.ensures ∙ c.if-ends_poll.false)) a
