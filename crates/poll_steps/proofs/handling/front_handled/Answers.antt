use Rattle.std.proofs.Common.{sym}
use Rattle.poll_steps.proofs.HandleLemmas.{next-read, next-unread}
use Rattle.poll_steps.proofs.handling.front_handled.Goals as goal

pub returns-in_default-clause-next : goal.returns-in_default-clause-next
returns-in_default-clause-next c =
    next-unread c.args.lists.now c.args.front.now c.args.facts.now c.bytes-bytes.result.now c.requires.front
    c.bytes-bytes.ensures (sym c.in_default.ensures)

pub returns-clause-next : goal.returns-clause-next
returns-clause-next c =
    next-read c.args.lists.now c.args.front.now c.in-Some.head c.args.facts.now c.in_ok-count.count
    c.bytes-bytes.result.now c.body.result.now c.requires.room c.requires.front c.bytes-bytes.ensures
    (sym c.in-Some.ensures) c.body.ensures c.in_ok-count.ensures.fronts
