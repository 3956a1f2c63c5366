use Rattle.std.proofs.Common.{sym, ap, ◌∙◌}
use Rattle.std.specs.Option.{option_copied}
use Rattle.session_ends.proofs.JoinLemmas.{front-due, front-none, front-paced}
use Rattle.session_ends.proofs.queue.Queue.front.Goals as goal

pub returns-in-None-clause-front : goal.returns-in-None-clause-front
returns-in-None-clause-front c =
    front-paced c.args.now c.args.self.now.tx.items c.args.self.now.pacer.items
    (sym c.front.ensures ∙ ap option_copied c.in-None.is) c.paced_due.result c.paced_due.ensures.first

pub returns-in-None-clause-due : goal.returns-in-None-clause-due
returns-in-None-clause-due c =
    front-due c.args.now c.args.self.now.tx.items c.args.self.now.pacer.items
    (sym c.front.ensures ∙ ap option_copied c.in-None.is) c.paced_due.result c.paced_due.ensures.due

pub returns-in-None-clause-none : goal.returns-in-None-clause-none
returns-in-None-clause-none c =
    front-none c.args.now c.args.self.now.tx.items c.args.self.now.pacer.items
    (sym c.front.ensures ∙ ap option_copied c.in-None.is) c.paced_due.result c.paced_due.ensures.none
