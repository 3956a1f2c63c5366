use Rattle.std.proofs.Common.{sym}
use Rattle.client_core.specs.Replies.{is_request}
use Rattle.client_core.proofs.EntryLemmas.{entry-stands-at}
use Rattle.client_core.proofs.session.ClientSession.entry.Goals as goal

pub returns-clause-stands : goal.returns-clause-stands
returns-clause-stands c =
    rw (← c.self.view_is, c.entry.ensures) (entry-stands-at _ (is_request c.args.request)
    c.in-Some.call c.args.peer c.args.number c.self.invariant.1 (sym c.in-Some.ensures)
    c.if-number-call.false)
