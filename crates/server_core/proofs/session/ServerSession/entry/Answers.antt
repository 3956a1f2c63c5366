use Rattle.std.proofs.Common.{◌≡◌, Some, sym, ap, ◌∙◌, rules}
use Rattle.server_core.specs.Session.{newest}
use Rattle.server_core.specs.contracts.session.ServerSession.{the_view}
use Rattle.server_core.proofs.BeginLemmas.{reply-stands, with-reply}
use Rattle.server_core.proofs.session.ServerSession.entry.Goals as goal

pub returns-clause-stands : goal.returns-clause-stands
returns-clause-stands c =
    let slot : newest c.args.request (the_view c.self.inside) ≡ Some c.in-Some.newest =
    rw c.slot.ensures at (sym c.in-Some.ensures) in
    let same : c.in-Some.newest.number ≡ c.args.request =
    sym c.get.ensures.value ∙ c.if-get.false ∙ c.get-2.ensures.value in
    let reply = with-reply c.in-Some.newest c.args.number (search rules) in
    rw (← c.self.view_is, c.entry.ensures) (reply-stands (the_view c.self.inside) c.in-Some.newest
    c.args.number c.self.invariant (ap (λ n. newest n (the_view c.self.inside)) same ∙ slot)
    reply.0 reply.1)
