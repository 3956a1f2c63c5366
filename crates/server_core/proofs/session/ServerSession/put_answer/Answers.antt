use Rattle.std.proofs.Common.{◌≡◌, ◌-◌, ◌∙◌, ap, arith}
use Rattle.buffer_pool.specs.Pool.{filled, held}
use Rattle.server_core.specs.Replies.{entry_at}
use Rattle.server_core.specs.Session.{answer_of}
use Rattle.server_core.specs.contracts.session.ServerSession.{the_view}
use Rattle.server_core.proofs.WorkedLemmas.{gives-answer, put-session}
use Rattle.server_core.proofs.session.ServerSession.put_answer.Goals as goal

pub overflow_sub-number : goal.overflow_sub-number
overflow_sub-number c = c.requires.awaited.turn.some

pub worked-request-requires : goal.worked-request-requires
worked-request-requires c =
    omega (arith, c.requires.awaited.turn.few (ap answer_of c.requires.awaited.working))

pub invariant_of-self : goal.invariant_of-self
invariant_of-self c =
    let awaited = rw (← c.self.view_is) at c.requires.awaited in
    let put = c.put_message-answer.ensures in
    rw (c.replace.ensures, c.worked-request.ensures) (put-session c.args.pool.now
    (the_view c.self.inside) c.args.request c.put_message-answer.result c.args.answer
    c.self.invariant awaited put.place (rw put.pool at put.there) put.size put.fits (λ own. cc)
    c.requires.answer)

pub returns : goal.returns
returns c =
    let s = the_view c.self.inside in
    let q = c.args.request in
    let a = c.put_message-answer.result in
    let pool = c.args.pool.now in
    let awaited = rw (← c.self.view_is) at c.requires.awaited in
    let put = c.put_message-answer.ensures in
    let after : c.hold.new.self ≡ held a.place (filled a.place c.args.answer pool) =
    c.hold.ensures ∙ ap (held a.place) put.pool in
    let entry = c.entry-reply.ensures
    ∙ ap (entry_at s.number s.peer (q.taken - 1)) c.worked-request.ensures in
    rw (c.replace.ensures, c.worked-request.ensures, after, ← c.self.view_is) (gives-answer pool s q
    a c.args.answer c.self.invariant awaited put.place (rw put.pool at put.there) put.size put.fits
    (λ own. cc) c.requires.answer c.entry-reply.result entry)
