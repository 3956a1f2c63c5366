use Rattle.session_ends.proofs.ListLemmas.{get-there, set-own}
use Rattle.node_steps.proofs.PostPaces.{changed-paced, no-rate, some-rate}
use Rattle.std.proofs.Common.{false, true, refl}
use Rattle.node_poll.proofs.posts.delay.Goals as goal

pub returns-then-pace-eq0-clause-delays : goal.returns-then-pace-eq0-clause-delays
returns-then-pace-eq0-clause-delays c =
    let ps = c.args.paces.now.items in
    let p = c.index_mut-pace.result.now in
    let at = get-there ps c.args.i p c.requires.pace.known c.index_mut-pace.ensures.value in
    rw (changed-paced c.args.i ps p c.requires.pace.numbered at _ false (no-rate p c.if-pace-eq0.true))
    (set-own ps c.args.i p at)

pub returns-clause-delays : goal.returns-clause-delays
returns-clause-delays c =
    let ps = c.args.paces.now.items in
    let p = c.index_mut-pace.result.now in
    let at = get-there ps c.args.i p c.requires.pace.known c.index_mut-pace.ensures.value in
    rw (changed-paced c.args.i ps p c.requires.pace.numbered at _ true (some-rate p c.if-pace-eq0.false))
    (rw (c.saturating_add-pace.ensures, c.max-due.ensures, c.div_ceil.ensures, c.from.ensures) refl)
