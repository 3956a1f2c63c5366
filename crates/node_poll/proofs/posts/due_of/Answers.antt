use Rattle.session_ends.proofs.ListLemmas.{get-there}
use Rattle.node_steps.proofs.PostPaces.{found-paced, no-rate, some-rate}
use Rattle.std.proofs.Common.{Some, ap, false, true, refl}
use Rattle.node_poll.proofs.posts.due_of.Goals as goal

pub returns-then-pace-eq0 : goal.returns-then-pace-eq0
returns-then-pace-eq0 c =
    let ps = c.args.paces.now.items in
    let p = c.index-pace.result.now in
    let at = get-there ps c.args.i p c.requires.known c.index-pace.ensures in
    rw (found-paced c.args.i ps p c.requires.numbered at false (no-rate p c.if-pace-eq0.true)) refl

pub returns : goal.returns
returns c =
    let ps = c.args.paces.now.items in
    let p = c.index-pace.result.now in
    let at = get-there ps c.args.i p c.requires.known c.index-pace.ensures in
    rw (found-paced c.args.i ps p c.requires.numbered at true (some-rate p c.if-pace-eq0.false))
    (ap Some c.max.ensures)
