use Rattle.session_ends.proofs.SideLemmas.{side-waits}
use Rattle.session_ends.proofs.ListLemmas.{get-there}
use Rattle.session_ends.proofs.side.enqueue_at.Goals as goal

pub returns-clause-waits : goal.returns-clause-waits
returns-clause-waits c =
    side-waits c.args.i c.args.waiting c.args.sides.now.items c.index_mut-side.result.now
    c.enqueue.new.self (get-there c.args.sides.now.items c.args.i c.index_mut-side.result.now
    c.requires.known c.index_mut-side.ensures.value) c.enqueue.result c.enqueue.ensures.waits
