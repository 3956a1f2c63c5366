use Rattle.session_ends.proofs.JoinLemmas.{holds-both}
use Rattle.session_ends.proofs.queue.Queue.holds.Goals as goal

pub returns-else-holds : goal.returns-else-holds
returns-else-holds c =
    rw (
      holds-both c.args.owner.now c.args.number c.args.self.now.tx.items c.args.self.now.pacer.items,
      ← c.holds.ensures,
      c.if-holds.false,
    ) c.holds-else-holds.ensures
