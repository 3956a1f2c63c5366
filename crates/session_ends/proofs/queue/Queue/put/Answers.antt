use Rattle.std.proofs.Common.{refl}
use Rattle.session_ends.proofs.JoinLemmas.{added-calls, put-behind, put-paced, queue-behind}
use Rattle.session_ends.proofs.JoinLemmas.{queue-paced}
use Rattle.session_ends.proofs.queue.Queue.put.Goals as goal

pub returns-in-Some-clause-put : goal.returns-in-Some-clause-put
returns-in-Some-clause-put c =
    rw c.add.ensures (put-paced c.args.self.now.tx.items c.args.self.now.pacer.items c.in-Some.due c.args.entry)

pub returns-in-Some-clause-queue : goal.returns-in-Some-clause-queue
returns-in-Some-clause-queue c =
    rw (c.in-Some.is, c.add.ensures)
    (queue-paced c.args.self.now.tx.items c.args.self.now.pacer.items c.in-Some.due c.args.entry)

pub returns-in-Some-clause-paces : goal.returns-in-Some-clause-paces
returns-in-Some-clause-paces c =
    rw c.add.ensures (record {
      calls = added-calls _ c.in-Some.due c.args.entry c.args.self.now.pacer.items
          ((rw c.in-Some.is at c.requires.call) refl) c.requires.paces.calls;
      half = c.requires.paces.half;
    })

pub returns-in-None-clause-put : goal.returns-in-None-clause-put
returns-in-None-clause-put c =
    rw c.push.ensures (put-behind c.args.self.now.tx.items c.args.self.now.pacer.items c.args.entry)

pub returns-in-None-clause-queue : goal.returns-in-None-clause-queue
returns-in-None-clause-queue c =
    rw (c.in-None.is, c.push.ensures)
    (queue-behind c.args.self.now.tx.items c.args.self.now.pacer.items c.args.entry)
