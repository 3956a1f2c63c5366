use Rattle.std.proofs.Common.{sym, ap, ◌∙◌}
use Rattle.packet_rings.specs.Rings.{ring}
use Rattle.session_ends.specs.Joined.{joined}
use Rattle.session_ends.proofs.JoinLemmas.{leaves-paced, leaves-ready, left-calls, nearest-of}
use Rattle.session_ends.proofs.JoinLemmas.{own-of, unchanged-of}
use Rattle.session_ends.proofs.queue.Queue.flush.Goals as goal

pub returns-then-is_least_ready-clause-taken : goal.returns-then-is_least_ready-clause-taken
returns-then-is_least_ready-clause-taken c =
    let h = leaves-ready c.args.owner.now c.args.self.now.tx.items c.args.self.now.pacer.items
    (sym c.is_least_ready.ensures ∙ c.if-is_least_ready.true) in
    c.flush.ensures.taken ∙ sym h.least_is

pub returns-then-is_least_ready-clause-left : goal.returns-then-is_least_ready-clause-left
returns-then-is_least_ready-clause-left c =
    let h = leaves-ready c.args.owner.now c.args.self.now.tx.items c.args.self.now.pacer.items
    (sym c.is_least_ready.ensures ∙ c.if-is_least_ready.true) in
    rw c.flush.ensures.left (ap (λ es. ring es c.args.self.now.tx.size) (sym h.left))

pub returns-then-is_least_ready-clause-queue : goal.returns-then-is_least_ready-clause-queue
returns-then-is_least_ready-clause-queue c =
    let h = leaves-ready c.args.owner.now c.args.self.now.tx.items c.args.self.now.pacer.items
    (sym c.is_least_ready.ensures ∙ c.if-is_least_ready.true) in
    rw c.flush.ensures.left (sym h.queue_is)

pub returns-clause-taken : goal.returns-clause-taken
returns-clause-taken c =
    let h = leaves-paced c.args.owner.now c.args.self.now.tx.items c.args.self.now.pacer.items
    (sym c.is_least_ready.ensures ∙ c.if-is_least_ready.false) in
    c.flush-2.ensures.taken ∙ sym h.least_is

pub returns-clause-left : goal.returns-clause-left
returns-clause-left c =
    let h = leaves-paced c.args.owner.now c.args.self.now.tx.items c.args.self.now.pacer.items
    (sym c.is_least_ready.ensures ∙ c.if-is_least_ready.false) in
    rw c.flush-2.ensures.left (ap (λ es. ring es c.args.self.now.tx.size) (sym h.left))

pub returns-clause-queue : goal.returns-clause-queue
returns-clause-queue c =
    let h = leaves-paced c.args.owner.now c.args.self.now.tx.items c.args.self.now.pacer.items
    (sym c.is_least_ready.ensures ∙ c.if-is_least_ready.false) in
    rw c.flush-2.ensures.left (sym h.queue_is)

pub returns-clause-own : goal.returns-clause-own
returns-clause-own c =
    let h = leaves-paced c.args.owner.now c.args.self.now.tx.items c.args.self.now.pacer.items
    (sym c.is_least_ready.ensures ∙ c.if-is_least_ready.false) in
    own-of c.args.owner.now (joined c.args.self.now.tx c.args.self.now.pacer).items c.flush-2.result
    (c.flush-2.ensures.taken ∙ sym h.least_is)

pub returns-clause-nearest : goal.returns-clause-nearest
returns-clause-nearest c =
    let h = leaves-paced c.args.owner.now c.args.self.now.tx.items c.args.self.now.pacer.items
    (sym c.is_least_ready.ensures ∙ c.if-is_least_ready.false) in
    rw c.flush-2.ensures.left (nearest-of c.args.owner.now (joined c.args.self.now.tx c.args.self.now.pacer).items _
    c.flush-2.result (c.flush-2.ensures.taken ∙ sym h.least_is) (sym h.left))

pub returns-clause-unchanged : goal.returns-clause-unchanged
returns-clause-unchanged c =
    unchanged-of c.args.owner.now c.args.self.now.tx c.args.self.now.pacer _ c.flush-2.result
    c.flush-2.ensures.taken c.flush-2.ensures.left

pub returns-clause-paces : goal.returns-clause-paces
returns-clause-paces c =
    rw c.flush-2.ensures.left (record {
      calls = left-calls c.args.owner.now _ c.args.self.now.pacer.items c.requires.paces.calls;
      half = c.requires.paces.half;
    })
