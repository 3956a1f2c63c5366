use Rattle.std.proofs.Common.{sym, ap, ◌∙◌, length, arith}
use Rattle.packet_rings.specs.Rings.{ring}
use Rattle.session_ends.proofs.JoinLemmas.{drop-calls, shorter, step-entries, step-queue, still}
use Rattle.session_ends.proofs.JoinLemmas.{joined-length}
use Rattle.session_ends.proofs.queue.Queue.make_ready.Goals as goal

pub push-requires : goal.push-requires
push-requires c =
    let h = c.in-Some.ensures in
    record {
      room = omega (
        arith,
        ap (λ r. length r.items) c.packets.invariant.same,
        ap (λ r. r.size) c.packets.invariant.same,
        joined-length c.packets.self.tx c.packets.self.pacer,
        shorter c.packets.self.pacer.items c.in-Some.entry h.first,
        c.requires.room,
      );
    }

pub packets-preserved : goal.packets-preserved
packets-preserved c =
    let h = c.in-Some.ensures in
    let xs = c.packets.self.tx.items in
    let ps = c.packets.self.pacer.items in
    let inv = c.packets.invariant in
    rw (c.push.ensures, h.left) (record {
      same = ap (λ es. ring es c.packets.self.tx.size) (step-entries xs ps c.in-Some.entry h.first) ∙ inv.same;
      queue = step-queue c.args.now xs ps c.in-Some.entry h.first h.due ∙ inv.queue;
      paces = record { calls = drop-calls _ ps inv.paces.calls; half = inv.paces.half };
    })

pub packets-smaller : goal.packets-smaller
packets-smaller c =
    let h = c.in-Some.ensures in
    rw h.left (omega (arith, shorter c.packets.self.pacer.items c.in-Some.entry h.first))

pub returns-clause-queue : goal.returns-clause-queue
returns-clause-queue c =
    rw c.in_default.ensures.unchanged
    (sym (still c.args.now c.packets.self.tx.items c.packets.self.pacer.items c.in_default.ensures.none)
    ∙ c.packets.invariant.queue)
