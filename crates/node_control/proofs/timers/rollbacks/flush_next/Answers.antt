use Rattle.std.proofs.lemmas.Bool.{false≢true}
use Rattle.std.proofs.Common.{ap, sym, ◌∙◌, refl}
use Rattle.node_steps.proofs.QueueFlushes.{fits-flushed, least-none-by, node-flushed, none-owned}
use Rattle.node_steps.proofs.QueueFlushes.{none-taken, taken-least}
use Rattle.rpc_base.specs.declared.owner.Owner.TheVariants.{Ask}
use Rattle.session_store.proofs.StandLemmas.{owner-is}
use Rattle.node_steps.specs.Seen.{jobs_in}
use Rattle.node_control.proofs.timers.rollbacks.flush_next.Goals as goal

pub invariant_of-node : goal.invariant_of-node
invariant_of-node g c =
    let h = rw c.in_default.is at c.flush.ensures in
    let same =
    none-taken (Ask c.args.i c.args.request) c.node.inside.store.queued c.flush.new.self.queued
    (least-none-by (Ask c.args.i c.args.request) c.node.inside.store.queued h.taken) h.left.queued in (
      rw (same, h.left.clients, h.left.servers, h.left.size, h.left.places) c.node.invariant.0,
      c.node.invariant.1,
      rw h.left.clients c.node.invariant.2,
    )

pub returns-in_default-clause-flush : goal.returns-in_default-clause-flush
returns-in_default-clause-flush g c = record {
  makes = λ yes. absurd (false≢true yes);
  fewer = λ yes. absurd (false≢true yes);
  none = λ _.
      let h = rw c.in_default.is at c.flush.ensures in
      rw (← c.node.view_is) (none-owned (Ask c.args.i c.args.request) c.node.inside.store.queued
      (least-none-by (Ask c.args.i c.args.request) c.node.inside.store.queued h.taken));
  unchanged = λ _.
      let h = rw c.in_default.is at c.flush.ensures in
      let same =
      none-taken (Ask c.args.i c.args.request) c.node.inside.store.queued c.flush.new.self.queued
      (least-none-by (Ask c.args.i c.args.request) c.node.inside.store.queued h.taken) h.left.queued in
      rw (same, h.left.clients, h.left.servers, h.left.handed) c.node.view_is;
  silent = λ no. refl;
}

pub invariant_of-node-2 : goal.invariant_of-node-2
invariant_of-node-2 g c =
    let h = rw c.in-Some.is at c.flush.ensures in
    let out = taken-least (Ask c.args.i c.args.request) c.node.inside.store.queued c.flush.new.self.queued
    c.in-Some.entry h.taken h.left.queued in (
      fits-flushed c.node.inside.me c.node.inside.limits
          (record {
            life = c.node.inside.life;
            known = c.node.inside.known;
            asked = c.node.inside.asked;
            server_numbers = c.node.inside.server_numbers;
            inbox = c.node.inside.inbox;
            counts = c.node.inside.counts;
          }) c.node.inside.paces.items (jobs_in c.node.inside.limits.jobs c.node.inside.given
          c.node.inside.jobs.items)
          c.node.inside.clock c.node.inside.rx c.node.inside.store c.flush.new.self
          c.node.invariant.0 (Ask c.args.i c.args.request) out.entry out.taken h.left.clients h.left.servers h.left.size h.left.places,
      c.node.invariant.1,
      rw h.left.clients c.node.invariant.2,
    )

pub returns-clause-flush : goal.returns-clause-flush
returns-clause-flush g c = record {
  makes = λ _.
      let h = rw c.in-Some.is at c.flush.ensures in
      let out = taken-least (Ask c.args.i c.args.request) c.node.inside.store.queued c.flush.new.self.queued
      c.in-Some.entry h.taken h.left.queued in
      rw (← c.node.view_is) (node-flushed c.node.inside.me c.node.inside.limits
      (record {
        life = c.node.inside.life;
        known = c.node.inside.known;
        asked = c.node.inside.asked;
        server_numbers = c.node.inside.server_numbers;
        inbox = c.node.inside.inbox;
        counts = c.node.inside.counts;
      }) c.node.inside.paces.items (jobs_in c.node.inside.limits.jobs c.node.inside.given
      c.node.inside.jobs.items)
      c.node.inside.clock c.node.inside.rx c.node.inside.store c.flush.new.self
      c.node.invariant.0 (Ask c.args.i c.args.request) out.entry out.taken h.left.clients
      h.left.servers g.R.Recorder.log c.args.rec.now c.note.new.self _ _
      (ap (λ e. e.owner) c.entry.view_is ∙ owner-is _ _ _ out.own)
      (ap (λ e. e.number) c.entry.view_is ∙ sym out.number) c.note.ensures);
  fewer = λ _.
      let h = rw c.in-Some.is at c.flush.ensures in
      let out = taken-least (Ask c.args.i c.args.request) c.node.inside.store.queued c.flush.new.self.queued
      c.in-Some.entry h.taken h.left.queued in
      rw (← c.node.view_is) out.taken.fewer;
  none = λ no. absurd (false≢true (sym no));
  unchanged = λ no. absurd (false≢true (sym no));
  silent = λ no. absurd (false≢true (sym no));
}
