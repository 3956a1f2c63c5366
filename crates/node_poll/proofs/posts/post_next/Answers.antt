use Rattle.std.proofs.Common.{ap, ◌∙◌, length, arith}
use Rattle.std.proofs.lemmas.List.{length-set}
use Rattle.rpc_base.specs.Tables.{at_first}
use Rattle.rpc_laws.specs.Pacing.{delayed, is_paced}
use Rattle.rpc_laws.specs.Sessions.{posts}
use Rattle.session_store.specs.Effects.{request_in}
use Rattle.node_steps.proofs.NodeFits.{has-paced-room, has-room}
use Rattle.node_steps.proofs.PostFits.{fits-posted, node-posted}
use Rattle.node_steps.proofs.PostPaces.{size-told}
use Rattle.node_steps.proofs.PostSteps.{posted-fewer}
use Rattle.node_steps.specs.Seen.{jobs_in}
use Rattle.node_steps.proofs.PostCallers.{covers-posted}
use Rattle.node_poll.proofs.posts.post_next.Goals as goal

pub due_of-due-requires : goal.due_of-due-requires
due_of-due-requires g c = record {
  known = omega (arith, c.node.invariant.0.each, c.clients.ensures.count, c.if-i-clients.false);
  numbered = c.node.invariant.0.paces;
}

pub post-requires-clause-room : goal.post-requires-clause-room
post-requires-clause-room g c =
    let fits = c.node.invariant.0 in
    has-room _ _ c.args.i fits.kept fits.sendable fits.replies fits.packets

pub post-requires-clause-paced : goal.post-requires-clause-paced
post-requires-clause-paced g c = λ some.
    let fits = c.node.invariant.0 in
    has-paced-room _ _ c.args.i fits.kept fits.sendable fits.packets

pub packet_size-size-requires : goal.packet_size-size-requires
packet_size-size-requires g c =
    let h = rw c.in-Some.is at c.post.ensures in
    record {
      known = omega (
        arith,
        ap (λ xs. length xs) h.posts.clients.changed,
        length-set c.node.inside.store.clients c.args.i (posts (request_in c.in-Some.entry.owner)
            c.in-Some.entry.number h.posts.clients.client),
        c.clients.ensures.count,
        c.if-i-clients.false,
      );
    }

pub delay-requires : goal.delay-requires
delay-requires g c = record {
  pace = record { known = omega (arith, c.node.invariant.0.each, c.clients.ensures.count, c.if-i-clients.false); numbered = c.node.invariant.0.paces };
  size = c.packet_size-size.ensures.most;
}

pub invariant_of-node-2 : goal.invariant_of-node-2
invariant_of-node-2 g c =
    let h = rw c.in-Some.is at c.post.ensures in
    let request = c.request_of-request.ensures
    ∙ ap (λ e. request_in e.owner) c.entry.view_is in
    let told = rw (request, ap (λ e. e.number) c.entry.view_is) at c.packet_size-size.ensures.size in
    let size = size-told c.args.i _ _ c.packet_size-size.result c.node.inside.store.clients
    c.post.new.self.clients h.posts.clients c.node.invariant.0.kept.valid.numbered told in
    let later = c.delay.ensures.delays
    ∙ ap (λ n. at_first (is_paced c.args.i) (delayed c.node.inside.clock n)
    c.node.inside.paces.items) size in (
      fits-posted g.R.Recorder.log c.args.i c.node.inside.me c.node.inside.limits
          (record {
            life = c.node.inside.life;
            known = c.node.inside.known;
            asked = c.node.inside.asked;
            server_numbers = c.node.inside.server_numbers;
            inbox = c.node.inside.inbox;
            counts = c.node.inside.counts;
          }) c.node.inside.paces.items (jobs_in c.node.inside.limits.jobs c.node.inside.given
          c.node.inside.jobs.items)
          c.node.inside.clock c.node.inside.rx c.node.inside.store c.post.new.self c.args.rec.now
          c.note.new.self c.node.invariant.0 h.posts.servers h.posts.size h.posts.places c.in-Some.entry c.due_of-due.result
          c.delay.new.paces.items h.posts.clients h.posts.queued h.owner c.due_of-due.ensures later,
      rw c.delay.ensures.room c.node.invariant.1,
      covers-posted c.node.inside.callers c.args.i _ _ _ h.posts.clients c.node.invariant.2,
    )

pub returns-clause-notes : goal.returns-clause-notes
returns-clause-notes g c =
    let h = rw c.in-Some.is at c.post.ensures in
    let request = c.request_of-request.ensures
    ∙ ap (λ e. request_in e.owner) c.entry.view_is in
    let told = rw (request, ap (λ e. e.number) c.entry.view_is) at c.packet_size-size.ensures.size in
    let size = size-told c.args.i _ _ c.packet_size-size.result c.node.inside.store.clients
    c.post.new.self.clients h.posts.clients c.node.invariant.0.kept.valid.numbered told in
    let later = c.delay.ensures.delays
    ∙ ap (λ n. at_first (is_paced c.args.i) (delayed c.node.inside.clock n)
    c.node.inside.paces.items) size in
    rw (← c.node.view_is) (node-posted g.R.Recorder.log c.args.i c.node.inside.me c.node.inside.limits
    (record {
      life = c.node.inside.life;
      known = c.node.inside.known;
      asked = c.node.inside.asked;
      server_numbers = c.node.inside.server_numbers;
      inbox = c.node.inside.inbox;
      counts = c.node.inside.counts;
    }) c.node.inside.paces.items (jobs_in c.node.inside.limits.jobs c.node.inside.given
    c.node.inside.jobs.items)
    c.node.inside.clock c.node.inside.rx c.node.inside.store c.post.new.self c.args.rec.now
    c.note.new.self c.node.invariant.0 h.posts.servers h.posts.size h.posts.places c.in-Some.entry c.due_of-due.result
    c.delay.new.paces.items h.posts.clients h.posts.queued h.owner c.due_of-due.ensures later
    _ _ (ap (λ e. e.owner) c.entry.view_is) (ap (λ e. e.number) c.entry.view_is) c.note.ensures)

pub returns-clause-fewer : goal.returns-clause-fewer
returns-clause-fewer g c = λ went.
    let h = rw c.in-Some.is at c.post.ensures in
    rw (← c.node.view_is) (posted-fewer c.args.i _ _ _ h.posts.clients)
