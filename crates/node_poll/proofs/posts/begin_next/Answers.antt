use Rattle.node_steps.proofs.NodeFits.{has-places}
use Rattle.node_steps.proofs.PostFits.{fits-begun, node-begun}
use Rattle.node_steps.proofs.PostSteps.{begun-fewer}
use Rattle.node_steps.specs.Seen.{jobs_in}
use Rattle.node_steps.proofs.PostCallers.{covers-begun}
use Rattle.node_poll.proofs.posts.begin_next.Goals as goal

pub begin-requires-clause-room : goal.begin-requires-clause-room
begin-requires-clause-room g c =
    let fits = c.node.invariant.0 in
    has-places _ _ fits.kept fits.settled fits.credits fits.jobs fits.buffers

pub invariant_of-node-2 : goal.invariant_of-node-2
invariant_of-node-2 g c =
    let h = rw c.in-Some.is at c.begin.ensures in (
      fits-begun g.R.Recorder.log c.args.i c.node.inside.me c.node.inside.limits
          (record {
            life = c.node.inside.life;
            known = c.node.inside.known;
            asked = c.node.inside.asked;
            server_numbers = c.node.inside.server_numbers;
            inbox = c.node.inside.inbox;
            counts = c.node.inside.counts;
          }) c.node.inside.paces.items (jobs_in c.node.inside.limits.jobs c.node.inside.given
          c.node.inside.jobs.items)
          c.node.inside.clock c.node.inside.rx c.node.inside.store c.begin.new.self c.args.rec.now
          c.note.new.self c.node.invariant.0 h.servers h.size h.places _ h.clients h.queued,
      c.node.invariant.1,
      covers-begun c.node.inside.callers c.args.i _ _ _ h.clients c.node.invariant.2,
    )

pub returns-clause-notes : goal.returns-clause-notes
returns-clause-notes g c =
    let h = rw c.in-Some.is at c.begin.ensures in
    rw (← c.node.view_is) (node-begun g.R.Recorder.log c.args.i
    c.node.inside.me c.node.inside.limits
    (record {
      life = c.node.inside.life;
      known = c.node.inside.known;
      asked = c.node.inside.asked;
      server_numbers = c.node.inside.server_numbers;
      inbox = c.node.inside.inbox;
      counts = c.node.inside.counts;
    }) c.node.inside.paces.items (jobs_in c.node.inside.limits.jobs c.node.inside.given c.node.inside.jobs.items)
    c.node.inside.clock c.node.inside.rx c.node.inside.store c.begin.new.self c.args.rec.now
    c.note.new.self c.node.invariant.0 h.servers h.size h.places _ h.clients h.queued
    c.note.ensures)

pub returns-clause-fewer : goal.returns-clause-fewer
returns-clause-fewer g c = λ went.
    let h = rw c.in-Some.is at c.begin.ensures in
    rw (← c.node.view_is) (begun-fewer c.args.i _ _ _ h.clients c.node.invariant.0.ascends)
