use Rattle.node_steps.specs.Handed.{Holding}
use Rattle.std.proofs.Common.{Some, None, refl, sym, ap, ◌∙◌, arith}
use Rattle.rpc_laws.specs.declared.tables.Jobs.{Jobs}
use Rattle.node_steps.proofs.JobsSteps.{fits-answered, fits-unposted, job-found, jobs-left}
use Rattle.node_steps.proofs.JobsSteps.{node-answered, node-unposted, pool-room, ring-room}
use Rattle.node_steps.proofs.JobsSteps.{same-left, still-background, still-served}
use Rattle.node_steps.specs.Jobs.{is_named}
use Rattle.node_steps.specs.Seen.{jobs_in, unasked}
use Rattle.node_poll.proofs.jobs.finish.Goals as goal

pub invariant_of-node : goal.invariant_of-node
invariant_of-node g c =
    let same = c.take_job.ensures.left ∙ same-left (is_named c.args.parcel.session
    c.args.parcel.request) c.node.inside.jobs.items (sym c.take_job.ensures.found ∙
    c.in_default.is) in (
      rw same c.node.invariant.0,
      (omega (arith, c.take_job.ensures.capacity, c.node.invariant.1.0), c.node.invariant.1.1),
      c.node.invariant.2,
    )

pub returns-in_default-clause-none : goal.returns-in_default-clause-none
returns-in_default-clause-none g c = λ none.
    let same = c.take_job.ensures.left ∙ same-left (is_named c.args.parcel.session
    c.args.parcel.request) c.node.inside.jobs.items (sym c.take_job.ensures.found ∙
    c.in_default.is) in (
      rw same c.node.view_is,
      refl,
      rw (← c.node.view_is) (job-found _ _ c.node.inside.limits.jobs c.node.inside.given
          c.node.inside.jobs.items None (sym c.in_default.is ∙ c.take_job.ensures.found)),
    )

pub post_answer-requires-clause-reply : goal.post_answer-requires-clause-reply
post_answer-requires-clause-reply g c = record {
  ring = ring-room c.node.inside.me c.node.inside.limits
      (record {
        life = c.node.inside.life;
        known = c.node.inside.known;
        asked = c.node.inside.asked;
        server_numbers = c.node.inside.server_numbers;
        inbox = c.node.inside.inbox;
        counts = c.node.inside.counts;
      }) c.node.inside.paces.items (jobs_in c.node.inside.limits.jobs c.node.inside.given
      c.node.inside.jobs.items)
      c.node.inside.clock c.node.inside.rx c.node.inside.store c.node.invariant.0
      (rw (← c.node.view_is) at c.requires.room);
  room = pool-room c.node.inside.me c.node.inside.limits
      (record {
        life = c.node.inside.life;
        known = c.node.inside.known;
        asked = c.node.inside.asked;
        server_numbers = c.node.inside.server_numbers;
        inbox = c.node.inside.inbox;
        counts = c.node.inside.counts;
      }) c.node.inside.paces.items (jobs_in c.node.inside.limits.jobs c.node.inside.given
      c.node.inside.jobs.items)
      c.node.inside.clock c.node.inside.rx c.node.inside.store c.node.invariant.0;
}

pub invariant_of-node-in_default-post_answer : goal.invariant_of-node-in_default-post_answer
invariant_of-node-in_default-post_answer g c = (
  fits-unposted c.node.inside.me c.node.inside.limits
      (record {
        life = c.node.inside.life;
        known = c.node.inside.known;
        asked = c.node.inside.asked;
        server_numbers = c.node.inside.server_numbers;
        inbox = c.node.inside.inbox;
        counts = c.node.inside.counts;
      }) c.node.inside.paces.items (jobs_in c.node.inside.limits.jobs c.node.inside.given
      c.node.inside.jobs.items)
      c.node.inside.clock c.node.inside.rx c.node.inside.store c.node.invariant.0
      c.post_answer.new.store c.args.parcel _ c.post_answer.ensures.clients
      c.post_answer.ensures.size c.post_answer.ensures.places c.saturating_add-node-inside.ensures _
      (jobs-left _ _ c.node.inside.limits.jobs c.node.inside.given c.node.inside.jobs.items
      c.take_job.new.jobs.items c.take_job.ensures.left) (unasked c.in-Some.job)
      (job-found _ _ c.node.inside.limits.jobs c.node.inside.given c.node.inside.jobs.items
      (Some c.in-Some.job) (sym c.in-Some.is ∙ c.take_job.ensures.found))
      (rw c.in_default-post_answer.is at c.post_answer.ensures.servers)
      (rw c.in_default-post_answer.is at c.post_answer.ensures.queued),
  (omega (arith, c.take_job.ensures.capacity, c.node.invariant.1.0), c.node.invariant.1.1),
  rw c.post_answer.ensures.clients c.node.invariant.2,
)

pub returns-in_default-post_answer-clause-done : goal.returns-in_default-post_answer-clause-done
returns-in_default-post_answer-clause-done g c = λ yes.
    rw (← c.node.view_is) (node-unposted c.node.inside.me c.node.inside.limits
    (record {
      life = c.node.inside.life;
      known = c.node.inside.known;
      asked = c.node.inside.asked;
      server_numbers = c.node.inside.server_numbers;
      inbox = c.node.inside.inbox;
      counts = c.node.inside.counts;
    }) c.node.inside.paces.items (jobs_in c.node.inside.limits.jobs c.node.inside.given
    c.node.inside.jobs.items)
    c.node.inside.clock c.node.inside.rx c.node.inside.store c.node.invariant.0
    c.post_answer.new.store c.args.parcel _ c.post_answer.ensures.clients
    c.post_answer.ensures.size c.post_answer.ensures.places c.saturating_add-node-inside.ensures _
    (jobs-left _ _ c.node.inside.limits.jobs c.node.inside.given c.node.inside.jobs.items
    c.take_job.new.jobs.items c.take_job.ensures.left) (unasked c.in-Some.job)
    (job-found _ _ c.node.inside.limits.jobs c.node.inside.given c.node.inside.jobs.items
    (Some c.in-Some.job) (sym c.in-Some.is ∙ c.take_job.ensures.found))
    (rw c.in_default-post_answer.is at c.post_answer.ensures.servers)
    (rw c.in_default-post_answer.is at c.post_answer.ensures.queued) g.R.Recorder.log
    c.args.rec.now c.note.new.self
    _ _ c.bytes-ask.ensures.message c.bytes-answer.ensures.message c.note.ensures)

pub returns-in_default-post_answer-clause-jobs : goal.returns-in_default-post_answer-clause-jobs
returns-in_default-post_answer-clause-jobs g c = λ yes.
    rw (← c.node.view_is) (jobs-left _ _ c.node.inside.limits.jobs
    c.node.inside.given c.node.inside.jobs.items c.take_job.new.jobs.items c.take_job.ensures.left)

pub invariant_of-node-2 : goal.invariant_of-node-2
invariant_of-node-2 g c = (
  fits-answered c.node.inside.me c.node.inside.limits
      (record {
        life = c.node.inside.life;
        known = c.node.inside.known;
        asked = c.node.inside.asked;
        server_numbers = c.node.inside.server_numbers;
        inbox = c.node.inside.inbox;
        counts = c.node.inside.counts;
      }) c.node.inside.paces.items (jobs_in c.node.inside.limits.jobs c.node.inside.given
      c.node.inside.jobs.items)
      c.node.inside.clock c.node.inside.rx c.node.inside.store c.node.invariant.0
      c.post_answer.new.store c.args.parcel _ c.post_answer.ensures.clients
      c.post_answer.ensures.size c.post_answer.ensures.places c.saturating_add-node-inside.ensures _
      (jobs-left _ _ c.node.inside.limits.jobs c.node.inside.given c.node.inside.jobs.items
      c.take_job.new.jobs.items c.take_job.ensures.left) (unasked c.in-Some.job)
      (job-found _ _ c.node.inside.limits.jobs c.node.inside.given c.node.inside.jobs.items
      (Some c.in-Some.job) (sym c.in-Some.is ∙ c.take_job.ensures.found))
      c.in-Some-post_answer.entry
      (rw c.in-Some-post_answer.is at c.post_answer.ensures.servers)
      (rw c.in-Some-post_answer.is at c.post_answer.ensures.queued) (rw (← c.node.view_is) at
      c.requires.room),
  (omega (arith, c.take_job.ensures.capacity, c.node.invariant.1.0), c.node.invariant.1.1),
  rw c.post_answer.ensures.clients c.node.invariant.2,
)

pub returns-clause-done : goal.returns-clause-done
returns-clause-done g c = λ yes.
    rw (← c.node.view_is) (node-answered c.node.inside.me c.node.inside.limits
    (record {
      life = c.node.inside.life;
      known = c.node.inside.known;
      asked = c.node.inside.asked;
      server_numbers = c.node.inside.server_numbers;
      inbox = c.node.inside.inbox;
      counts = c.node.inside.counts;
    }) c.node.inside.paces.items (jobs_in c.node.inside.limits.jobs c.node.inside.given
    c.node.inside.jobs.items)
    c.node.inside.clock c.node.inside.rx c.node.inside.store c.node.invariant.0
    c.post_answer.new.store c.args.parcel _ c.post_answer.ensures.clients
    c.post_answer.ensures.size c.post_answer.ensures.places c.saturating_add-node-inside.ensures _
    (jobs-left _ _ c.node.inside.limits.jobs c.node.inside.given c.node.inside.jobs.items
    c.take_job.new.jobs.items c.take_job.ensures.left) (unasked c.in-Some.job)
    (job-found _ _ c.node.inside.limits.jobs c.node.inside.given c.node.inside.jobs.items
    (Some c.in-Some.job) (sym c.in-Some.is ∙ c.take_job.ensures.found))
    c.in-Some-post_answer.entry
    (rw c.in-Some-post_answer.is at c.post_answer.ensures.servers)
    (rw c.in-Some-post_answer.is at c.post_answer.ensures.queued) g.R.Recorder.log
    c.args.rec.now c.note.new.self c.note-2.new.self
    _ _ _ c.bytes-ask.ensures.message c.bytes-answer.ensures.message
    (ap (λ e. e.number) c.entry.view_is) c.note.ensures c.note-2.ensures)

pub returns-clause-jobs : goal.returns-clause-jobs
returns-clause-jobs g c = λ yes.
    rw (← c.node.view_is) (jobs-left _ _ c.node.inside.limits.jobs
    c.node.inside.given c.node.inside.jobs.items c.take_job.new.jobs.items c.take_job.ensures.left)

pub returns-in_default-clause-rest : goal.returns-in_default-clause-rest
returns-in_default-clause-rest g c = record {
  clients = ap (λ (n : Holding). n.lists.clients) c.node.view_is;
  served = λ mode served. rw (← c.node.view_is) at served;
  background = λ mode all.
      still-background mode _ _ _ _ (ap (λ (js : Jobs). js.out) (jobs-left _ _
      c.node.inside.limits.jobs c.node.inside.given c.node.inside.jobs.items
      c.take_job.new.jobs.items c.take_job.ensures.left)) (rw (← c.node.view_is) at all);
  handed = ap (λ (n : Holding). n.handed) c.node.view_is;
}

pub returns-in_default-post_answer-clause-rest : goal.returns-in_default-post_answer-clause-rest
returns-in_default-post_answer-clause-rest g c = record {
  clients = c.post_answer.ensures.clients ∙ ap (λ (n : Holding). n.lists.clients) c.node.view_is;
  served = λ mode served.
      still-served mode _ _ _ _ _ _ c.post_answer.ensures.servers (rw (← c.node.view_is) at served);
  background = λ mode all.
      still-background mode _ _ _ _ (ap (λ (js : Jobs). js.out) (jobs-left _ _
      c.node.inside.limits.jobs c.node.inside.given c.node.inside.jobs.items
      c.take_job.new.jobs.items c.take_job.ensures.left)) (rw (← c.node.view_is) at all);
  handed = c.post_answer.ensures.handed ∙ ap (λ (n : Holding). n.handed) c.node.view_is;
}

pub returns-clause-rest : goal.returns-clause-rest
returns-clause-rest g c = record {
  clients = c.post_answer.ensures.clients ∙ ap (λ (n : Holding). n.lists.clients) c.node.view_is;
  served = λ mode served.
      still-served mode _ _ _ _ _ _ c.post_answer.ensures.servers (rw (← c.node.view_is) at served);
  background = λ mode all.
      still-background mode _ _ _ _ (ap (λ (js : Jobs). js.out) (jobs-left _ _
      c.node.inside.limits.jobs c.node.inside.given c.node.inside.jobs.items
      c.take_job.new.jobs.items c.take_job.ensures.left)) (rw (← c.node.view_is) at all);
  handed = c.post_answer.ensures.handed ∙ ap (λ (n : Holding). n.handed) c.node.view_is;
}
