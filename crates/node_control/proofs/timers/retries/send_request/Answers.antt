use Rattle.node_steps.proofs.LeavesSteps.{leaves-none}
use Rattle.std.proofs.Common.{◌≡◌, ◌<◌, Some, false, true, refl, arith}
use Rattle.rpc_laws.specs.declared.tables.Client.{Client}
use Rattle.rpc_laws.specs.ControlSteps.{own_request}
use Rattle.session_store.specs.Changes.{IsClientEnd, sent_again}
use Rattle.node_steps.specs.Handed.{timed_of}
use Rattle.node_steps.specs.Seen.{jobs_in}
use Rattle.endpoint_node.specs.contracts.node.Node.{the_view}
use Rattle.node_steps.proofs.PostCallers.{covers-stay}
use Rattle.node_steps.proofs.TimerRetries.{fits-asked, known-at, of-known, own-untold, ranged}
use Rattle.node_steps.proofs.TimerRetries.{spoken-sent, spoken-unsent}
use Rattle.node_steps.proofs.SendCounts.{held-when-busy, held-when-failed, link-sent}
use Rattle.node_control.proofs.timers.retries.send_request.Goals as goal

pub speak-requires : goal.speak-requires
speak-requires g c =
    let xs = c.node.inside.store.clients in
    let fits = c.node.invariant.0 in
    let known = rw (← c.node.view_is) at c.requires.known in
    let x = known-at xs c.args.i known in
    record {
      in_range = ranged xs c.args.i x.0 x.1 fits.kept.valid.numbered known fits.numbers
          fits.settled c.args.head.now c.node.inside.life fits.alive
          (of-known (λ y. own_request c.node.inside.life y ≡ Some c.args.head.now) xs c.args.i x.0 x.1
          (rw (← c.node.view_is) at c.requires.own));
    }

pub invariant_of-node : goal.invariant_of-node
invariant_of-node g c =
    let xs = c.node.inside.store.clients in
    let h = c.request_sent.ensures in
    let at = h.clients in
    let spoke = rw c.in-Ok-true.field-0-test at c.in-Ok-true.ensures.spoke in (
      fits-asked c.node.inside.me c.node.inside.limits
          (record {
            life = c.node.inside.life;
            known = c.node.inside.known;
            asked = c.node.inside.asked;
            server_numbers = c.node.inside.server_numbers;
            counts = c.node.inside.counts;
            inbox = c.node.inside.inbox;
          }) c.node.inside.paces.items (jobs_in c.node.inside.limits.jobs c.node.inside.given
          c.node.inside.jobs.items) c.node.inside.clock c.node.inside.rx c.node.inside.store
          c.request_sent.new.self c.node.invariant.0 c.args.i _ c.args.head.now at h.servers
          h.queued
          (of-known (λ y. own_request c.node.inside.life y ≡ Some c.args.head.now) xs c.args.i at.client at.place
          (rw (← c.node.view_is) at c.requires.own))
          (of-known (IsClientEnd c.end_of_client-end.result) xs c.args.i at.client at.place
          c.end_of_client-end.ensures).peer
          spoke.head spoke.spells
          (of-known (λ (y : Client). y.sends < 9) xs c.args.i at.client at.place
          (rw (← c.node.view_is) at c.requires.few)) h.size h.places,
      c.node.invariant.1,
      covers-stay c.node.inside.callers c.args.i (sent_again c.node.inside.clock) _ _
          (λ x has. has) at c.node.invariant.2,
    )

pub returns-in-Ok-true : goal.returns-in-Ok-true
returns-in-Ok-true g c = record {
  spoken = let xs = c.node.inside.store.clients in
      let h = c.request_sent.ensures in
      let at = h.clients in
      let spoke = rw c.in-Ok-true.field-0-test at c.in-Ok-true.ensures.spoke in
      rw (← c.node.view_is) (spoken-sent c.node.inside.me c.node.inside.limits
      (record {
        life = c.node.inside.life;
        known = c.node.inside.known;
        asked = c.node.inside.asked;
        server_numbers = c.node.inside.server_numbers;
        counts = c.node.inside.counts;
        inbox = c.node.inside.inbox;
      }) c.node.inside.paces.items (jobs_in c.node.inside.limits.jobs c.node.inside.given
      c.node.inside.jobs.items) c.node.inside.clock c.node.inside.rx c.node.inside.store
      c.request_sent.new.self c.node.invariant.0 c.args.i _ c.args.head.now at h.servers h.queued
      (of-known (λ y. own_request c.node.inside.life y ≡ Some c.args.head.now) xs c.args.i at.client at.place
      (rw (← c.node.view_is) at c.requires.own))
      (of-known (IsClientEnd c.end_of_client-end.result) xs c.args.i at.client at.place
      c.end_of_client-end.ensures).peer
      spoke.head spoke.spells g.R.Recorder.log g.L.Link _ _ _ _ spoke.grew
      (link-sent g.L.Link _ _ _ spoke.took refl refl
      c.in-Ok-true.ensures.cause (c.in-Ok-true.ensures.went c.in-Ok-true.field-0-test))
      spoke.bytes);
  rest = rw (← c.node.view_is) (record { me = refl; servers = c.request_sent.ensures.servers; jobs = refl; handed = c.request_sent.ensures.handed });
  lists = c.in-Ok-true.ensures.lists;
  few = omega arith;
}

pub returns-in-Ok-false : goal.returns-in-Ok-false
returns-in-Ok-false g c = record {
  spoken = let xs = c.node.inside.store.clients in
      let x = known-at xs c.args.i (rw (← c.node.view_is) at c.requires.known) in
      let spoke = rw c.in-Ok-false.field-0-test at c.in-Ok-false.ensures.spoke in
      rw (← c.node.view_is) (spoken-unsent g.R.Recorder.log g.L.Link (timed_of (the_view c.node.inside)) c.args.i _ c.args.head.now
      x.0 x.1
      (of-known (IsClientEnd c.end_of_client-end.result) xs c.args.i x.0 x.1
      c.end_of_client-end.ensures).peer
      (own-untold c.node.inside.life x.0.state x.0.way x.0.limit c.args.head.now
      (of-known (λ y. own_request c.node.inside.life y ≡ Some c.args.head.now) xs c.args.i x.0 x.1
      (rw (← c.node.view_is) at c.requires.own))) _ _ _ _ false spoke
      (held-when-busy _ _ c.in-Ok-false.ensures.cause
      (c.in-Ok-false.ensures.busy c.in-Ok-false.field-0-test)) c.in-Ok-false.ensures.cause);
  rest = rw (← c.node.view_is) (leaves-none _);
  lists = c.in-Ok-false.ensures.lists;
  few = omega arith;
}

pub returns-in-Err : goal.returns-in-Err
returns-in-Err g c = record {
  spoken = let xs = c.node.inside.store.clients in
      let x = known-at xs c.args.i (rw (← c.node.view_is) at c.requires.known) in
      rw (← c.node.view_is) (spoken-unsent g.R.Recorder.log g.L.Link (timed_of (the_view c.node.inside)) c.args.i _ c.args.head.now
      x.0 x.1
      (of-known (IsClientEnd c.end_of_client-end.result) xs c.args.i x.0 x.1
      c.end_of_client-end.ensures).peer
      (own-untold c.node.inside.life x.0.state x.0.way x.0.limit c.args.head.now
      (of-known (λ y. own_request c.node.inside.life y ≡ Some c.args.head.now) xs c.args.i x.0 x.1
      (rw (← c.node.view_is) at c.requires.own))) _ _ _ _ true c.in-Err.ensures.spoke
      (held-when-failed _ _ c.in-Err.ensures.cause c.in-Err.ensures.fault)
      c.in-Err.ensures.cause);
  rest = rw (← c.node.view_is) (leaves-none _);
  lists = c.in-Err.ensures.lists;
  few = omega arith;
}
