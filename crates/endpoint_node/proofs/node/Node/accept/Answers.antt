use Rattle.std.proofs.Common.{◌≡◌, ◌≤◌, ℕ, ◌+◌, List, length, sym, ap, subst, ◌∙◌, arith}
use Rattle.std.specs.List.{Contains}
use Rattle.std.proofs.lemmas.List.{length-set, length-take}
use Rattle.rpc_laws.specs.declared.tables.Client.{Client}
use Rattle.rpc_laws.specs.Sessions.{asks}
use Rattle.session_store.specs.Effects.{asking_in}
use Rattle.node_steps.specs.Seen.{jobs_in}
use Rattle.node_steps.proofs.CallSteps.{calls-before, connected-at, connected-there, fits-asked}
use Rattle.message_buffer.specs.Buffer.{bytes_of}
use Rattle.rpc_base.specs.declared.limits.TheConstants.{MOST_MESSAGE_BYTES}
use Rattle.node_steps.proofs.CallSteps.{newest-is, node-asked}
use Rattle.node_steps.proofs.PostCallers.{covers-entered}
use Rattle.client_core.specs.Handing.{handed_waiting}
use Rattle.session_store.specs.Handing.{HandsInAt}
use Rattle.endpoint_node.proofs.node.Node.accept.Goals as goal

pub ask-requires-clause-connected : goal.ask-requires-clause-connected
ask-requires-clause-connected g c =
    let place = connected-at c.self.inside.store.clients c.from-i.result _
    c.self.invariant.0.kept.valid.numbered c.from-i.ensures
    (rw (← c.self.view_is, ← c.session.view_is) at c.requires.connected) in
    place

pub ask-requires-clause-known : goal.ask-requires-clause-known
ask-requires-clause-known g c =
    let place = connected-at c.self.inside.store.clients c.from-i.result _
    c.self.invariant.0.kept.valid.numbered c.from-i.ensures
    (rw (← c.self.view_is, ← c.session.view_is) at c.requires.connected) in
    connected-there c.self.inside.store.clients c.from-i.result place

pub ask-requires-clause-above : goal.ask-requires-clause-above
ask-requires-clause-above g c =
    let next : c.args.waiting.call ≡ c.self.inside.asked =
    rw (← c.self.view_is) at c.requires.call in
    rw next (calls-before c.self.inside.store.clients c.self.inside.asked c.from-i.result
    c.self.invariant.0.kept.valid.once)

pub newest_ask-requires : goal.newest_ask-requires
newest_ask-requires g c =
    let place = connected-at c.self.inside.store.clients c.from-i.result _
    c.self.invariant.0.kept.valid.numbered c.from-i.ensures
    (rw (← c.self.view_is, ← c.session.view_is) at c.requires.connected) in
    let at = c.in_ok-ask.ensures.asks.clients in
    let long = ap (λ (xs : List Client). length xs) at.changed
    ∙ length-set c.self.inside.store.clients c.from-i.result
    (asks (asking_in c.args.waiting) at.client) in
    omega (arith, long, connected-there c.self.inside.store.clients c.from-i.result place)

pub invariant_of-self-2 : goal.invariant_of-self-2
invariant_of-self-2 g c =
    let asked = c.in_ok-ask.ensures.asks in
    let place = connected-at c.self.inside.store.clients c.from-i.result _
    c.self.invariant.0.kept.valid.numbered c.from-i.ensures
    (rw (← c.self.view_is, ← c.session.view_is) at c.requires.connected) in
    let next : c.args.waiting.call ≡ c.self.inside.asked =
    rw (← c.self.view_is) at c.requires.call in
    let number : c.next.inside.0 + 1 ≡ c.self.inside.asked + 1 =
    ap (λ (n : ℕ). n + 1) (c.next.view_is ∙ (rw (← c.self.view_is) at c.next_call-next.ensures.number)) in (
      fits-asked c.self.inside.me c.self.inside.limits (record {
        life = c.self.inside.life;
        known = c.self.inside.known;
        asked = c.self.inside.asked;
        server_numbers = c.self.inside.server_numbers;
        inbox = c.self.inside.inbox;
        counts = c.self.inside.counts;
      }) c.self.inside.paces.items
          (jobs_in c.self.inside.limits.jobs c.self.inside.given c.self.inside.jobs.items)
          c.self.inside.clock c.self.inside.rx c.self.inside.store
          c.ask.new.self (asking_in c.args.waiting) c.from-i.result c.self.invariant.0 place
          asked.clients asked.servers asked.queued asked.size asked.places next
          (c.next.inside.0 + 1) number,
      c.self.invariant.1,
      covers-entered c.self.inside.callers c.enter.new.self c.from-i.result
          (asks (asking_in c.args.waiting)) _ _ asked.clients
          (subst (λ n. Contains c.enter.new.self n)
          (c.session-2.view_is ∙ sym c.session.view_is ∙ sym c.from-i.ensures)
          c.enter.ensures.entered)
          c.enter.ensures.others c.self.invariant.2,
    )

pub returns-clause-makes : goal.returns-clause-makes
returns-clause-makes g c =
    let asked = c.in_ok-ask.ensures.asks in
    let place = connected-at c.self.inside.store.clients c.from-i.result _
    c.self.invariant.0.kept.valid.numbered c.from-i.ensures
    (rw (← c.self.view_is, ← c.session.view_is) at c.requires.connected) in
    let next : c.args.waiting.call ≡ c.self.inside.asked =
    rw (← c.self.view_is) at c.requires.call in
    let number : c.next.inside.0 + 1 ≡ c.self.inside.asked + 1 =
    ap (λ (n : ℕ). n + 1) (c.next.view_is ∙ (rw (← c.self.view_is) at c.next_call-next.ensures.number)) in
    let few : length (bytes_of c.args.waiting.req) ≤ MOST_MESSAGE_BYTES =
    omega (arith, length-take c.args.waiting.req.len c.args.waiting.req.store, c.requires.message) in
    rw (← c.self.view_is) (node-asked c.self.inside.me c.self.inside.limits (record {
      life = c.self.inside.life;
      known = c.self.inside.known;
      asked = c.self.inside.asked;
      server_numbers = c.self.inside.server_numbers;
      inbox = c.self.inside.inbox;
      counts = c.self.inside.counts;
    }) c.self.inside.paces.items
    (jobs_in c.self.inside.limits.jobs c.self.inside.given c.self.inside.jobs.items)
    c.self.inside.clock c.self.inside.rx c.self.inside.store
    c.ask.new.self (asking_in c.args.waiting) c.from-i.result c.self.invariant.0 place
    asked.clients asked.servers asked.queued asked.size asked.places next
    (c.next.inside.0 + 1) number
    g.R.Recorder.log c.args.rec.now c.note.new.self _ _ _ _
    (sym c.session.view_is ∙ sym c.from-i.ensures) next c.capacity.ensures.capacity
    (newest-is c.self.inside.me c.self.inside.limits (record {
      life = c.self.inside.life;
      known = c.self.inside.known;
      asked = c.self.inside.asked;
      server_numbers = c.self.inside.server_numbers;
      inbox = c.self.inside.inbox;
      counts = c.self.inside.counts;
    }) c.self.inside.paces.items
    (jobs_in c.self.inside.limits.jobs c.self.inside.given c.self.inside.jobs.items)
    c.self.inside.clock c.self.inside.rx c.self.inside.store
    c.ask.new.self (asking_in c.args.waiting) c.from-i.result c.self.invariant.0 place
    asked.clients asked.servers asked.queued asked.size asked.places next
    (c.next.inside.0 + 1) number c.newest_ask.result.now c.newest_ask.ensures) few
    c.capacity.ensures.most c.note.ensures)

pub returns-clause-handed : goal.returns-clause-handed
returns-clause-handed g c =
    rw (← c.self.view_is) (subst (λ n. HandsInAt n (handed_waiting c.args.waiting)
    c.self.inside.store.handed c.ask.new.self.handed) (c.from-i.ensures ∙ c.session.view_is)
    c.in_ok-ask.ensures.asks.handed)
