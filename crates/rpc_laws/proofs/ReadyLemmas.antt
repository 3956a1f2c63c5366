-- What is due counts as ready in the sending of a poll already: a node whose due packets are made
-- ready before it sends
-- takes the same steps as one whose packets are made ready by the end of the poll.
use Rattle.std.proofs.Common.{◌≡◌, ℕ, Bool, true, false, cond, Some, None, List, [], ◌∷◌, refl, sym}
use Rattle.std.proofs.Common.{subst, ◌∙◌, ap, ap₂}
use Rattle.std.specs.Prelude.{map, slice_get}
use Rattle.rpc_base.specs.Tables.{without_first}
use Rattle.rpc_base.specs.declared.event.Event.TheVariants.{Polled, Sent}
use Rattle.rpc_base.specs.declared.fact.Fact.{Fact}
use Rattle.rpc_base.specs.declared.owner.Owner.{Owner}
use Rattle.rpc_base.specs.declared.owner.Owner.TheVariants.{Ask, Reply, Control}
use Rattle.rpc_laws.specs.declared.tables.Lists.{Lists}
use Rattle.rpc_laws.specs.declared.tables.Queued.{Queued}
use Rattle.rpc_laws.specs.declared.tables.Timed.{Timed}
use Rattle.rpc_laws.specs.Facts.{plain, with_two}
use Rattle.rpc_laws.specs.NodeLists.{after, after_all}
use Rattle.rpc_laws.specs.Packets.{owner_packet}
use Rattle.rpc_laws.specs.PollOrder.{Closes, Sends}
use Rattle.rpc_laws.specs.Queues.{is_due, is_queued, made_ready}
use Rattle.rpc_laws.specs.Steps.{Chain, none, more}

-- the due packets of a node are made ready
abbrev pub readied_lists : ℕ → Lists → Lists
readied_lists clock s = record s { queued = map (made_ready clock) s.queued }

abbrev pub readied : Timed → Timed
readied s = record { lists = readied_lists s.clock s.lists; clock = s.clock }

ready-owner : (clock : ℕ) (q : Queued) (o : Owner) (k : ℕ) (b : Bool) → is_due clock q.due ≡ b
    → is_queued o k (made_ready clock q) ≡ is_queued o k q
ready-owner clock q o k true e = rw e refl
ready-owner clock q o k false e = rw e refl

ready-idempotent : (clock : ℕ) (q : Queued) (b : Bool) → is_due clock q.due ≡ b
    → made_ready clock (made_ready clock q) ≡ made_ready clock q
ready-idempotent clock q true e = rw e refl
ready-idempotent clock q false e = rw (e, e) refl

-- taking a packet out, and making ready
without-step : (clock : ℕ) (o : Owner) (k : ℕ) (q : Queued) (qs : List Queued) (b : Bool)
    → without_first (is_queued o k) (map (made_ready clock) qs)
    ≡ map (made_ready clock) (without_first (is_queued o k) qs)
    → cond b (map (made_ready clock) qs) (made_ready clock q
    ∷ without_first (is_queued o k) (map (made_ready clock) qs))
    ≡ map (made_ready clock) (cond b qs (q ∷ without_first (is_queued o k) qs))
without-step clock o k q qs true ih = refl
without-step clock o k q qs false ih = ap (λ ys. made_ready clock q ∷ ys) ih

pub without-ready : (clock : ℕ) (o : Owner) (k : ℕ) (qs : List Queued)
    → without_first (is_queued o k) (map (made_ready clock) qs)
    ≡ map (made_ready clock) (without_first (is_queued o k) qs)
without-ready clock o k [] = refl
without-ready clock o k (q ∷ qs) =
    rw (ready-owner clock q o k (is_due clock q.due) refl)
    (without-step clock o k q qs (is_queued o k q) (without-ready clock o k qs))

pub ready-twice : (clock : ℕ) (qs : List Queued)
    → map (made_ready clock) (map (made_ready clock) qs) ≡ map (made_ready clock) qs
ready-twice clock [] = refl
ready-twice clock (q ∷ qs) = rw (ready-idempotent clock q (is_due clock q.due) refl, ready-twice clock qs) refl

-- the front of the queue, before it was made ready
front-ready : (clock : ℕ) (qs : List Queued) (entry : Queued)
    → slice_get (map (made_ready clock) qs) 0 ≡ Some entry → is_due clock entry.due ≡ true
    → (q : Queued) × (slice_get qs 0 ≡ Some q) × (is_due clock q.due ≡ true)
    × (entry.owner ≡ q.owner) × (entry.number ≡ q.number)
front-ready clock [] entry e r = cc
front-ready clock (q ∷ qs) entry e r = at (is_due clock q.due) refl
  where
    at : (b : Bool) → is_due clock q.due ≡ b → (p : Queued) × (slice_get (q ∷ qs) 0 ≡ Some p)
        × (is_due clock p.due ≡ true) × (entry.owner ≡ p.owner) × (entry.number ≡ p.number)
    at true d =
        let same : Some (record q { due = None }) ≡ Some entry = rw d at e in
        let is : record q { due = None } ≡ entry = cc in
        (q, refl, d, sym (ap (λ (x : Queued). x.owner) is), sym (ap (λ (x : Queued). x.number) is))
    at false d =
        let same : Some q ≡ Some entry = rw d at e in
        let is : q ≡ entry = cc in (
          q,
          refl,
          ap (λ (x : Queued). is_due clock x.due) is ∙ r,
          sym (ap (λ (x : Queued). x.owner) is),
          sym (ap (λ (x : Queued). x.number) is),
        )

-- a packet doesn't depend on when others are due
packet-ready : (clock : ℕ) (s : Lists) (o : Owner) (k : ℕ)
    → owner_packet (readied_lists clock s) o k ≡ owner_packet s o k
packet-ready clock s (Ask session r) k = refl
packet-ready clock s (Reply session r) k = refl
packet-ready clock s Control k = refl

after-ready : (clock : ℕ) (s : Lists) (peer : ℕ) (o : Owner) (k : ℕ) (head body : List ℕ)
    → after clock (readied_lists clock s) (with_two s.me (Sent peer o k) head body)
    ≡ readied_lists clock (after clock s (with_two s.me (Sent peer o k) head body))
after-ready clock s peer o k head body =
    ap (λ (qs : List Queued). record (after clock s (with_two s.me (Sent peer o k) head body))
    { queued = qs }) (without-ready clock o k s.queued)

-- a packet is sent from the queue as it is
pub sends-ready : (s : Timed) (x : List Fact) (u : Timed) → Sends (readied s) x u → (t : Timed)
    × Sends s x t × (u ≡ readied t)
sends-ready s x u h =
    let front = front-ready s.clock s.lists.queued h.entry h.is_front h.ready in
    let q = front.0 in
    let f = with_two s.lists.me (Sent h.out.peer q.owner q.number) h.head h.out.body in
    let facts : x ≡ f ∷ [] =
    h.facts ∙ ap₂ (λ (o : Owner) (k : ℕ). with_two s.lists.me (Sent h.out.peer o k) h.head
    h.out.body ∷ []) front.3 front.4 in
    let packet : owner_packet s.lists q.owner q.number ≡ Some h.out =
    sym (packet-ready s.clock s.lists q.owner q.number)
    ∙ ap₂ (λ (o : Owner) (k : ℕ). owner_packet (readied_lists s.clock s.lists) o k)
    (sym front.3) (sym front.4) ∙ h.packet in
    let t : Timed = record { lists = after_all s.clock s.lists x; clock = s.clock } in
    let one : Sends s x t =
    record {
      entry = q;
      is_front = front.1;
      ready = front.2;
      out = h.out;
      packet = packet;
      head = h.head;
      in_range = h.in_range;
      has_head = h.has_head;
      long = h.long;
      bytes =
          h.bytes;
      facts = facts;
      goes = refl;
    } in
    let same : u ≡ readied t =
    h.goes ∙ (rw facts (ap (λ (l : Lists). record { lists = l; clock = s.clock })
    (after-ready s.clock s.lists h.out.peer q.owner q.number h.head h.out.body))) in
    (t, one, same)

-- and so are any number of them
pub chain-ready : (s : Timed) {x : List Fact} {u : Timed} → Chain Sends (readied s) x u
    → (t : Timed) × Chain Sends s x t × (u ≡ readied t)
chain-ready s none = (s, none, refl)
chain-ready s (more {x} {t} c y v h) =
    let before = chain-ready s c in
    let one : Sends (readied before.0) y v = subst (λ (w : Timed). Sends w y v) before.2 h in
    let next = sends-ready before.0 y v one in
    (next.0, more before.1 y next.0 next.1, next.2)

-- the end of the poll makes ready what was due
pub closes-ready : (s : Timed) (x : List Fact) (u : Timed) → Closes (readied s) x u → Closes s x u
closes-ready s x u h =
    record {
      facts = h.facts;
      goes = h.goes ∙ (rw h.facts (ap (λ (qs : List Queued).
          record {
            lists = record (after s.clock s.lists (plain s.lists.me (Polled s.clock)))
                { queued = qs };
            clock = s.clock;
          }) (ready-twice s.clock s.lists.queued)));
    }
