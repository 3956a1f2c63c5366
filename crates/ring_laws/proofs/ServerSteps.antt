-- A fact of a node adds nothing to what a server session has, but a packet that arrives.
use Rattle.std.proofs.Common.{◌≡◌, ◌+◌, ◌-◌, ◌≤◌, ◌==◌, ◌&&◌, inl, inr, ℕ, true, cond, List}
use Rattle.std.proofs.Common.{eq-eqb, length, Option, Some, None, refl, ap, arith}
use Rattle.std.proofs.lemmas.Bool.{eqb-true, and_parts}
use Rattle.packet_header.specs.Parts.{packet_count}
use Rattle.packet_header.specs.Reading.{message_of}
use Rattle.packet_header.specs.declared.packet.Kind.{Kind}
use Rattle.packet_header.specs.declared.packet.Kind.TheVariants.{Request, Rfr, Cr, Response}
use Rattle.packet_header.specs.declared.packet.MessageHeader.{MessageHeader}
use Rattle.rpc_base.specs.declared.event.Event.{Event}
use Rattle.rpc_base.specs.declared.event.Event.TheVariants.{Posted, Flushed, Sent, Arrived, Took}
use Rattle.rpc_base.specs.declared.event.Event.TheVariants.{Again, Dropped, Given, Ran, Polled}
use Rattle.rpc_base.specs.declared.fact.Fact.{Fact}
use Rattle.rpc_base.specs.declared.owner.Owner.TheVariants.{Ask, Reply, Control}
use Rattle.rpc_laws.specs.declared.tables.Arrival.{Arrival}
use Rattle.rpc_laws.specs.declared.tables.InFlight.{InFlight}
use Rattle.rpc_laws.specs.declared.tables.Lists.{Lists}
use Rattle.rpc_laws.specs.declared.tables.Queued.{Queued}
use Rattle.rpc_laws.specs.declared.tables.Served.{Served}
use Rattle.rpc_laws.specs.Jobs.{job_of, new_job, is_job, jobs_after}
use Rattle.rpc_laws.specs.Front.{is_message}
use Rattle.end_laws.proofs.Rights.{job-number}
use Rattle.rpc_laws.specs.Queues.{is_queued, ring_after, queued_after}
use Rattle.rpc_laws.specs.AtMostOnce.{is_at}
use Rattle.rpc_laws.specs.Requests.{is_request}
use Rattle.rpc_base.proofs.TakingLemmas.{find-passes}
use Rattle.end_laws.specs.Kinds.{is_ask}
use Rattle.end_laws.proofs.Allowed.{GoesOn, TakesOf, IsWhole, owes, is_owed, is_packet, Owes, Linked, May}
use Rattle.end_laws.proofs.JobLemmas.{new-is}
use Rattle.ring_laws.proofs.ClientSteps.{front-counts, front-queued}
use Rattle.ring_laws.proofs.Counting.{count, count-append, count-drop, count-less, count-found}
use Rattle.ring_laws.proofs.Loads.{count-put, count-ready, count-arrived, Filter, asks, own_reply}
use Rattle.ring_laws.proofs.Loads.{own_job, server_packets, sent_reply, given_ask}
use Rattle.rpc_base.proofs.BasicLemmas.{false-true}

-- a packet that a server session takes asks
goes-kind : (k : Kind) (q : Served) (h : MessageHeader) → GoesOn k q h → is_ask k ≡ true
goes-kind Request q h g = refl
goes-kind Rfr q h g = refl
goes-kind Cr q h g = absurd g
goes-kind Response q h g = absurd g

pub taken-kind : (going : Option Served) (slots : List Served) (h : MessageHeader)
    → TakesOf going slots h → is_ask h.kind ≡ true
taken-kind None slots h t = ap is_ask t.0
taken-kind (Some q) slots h t = goes-kind h.kind q h t.2

-- one job is given, of the last packet of its request
pub new-counts : (p : Filter) (l : Lists) (t r s : ℕ) (w : IsWhole l t r)
    → count (own_job p s) (new_job t r l.servers)
    ≡ cond (t == s && p r (packet_count (length w.request.ask) - 1)) 1 0
new-counts p l t r s w =
    let number : w.request.number ≡ r =
    eqb-true w.request.number r (find-passes (is_request r) w.server.slots w.request
    w.is_there) in
    let one : own_job p s (job_of t w.request)
    ≡ (t == s && p r (packet_count (length w.request.ask) - 1)) =
    ap (λ (i : ℕ). t == s && p i (packet_count (length w.request.ask) - 1)) number in
    rw (new-is l t r w, one) (omega arith)

-- a reply that is owed for one packet is owed where this one passes
packet-moves : (p : Filter) (t r k s session request number : ℕ)
    → (session == t && (request == r && number == k)) ≡ true
    → (session == s && p request number) ≡ (t == s && p r k)
packet-moves p t r k s session request number e =
    let one = and_parts (session == t) (request == r && number == k) e in
    let two = and_parts (request == r) (number == k) one.1 in
    rw (eqb-true session t one.0, eqb-true request r two.0, eqb-true number k two.1) refl

pub owes-moves : (p : Filter) (t r k s : ℕ) (e : Event) (bytes : List ℕ)
    → owes (is_packet r k) t e bytes ≡ true → owes p s e bytes ≡ (t == s && p r k)
owes-moves p t r k s (Took (Reply session request) number) bytes h = packet-moves p t r k s session request number h
owes-moves p t r k s (Took (Ask session request) number) bytes h = false-true h
owes-moves p t r k s (Took Control number) bytes h = false-true h
owes-moves p t r k s (Again (Reply session request) number) bytes h = packet-moves p t r k s session request number h
owes-moves p t r k s (Again (Ask session request) number) bytes h = false-true h
owes-moves p t r k s (Again Control number) bytes h = false-true h
owes-moves p t r k s (Ran session request y) bytes h =
    packet-moves p t r k s session request (packet_count (length bytes) - 1) h
owes-moves p t r k s _ bytes h = false-true h

owed-counts : (p : Filter) (me t r k s : ℕ) (latest : Option Fact) → Owes latest me t r k
    → cond {A = ℕ} (t == s && p r k) 1 0 ≤ cond (is_owed p me s latest) 1 0
owed-counts p me t r k s None o = false-true o
owed-counts p me t r k s (Some f) o =
    let parts = and_parts (is_at me f.who) (owes (is_packet r k) t f.event f.first) o in
    let same = owes-moves p t r k s f.event f.first parts.1 in
    rw (parts.0, same) (omega arith)

-- what a server session has after a fact; the reply that is owed stands between
abbrev pub ServerStep : Filter → ℕ → Option ℕ → Option Fact → Event → List ℕ → Lists → Type 0
ServerStep p t due latest e first l =
    count (λ q. own_reply p t q.owner q.number) (queued_after e due l.queued)
    + count (own_job p t) (jobs_after e l.servers l.jobs).out
    + count (λ a. asks p l.life t (message_of a.bytes)) (ring_after e first l.ring)
    + cond (owes p t e first) 1 0 + sent_reply p t e ≤ server_packets p t l
    + cond (is_owed p l.me t latest) 1 0 + given_ask p l.life t e first

pub server-step : (p : Filter) (t : ℕ) (due : Option ℕ) (latest : Option Fact)
    (hand : Option InFlight) (l : Lists) (e : Event) (first second : List ℕ)
    → May hand l e first second → Linked latest l e first → ServerStep p t due latest e first l
server-step p t due latest hand l (Posted (Ask s r) k) first second m o =
    let q = count-put (λ (q : Queued). own_reply p t q.owner q.number)
    (record { owner = Ask s r; number = k; due = due }) l.queued in
    omega arith
server-step p t due latest hand l (Posted (Reply s r) k) first second m o =
    let q = count-put (λ (q : Queued). own_reply p t q.owner q.number)
    (record { owner = Reply s r; number = k; due = due }) l.queued in
    let w = owed-counts p l.me s r k t latest o in
    omega arith
server-step p t due latest hand l (Posted Control k) first second m o = absurd m
server-step p t due latest hand l (Flushed owner k) first second m o =
    let q = count-less (λ (q : Queued). own_reply p t q.owner q.number) (is_queued owner k) l.queued in
    omega arith
server-step p t due latest hand l (Sent peer (Reply s r) k) first second m o =
    let q = count-found (λ (q : Queued). own_reply p t q.owner q.number)
    (is_queued (Reply s r) k) l.queued _
    (front-queued l.queued (Reply s r) k m.due m.is_front) in
    omega arith
server-step p t due latest hand l (Sent peer (Ask s r) k) first second m o =
    let q = count-less (λ (q : Queued). own_reply p t q.owner q.number) (is_queued (Ask s r) k) l.queued in
    omega arith
server-step p t due latest hand l (Sent peer Control k) first second m o =
    let q = count-less (λ (q : Queued). own_reply p t q.owner q.number) (is_queued Control k) l.queued in
    omega arith
server-step p t due latest hand l (Arrived peer) first second m o =
    let r = count-arrived (asks p l.life t) (is_message first) (record { peer = peer; bytes = first }) l.ring in
    omega arith
server-step p t due latest hand l (Polled now) first second m o =
    let q = count-ready (own_reply p t) now l.queued in
    omega arith
server-step p t due latest hand l (Took (Reply s r) k) first second m o =
    let h = m.header in
    let kind = taken-kind m.going m.server.slots h m.takes in
    let front = front-counts (asks p l.life t) l.ring m.front h m.is_front.is_front m.is_front.reads in
    let counted : cond {A = ℕ} (asks p l.life t (Some h)) 1 0 ≡ cond (s == t && p r k) 1 0 =
    rw (kind, m.is_front.for_us, eq-eqb l.life l.life refl, m.of_session, m.of_request, m.of_number) refl in
    omega arith
server-step p t due latest hand l (Took (Ask s r) k) first second m o =
    let d = count-drop (λ (a : Arrival). asks p l.life t (message_of a.bytes)) l.ring in
    omega arith
server-step p t due latest hand l (Took Control k) first second m o =
    let d = count-drop (λ (a : Arrival). asks p l.life t (message_of a.bytes)) l.ring in
    omega arith
server-step p t due latest hand l (Again (Reply s r) k) first second m o =
    let h = m.header in
    let front = front-counts (asks p l.life t) l.ring m.front h m.is_front.is_front m.is_front.reads in
    let counted : cond {A = ℕ} (asks p l.life t (Some h)) 1 0 ≡ cond (s == t && p r k) 1 0 =
    rw (m.asks, m.is_front.for_us, eq-eqb l.life l.life refl, m.of_session, m.of_request, m.of_number) refl in
    omega arith
server-step p t due latest hand l (Again (Ask s r) k) first second m o =
    let d = count-drop (λ (a : Arrival). asks p l.life t (message_of a.bytes)) l.ring in
    omega arith
server-step p t due latest hand l (Again Control k) first second m o =
    let d = count-drop (λ (a : Arrival). asks p l.life t (message_of a.bytes)) l.ring in
    omega arith
server-step p t due latest hand l (Dropped why) first second m o =
    let d = count-drop (λ (a : Arrival). asks p l.life t (message_of a.bytes)) l.ring in
    omega arith
server-step p t due latest hand l (Given s r) first second m o =
    let j = count-append (own_job p t) l.jobs.out (new_job s r l.servers) in
    let new = new-counts p l s r t o.has in
    let w = owed-counts p l.me s r (packet_count (length o.has.request.ask) - 1) t latest o.owed in
    omega arith
server-step p t due latest hand l (Ran s r y) first second m (inl o) =
    let j = count-less (own_job p t) (is_job s r) l.jobs.out in
    let w = owed-counts p l.me s r (packet_count (length first) - 1) t latest o in
    omega arith
server-step p t due latest hand l (Ran s r y) first second m (inr w) =
    let of = job-number s r l.jobs.out w.job w.is_out in
    let j = count-found (own_job p t) (is_job s r) l.jobs.out w.job w.is_out in
    let counted : cond {A = ℕ} (own_job p t w.job) 1 0
    ≡ cond (s == t && p r (packet_count (length first) - 1)) 1 0 =
    rw (of.0, of.1, w.own) refl in
    omega arith
server-step p t due latest hand l _ first second m o = omega arith
