-- The other direction: a packet of a server session that leaves its node is sent, dropped or flushed.
use Rattle.ring_laws.proofs.ClientSteps.{control-out}
use Rattle.std.proofs.Common.{◌≡◌, ◌+◌, ◌≤◌, ◌==◌, ◌&&◌, ℕ, Bool, true, false, cond, List, []}
use Rattle.std.proofs.Common.{◌∷◌, drop, eq-eqb, Option, Some, None, refl, ap, arith}
use Rattle.std.specs.Prelude.{option_to_list}
use Rattle.std.specs.List.{find}
use Rattle.std.proofs.lemmas.Bool.{eqb-true, and_parts, both_ways}
use Rattle.packet_header.specs.Reading.{message_of}
use Rattle.rpc_base.specs.Owners.{same_owner}
use Rattle.rpc_base.specs.declared.event.Event.{Event}
use Rattle.rpc_base.specs.declared.event.Event.TheVariants.{Posted, Flushed, Sent, Arrived, Took}
use Rattle.rpc_base.specs.declared.event.Event.TheVariants.{Again, Dropped, Given, Ran, Polled}
use Rattle.rpc_base.specs.declared.owner.Owner.{Owner}
use Rattle.rpc_base.specs.declared.owner.Owner.TheVariants.{Ask, Reply, Control}
use Rattle.rpc_base.proofs.TakingLemmas.{find-passes}
use Rattle.rpc_laws.specs.declared.tables.Arrival.{Arrival}
use Rattle.rpc_laws.specs.declared.tables.InFlight.{InFlight}
use Rattle.rpc_laws.specs.declared.tables.Lists.{Lists}
use Rattle.rpc_laws.specs.declared.tables.Queued.{Queued}
use Rattle.rpc_laws.specs.Front.{front_header}
use Rattle.rpc_laws.specs.Jobs.{is_job, jobs_after}
use Rattle.rpc_laws.specs.Queues.{is_queued, ring_after, queued_after}
use Rattle.end_laws.proofs.Allowed.{owes, May}
use Rattle.ring_laws.proofs.ClientSteps.{front-counts, front-queued, turn-replies}
use Rattle.ring_laws.proofs.Counting.{count, count-out, count-found}
use Rattle.ring_laws.proofs.Loads.{count-put, count-ready, count-arrives, Filter, asks, own_reply}
use Rattle.ring_laws.proofs.Loads.{own_job, server_packets, sent_reply, given_ask}
use Rattle.ring_laws.proofs.ServerSteps.{taken-kind}

-- no job of a request is out
abbrev pub NoneOut : Lists → (t r : ℕ) → Type 0
NoneOut l t r = find (is_job t r) l.jobs.out ≡ None

pub one-count : (a b : Bool) → a ≡ b → cond {A = ℕ} a 1 0 ≡ cond b 1 0
one-count a b e = ap {B = ℕ} (λ (c : Bool). cond c 1 0) e

-- what a fact takes out of the ring or the queue otherwise
abbrev pub spilt_ask : Filter → ℕ → Event → Lists → ℕ
spilt_ask p t (Dropped why) l = cond (asks p l.life t (front_header l.ring)) 1 0
spilt_ask p t (Flushed o k) l = cond (own_reply p t o k) 1 0
spilt_ask p t _ l = 0

pub drop-counts : (p : Filter) (life t : ℕ) (ring : List Arrival)
    → count (λ a. asks p life t (message_of a.bytes)) ring
    ≤ count (λ a. asks p life t (message_of a.bytes)) (drop 1 ring)
    + cond (asks p life t (front_header ring)) 1 0
drop-counts p life t [] = omega arith
drop-counts p life t (d ∷ ds) = omega arith

same-reply : (p : Filter) (t : ℕ) (a b : Owner) (n k : ℕ) → same_owner a b ≡ true → (n == k) ≡ true
    → own_reply p t a n ≡ own_reply p t b k
same-reply p t (Reply a b) (Reply s r) n k e f =
    let two = and_parts (a == s) (b == r) e in
    rw (eqb-true a s two.0, eqb-true b r two.1, eqb-true n k f) refl
same-reply p t (Ask a b) (Ask s r) n k e f = refl
same-reply p t Control Control n k e f = refl
same-reply p t (Ask a b) (Reply s r) n k e f = absurd (both_ways false refl e)
same-reply p t (Ask a b) Control n k e f = refl
same-reply p t (Reply a b) (Ask s r) n k e f = absurd (both_ways false refl e)
same-reply p t (Reply a b) Control n k e f = absurd (both_ways false refl e)
same-reply p t Control (Ask s r) n k e f = refl
same-reply p t Control (Reply s r) n k e f = absurd (both_ways false refl e)

flushed-count : (p : Filter) (t : ℕ) (o : Owner) (k : ℕ) (found : Option Queued)
    (queued : List Queued) → find (is_queued o k) queued ≡ found
    → count (λ (q : Queued). own_reply p t q.owner q.number)
    (option_to_list found) ≤ cond (own_reply p t o k) 1 0
flushed-count p t o k None queued is = omega arith
flushed-count p t o k (Some q) queued is =
    let parts = and_parts (same_owner q.owner o) (q.number == k) (find-passes (is_queued o k) queued q is) in
    let one = one-count _ _ (same-reply p t q.owner o q.number k parts.0 parts.1) in
    omega arith

-- facts that a node notes, but for those that post a reply, give a job or run a handler
abbrev pub is_other : Event → Bool
is_other (Posted (Reply t r) k) = false
is_other (Given t r) = false
is_other (Ran t r y) = false
is_other (Again (Ask s r) k) = false
is_other (Again Control k) = false
is_other _ = true

-- all others, where nothing is owed
abbrev pub ServerReach : Filter → ℕ → Option ℕ → Event → List ℕ → Lists → Type 0
ServerReach p t due e first l =
    server_packets p t l + given_ask p l.life t e first ≤ count (λ q. own_reply p t q.owner q.number)
    (queued_after e due l.queued) + count (own_job p t) (jobs_after e l.servers l.jobs).out
    + count (λ a. asks p l.life t (message_of a.bytes)) (ring_after e first l.ring)
    + cond (owes p t e first) 1 0 + sent_reply p t e + spilt_ask p t e l

pub server-reach : (p : Filter) (t : ℕ) (due : Option ℕ) (hand : Option InFlight) (l : Lists)
    (e : Event) (first second : List ℕ) → May hand l e first second → is_other e ≡ true
    → ServerReach p t due e first l
server-reach p t due hand l (Posted (Ask s r) k) first second m plain =
    let q = count-put (λ (q : Queued). own_reply p t q.owner q.number)
    (record { owner = Ask s r; number = k; due = due }) l.queued in
    omega arith
server-reach p t due hand l (Posted (Reply s r) k) first second m plain = absurd (both_ways false refl plain)
server-reach p t due hand l (Posted Control k) first second m plain = absurd m
server-reach p t due hand l (Given s r) first second m plain = absurd (both_ways false refl plain)
server-reach p t due hand l (Ran s r y) first second m plain = absurd (both_ways false refl plain)
server-reach p t due hand l (Flushed o k) first second m plain =
    let out = count-out (λ (q : Queued). own_reply p t q.owner q.number) (is_queued o k) l.queued in
    let few = flushed-count p t o k _ l.queued refl in
    omega arith
server-reach p t due hand l (Sent peer (Reply s r) k) first second m plain =
    let q = count-found (λ (q : Queued). own_reply p t q.owner q.number)
    (is_queued (Reply s r) k) l.queued _
    (front-queued l.queued (Reply s r) k m.due m.is_front) in
    omega arith
server-reach p t due hand l (Sent peer (Ask s r) k) first second m plain =
    let q = count-found (λ (q : Queued). own_reply p t q.owner q.number)
    (is_queued (Ask s r) k) l.queued _
    (front-queued l.queued (Ask s r) k m.due m.is_front) in
    omega arith
server-reach p t due hand l (Arrived peer) first second m plain =
    let r = count-arrives (asks p l.life t) refl (record { peer = peer; bytes = first }) l.ring in
    omega arith
server-reach p t due hand l (Took (Reply s r) k) first second m plain =
    let h = m.header in
    let kind = taken-kind m.going m.server.slots h m.takes in
    let front = front-counts (asks p l.life t) l.ring m.front h m.is_front.is_front m.is_front.reads in
    let counted : cond {A = ℕ} (asks p l.life t (Some h)) 1 0 ≡ cond (s == t && p r k) 1 0 =
    rw (kind, m.is_front.for_us, eq-eqb l.life l.life refl, m.of_session, m.of_request, m.of_number) refl in
    omega arith
server-reach p t due hand l (Took (Ask s r) k) first second m plain =
    let h = m.header in
    let kind = turn-replies _ _ _ h _ m.of_turn in
    let front = front-counts (asks p l.life t) l.ring m.front h m.is_front.is_front m.is_front.reads in
    let counted : cond {A = ℕ} (asks p l.life t (Some h)) 1 0 ≡ 0 = rw kind refl in
    omega arith
server-reach p t due hand l (Took Control k) first second m plain = absurd m
server-reach p t due hand l (Again (Reply s r) k) first second m plain =
    let h = m.header in
    let front = front-counts (asks p l.life t) l.ring m.front h m.is_front.is_front m.is_front.reads in
    let counted : cond {A = ℕ} (asks p l.life t (Some h)) 1 0 ≡ cond (s == t && p r k) 1 0 =
    rw (m.asks, m.is_front.for_us, eq-eqb l.life l.life refl, m.of_session, m.of_request, m.of_number) refl in
    omega arith
server-reach p t due hand l (Again (Ask s r) k) first second m plain = absurd (both_ways false refl plain)
server-reach p t due hand l (Again Control k) first second m plain = absurd (both_ways false refl plain)
server-reach p t due hand l (Dropped why) first second m plain = let d = drop-counts p l.life t l.ring in omega arith
server-reach p t due hand l (Polled now) first second m plain =
    let q = count-ready (own_reply p t) now l.queued in
    omega arith
server-reach p t due hand l (Sent peer Control k) first second m plain =
    let q = control-out (own_reply p t) (λ n. refl) k l.queued in omega arith
server-reach p t due hand l _ first second m plain = omega arith
