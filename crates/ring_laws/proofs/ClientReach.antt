-- The other direction: a packet of a client session that leaves its node is sent, taken, dropped or flushed.
use Rattle.ring_laws.proofs.ClientSteps.{control-out}
use Rattle.std.proofs.Common.{◌≡◌, ◌+◌, ◌≤◌, ◌==◌, ◌&&◌, ℕ, Bool, true, false, cond, List, [], ◌∷◌}
use Rattle.std.proofs.Common.{drop, eq-eqb, Option, Some, None, refl, sym, arith}
use Rattle.std.specs.Prelude.{option_to_list}
use Rattle.std.specs.List.{find}
use Rattle.std.proofs.lemmas.Bool.{eqb-true, and_parts, both_ways}
use Rattle.packet_header.specs.Reading.{message_of}
use Rattle.rpc_base.specs.Owners.{same_owner}
use Rattle.rpc_base.specs.declared.event.Event.{Event}
use Rattle.rpc_base.specs.declared.event.Event.TheVariants.{Posted, Flushed, Sent, Arrived, Took}
use Rattle.rpc_base.specs.declared.event.Event.TheVariants.{Again, Dropped, Polled}
use Rattle.rpc_base.specs.declared.fact.Fact.{Fact}
use Rattle.rpc_base.specs.declared.owner.Owner.{Owner}
use Rattle.rpc_base.specs.declared.owner.Owner.TheVariants.{Ask, Reply, Control}
use Rattle.rpc_base.proofs.TakingLemmas.{find-passes}
use Rattle.rpc_laws.specs.declared.tables.Arrival.{Arrival}
use Rattle.rpc_laws.specs.declared.tables.InFlight.{InFlight}
use Rattle.rpc_laws.specs.declared.tables.Lists.{Lists}
use Rattle.rpc_laws.specs.declared.tables.Queued.{Queued}
use Rattle.rpc_laws.specs.Front.{front_header}
use Rattle.rpc_laws.specs.Queues.{is_queued, ring_after, queued_after}
use Rattle.end_laws.proofs.Allowed.{Linked, May}
use Rattle.ring_laws.proofs.ClientSteps.{front-counts, front-queued, turn-replies}
use Rattle.ring_laws.proofs.Counting.{count, count-out, count-found}
use Rattle.ring_laws.proofs.Loads.{count-put, count-ready, count-arrives, Filter, replies, own_ask}
use Rattle.ring_laws.proofs.Loads.{client_packets, posted_ask, took_reply, sent_ask, given_reply}
use Rattle.ring_laws.proofs.ServerReach.{one-count}
use Rattle.ring_laws.proofs.ServerSteps.{taken-kind}

-- what a fact takes out of the ring or the queue otherwise
abbrev pub spilt_reply : Filter → ℕ → Event → Lists → ℕ
spilt_reply p s (Dropped why) l = cond (replies p l.life s (front_header l.ring)) 1 0
spilt_reply p s (Flushed o k) l = cond (own_ask p s o k) 1 0
spilt_reply p s _ l = 0

drop-counts : (p : Filter) (life s : ℕ) (ring : List Arrival)
    → count (λ a. replies p life s (message_of a.bytes)) ring ≤ count
    (λ a. replies p life s (message_of a.bytes)) (drop 1 ring)
    + cond (replies p life s (front_header ring)) 1 0
drop-counts p life s [] = omega arith
drop-counts p life s (d ∷ ds) = omega arith

same-ask : (p : Filter) (s : ℕ) (a b : Owner) (n k : ℕ) → same_owner a b ≡ true → (n == k) ≡ true
    → own_ask p s a n ≡ own_ask p s b k
same-ask p s (Ask a b) (Ask t r) n k e f =
    let two = and_parts (a == t) (b == r) e in
    rw (eqb-true a t two.0, eqb-true b r two.1, eqb-true n k f) refl
same-ask p s (Reply a b) (Reply t r) n k e f = refl
same-ask p s Control Control n k e f = refl
same-ask p s (Ask a b) (Reply t r) n k e f = absurd (both_ways false refl e)
same-ask p s (Ask a b) Control n k e f = absurd (both_ways false refl e)
same-ask p s (Reply a b) (Ask t r) n k e f = absurd (both_ways false refl e)
same-ask p s (Reply a b) Control n k e f = refl
same-ask p s Control (Ask t r) n k e f = absurd (both_ways false refl e)
same-ask p s Control (Reply t r) n k e f = refl

flushed-count : (p : Filter) (s : ℕ) (o : Owner) (k : ℕ) (found : Option Queued)
    (queued : List Queued) → find (is_queued o k) queued ≡ found
    → count (λ (q : Queued). own_ask p s q.owner q.number)
    (option_to_list found) ≤ cond (own_ask p s o k) 1 0
flushed-count p s o k None queued is = omega arith
flushed-count p s o k (Some q) queued is =
    let parts = and_parts (same_owner q.owner o) (q.number == k) (find-passes (is_queued o k) queued q is) in
    let one = one-count _ _ (same-ask p s q.owner o q.number k parts.0 parts.1) in
    omega arith

-- facts that a node notes
abbrev pub is_noted : Event → Bool
is_noted (Again (Ask s r) k) = false
is_noted (Again Control k) = false
is_noted _ = true

abbrev pub ClientReach : Filter → ℕ → Option ℕ → Event → List ℕ → Lists → Type 0
ClientReach p s due e first l =
    client_packets p s l + posted_ask p s e + given_reply p l.life s e first ≤ count
    (λ q. own_ask p s q.owner q.number) (queued_after e due l.queued)
    + count (λ a. replies p l.life s (message_of a.bytes)) (ring_after e first l.ring) + sent_ask p s e
    + took_reply p s e + spilt_reply p s e l

pub client-reach : (p : Filter) (s : ℕ) (due : Option ℕ) (latest : Option Fact)
    (hand : Option InFlight) (l : Lists) (e : Event) (first second : List ℕ)
    → May hand l e first second → Linked latest l e first → is_noted e ≡ true
    → ClientReach p s due e first l
client-reach p s due latest hand l (Posted (Ask a r) k) first second m o noted =
    let q = count-put (λ (q : Queued). own_ask p s q.owner q.number)
    (record { owner = Ask a r; number = k; due = due }) l.queued in
    omega arith
client-reach p s due latest hand l (Posted (Reply t r) k) first second m o noted =
    let q = count-put (λ (q : Queued). own_ask p s q.owner q.number)
    (record { owner = Reply t r; number = k; due = due }) l.queued in
    omega arith
client-reach p s due latest hand l (Posted Control k) first second m o noted = absurd m
client-reach p s due latest hand l (Flushed owner k) first second m o noted =
    let out = count-out (λ (q : Queued). own_ask p s q.owner q.number) (is_queued owner k) l.queued in
    let few = flushed-count p s owner k _ l.queued refl in
    omega arith
client-reach p s due latest hand l (Sent peer (Ask a r) k) first second m o noted =
    let q = count-found (λ (q : Queued). own_ask p s q.owner q.number)
    (is_queued (Ask a r) k) l.queued _
    (front-queued l.queued (Ask a r) k m.due m.is_front) in
    omega arith
client-reach p s due latest hand l (Sent peer (Reply t r) k) first second m o noted =
    let q = count-found (λ (q : Queued). own_ask p s q.owner q.number)
    (is_queued (Reply t r) k) l.queued _
    (front-queued l.queued (Reply t r) k m.due m.is_front) in
    omega arith
client-reach p s due latest hand l (Sent peer Control k) first second m o noted =
    let q = control-out (own_ask p s) (λ n. refl) k l.queued in omega arith
client-reach p s due latest hand l (Arrived peer) first second m o noted =
    let r = count-arrives (replies p l.life s) refl (record { peer = peer; bytes = first }) l.ring in
    omega arith
client-reach p s due latest hand l (Took (Ask a r) k) first second m o noted =
    let h = m.header in
    let kind = turn-replies _ _ _ h _ m.of_turn in
    let number : k ≡ h.number = sym (o h m.is_front.reads) in
    let front = front-counts (replies p l.life s) l.ring m.front h m.is_front.is_front m.is_front.reads in
    let counted : cond {A = ℕ} (replies p l.life s (Some h)) 1 0 ≡ cond (a == s && p r k) 1 0 =
    rw (kind, m.is_front.for_us, eq-eqb l.life l.life refl, m.of_session, m.of_request, number) refl in
    omega arith
client-reach p s due latest hand l (Took (Reply t r) k) first second m o noted =
    let h = m.header in
    let kind = taken-kind m.going m.server.slots h m.takes in
    let front = front-counts (replies p l.life s) l.ring m.front h m.is_front.is_front m.is_front.reads in
    let counted : cond {A = ℕ} (replies p l.life s (Some h)) 1 0 ≡ 0 = rw kind refl in
    omega arith
client-reach p s due latest hand l (Took Control k) first second m o noted = absurd m
client-reach p s due latest hand l (Again (Reply t r) k) first second m o noted =
    let h = m.header in
    let front = front-counts (replies p l.life s) l.ring m.front h m.is_front.is_front m.is_front.reads in
    let counted : cond {A = ℕ} (replies p l.life s (Some h)) 1 0 ≡ 0 = rw (m.asks) refl in
    omega arith
client-reach p s due latest hand l (Again (Ask a r) k) first second m o noted = absurd (both_ways false refl noted)
client-reach p s due latest hand l (Again Control k) first second m o noted = absurd (both_ways false refl noted)
client-reach p s due latest hand l (Dropped why) first second m o noted =
    let d = drop-counts p l.life s l.ring in
    omega arith
client-reach p s due latest hand l (Polled now) first second m o noted =
    let q = count-ready (own_ask p s) now l.queued in
    omega arith
client-reach p s due latest hand l _ first second m o noted = omega arith
