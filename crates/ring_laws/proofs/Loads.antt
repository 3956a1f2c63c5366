-- What is on its way for one session: the packets of its two ends, in their nodes and in flight. A filter says
-- which packets count, by their request and their number.
use Rattle.std.proofs.Common.{◌≡◌, refl, ap, arith, ◌∷◌, ◌++◌, map, ◌+◌, ◌-◌, ◌≤◌, ◌==◌, ◌&&◌, ℕ}
use Rattle.std.proofs.Common.{Bool, true, false, not, cond, List, [], length, Option, Some, None}
use Rattle.std.proofs.Common.{slice_get}
use Rattle.std.specs.Prelude.{option_to_list, is_some}
use Rattle.rpc_laws.specs.Front.{is_message}
use Rattle.std.specs.List.{find}
use Rattle.packet_header.specs.Parts.{packet_count}
use Rattle.packet_header.specs.Reading.{message_of}
use Rattle.packet_header.specs.declared.packet.MessageHeader.{MessageHeader}
use Rattle.rpc_base.specs.declared.event.Event.{Event}
use Rattle.rpc_base.specs.declared.event.Event.TheVariants.{Posted, Sent, Arrived, Took}
use Rattle.rpc_base.specs.declared.owner.Owner.{Owner}
use Rattle.rpc_base.specs.declared.owner.Owner.TheVariants.{Ask, Reply}
use Rattle.rpc_laws.specs.declared.tables.Arrival.{Arrival}
use Rattle.rpc_laws.specs.declared.tables.Queued.{Queued}
use Rattle.rpc_laws.specs.Queues.{put_queued, stands_before, is_due, made_ready}
use Rattle.rpc_laws.specs.declared.tables.Client.{Client}
use Rattle.rpc_laws.specs.declared.tables.InFlight.{InFlight}
use Rattle.rpc_laws.specs.declared.tables.Job.{Job}
use Rattle.rpc_laws.specs.declared.tables.Lists.{Lists}
use Rattle.rpc_laws.specs.Sessions.{is_client, is_connected}
use Rattle.end_laws.specs.Moments.{Moment}
use Rattle.end_laws.specs.Kinds.{is_ask}
use Rattle.end_laws.proofs.Allowed.{is_owed, is_carried}
use Rattle.end_laws.proofs.Courses.{latest}
use Rattle.ring_laws.proofs.Counting.{count, value, count-add}

-- the two ends of a session, its client end and its server end, each with the life of its node
pub record Pairing : Type 0 where
  pub home : ℕ
  pub home_life : ℕ
  pub client : ℕ
  pub node : ℕ
  pub node_life : ℕ
  pub session : ℕ

-- which packets count, by request and number
abbrev pub Filter : Type 0
Filter = ℕ → ℕ → Bool

-- all of them
abbrev pub all : Filter
all r k = true

-- a packet for a server session of this life of its node
abbrev pub asks : Filter → (life t : ℕ) → Option MessageHeader → Bool
asks p life t None = false
asks p life t (Some h) =
    is_ask h.kind && (h.to_life == life && (h.session == t && p h.request h.number))

-- a packet for a client session of this life of its node
abbrev pub replies : Filter → (life s : ℕ) → Option MessageHeader → Bool
replies p life s None = false
replies p life s (Some h) =
    not (is_ask h.kind) && (h.to_life == life && (h.session == s && p h.request h.number))

abbrev pub own_ask : Filter → ℕ → Owner → ℕ → Bool
own_ask p s (Ask session r) k = session == s && p r k
own_ask p s _ k = false

abbrev pub own_reply : Filter → ℕ → Owner → ℕ → Bool
own_reply p t (Reply session r) k = session == t && p r k
own_reply p t _ k = false

-- a job stands for the last packet of its request
abbrev pub own_job : Filter → ℕ → Job → Bool
own_job p t j = j.session == t && p j.request (packet_count (length j.ask) - 1)

-- packets of client session s in a node: those that it queued, and replies in its ring
abbrev pub client_packets : Filter → ℕ → Lists → ℕ
client_packets p s l =
    count (λ q. own_ask p s q.owner q.number) l.queued
    + count (λ a. replies p l.life s (message_of a.bytes)) l.ring

-- packets of server session t in a node: replies that it queued, requests that are jobs, and packets in its ring
abbrev pub server_packets : Filter → ℕ → Lists → ℕ
server_packets p t l =
    count (λ q. own_reply p t q.owner q.number) l.queued + count (own_job p t) l.jobs.out
    + count (λ a. asks p l.life t (message_of a.bytes)) l.ring

-- the credits of a session that may ask, so one that is connected
abbrev pub free_in : Client → ℕ
free_in c = cond (is_connected c.state) c.free 0

abbrev pub limit_in : Client → ℕ
limit_in c = cond (is_connected c.state) c.limit 0

-- the free credits of client session s, and its limit
abbrev pub free_of : ℕ → List Client → ℕ
free_of s xs = value free_in (find (is_client s) xs)

abbrev pub limit_of : ℕ → List Client → ℕ
limit_of s xs = value limit_in (find (is_client s) xs)

-- what a client session posts by a fact of its node, and the reply that it takes
abbrev pub posted_ask : Filter → ℕ → Event → ℕ
posted_ask p s (Posted (Ask session r) k) = cond (session == s && p r k) 1 0
posted_ask p s _ = 0

abbrev pub took_reply : Filter → ℕ → Event → ℕ
took_reply p s (Took (Ask session r) k) = cond (session == s && p r k) 1 0
took_reply p s _ = 0

-- what a fact of a node sends for one of its sessions
abbrev pub sent_ask : Filter → ℕ → Event → ℕ
sent_ask p s (Sent peer o k) = cond (own_ask p s o k) 1 0
sent_ask p s _ = 0

abbrev pub sent_reply : Filter → ℕ → Event → ℕ
sent_reply p t (Sent peer o k) = cond (own_reply p t o k) 1 0
sent_reply p t _ = 0

-- what it is given for one
abbrev pub given_reply : Filter → (life s : ℕ) → Event → List ℕ → ℕ
given_reply p life s (Arrived peer) bytes = cond (replies p life s (message_of bytes)) 1 0
given_reply p life s _ bytes = 0

abbrev pub given_ask : Filter → (life t : ℕ) → Event → List ℕ → ℕ
given_ask p life t (Arrived peer) bytes = cond (asks p life t (message_of bytes)) 1 0
given_ask p life t _ bytes = 0

-- copies on their way to one end or the other
abbrev pub ask_to : Filter → (m life t : ℕ) → InFlight → Bool
ask_to p m life t c = c.to == m && asks p life t (message_of c.bytes)

abbrev pub reply_to : Filter → (n life s : ℕ) → InFlight → Bool
reply_to p n life s c = c.to == n && replies p life s (message_of c.bytes)

abbrev pub on_way : Filter → Pairing → List InFlight → ℕ
on_way p x copies =
    count (ask_to p x.node x.node_life x.session) copies
    + count (reply_to p x.home x.home_life x.client) copies

-- the copy that is out of flight and not delivered yet
abbrev pub carried : Moment → List InFlight
carried w = cond (is_carried (latest w.past)) (option_to_list w.hand) []

abbrev pub client_part : Filter → Pairing → List Lists → ℕ
client_part p x nodes = value (client_packets p x.client) (slice_get nodes x.home)

abbrev pub server_part : Filter → Pairing → List Lists → ℕ
server_part p x nodes = value (server_packets p x.session) (slice_get nodes x.node)

-- the reply that is owed by the latest fact
abbrev pub owed : Filter → Pairing → Moment → ℕ
owed p x w = cond (is_owed p x.node x.session (latest w.past)) 1 0

-- the packets of a session that are on their way
abbrev pub load : Filter → Pairing → Moment → ℕ
load p x w = client_part p x w.nodes + server_part p x w.nodes + owed p x w + on_way p x w.flight
    + on_way p x (carried w)

abbrev pub free : Pairing → List Lists → ℕ
free x nodes = value (λ l. free_of x.client l.clients) (slice_get nodes x.home)

abbrev pub limit : Pairing → List Lists → ℕ
limit x nodes = value (λ l. limit_of x.client l.clients) (slice_get nodes x.home)

-- they and the free credits are within the limit of the session
abbrev pub Within : Moment → Pairing → Type 0
Within w x = load all x w + free x w.nodes ≤ limit x w.nodes

-- a packet that is put among others
put-by : (p : Queued → Bool) (q x : Queued) (xs : List Queued) (b : Bool)
    → count p (put_queued q xs) ≡ count p xs + cond (p q) 1 0
    → count p (cond b (x ∷ put_queued q xs) (q ∷ x ∷ xs))
    ≡ cond (p x) 1 0 + count p xs + cond (p q) 1 0
put-by p q x xs true ih = omega arith
put-by p q x xs false ih = omega arith

pub count-put : (p : Queued → Bool) (q : Queued) (xs : List Queued)
    → count p (put_queued q xs) ≡ count p xs + cond (p q) 1 0
count-put p q [] = omega arith
count-put p q (x ∷ xs) = put-by p q x xs (stands_before x.due q.due) (count-put p q xs)

-- what is made ready counts as before
ready-by : (p : Owner → ℕ → Bool) (q : Queued) (b : Bool) → let r : Queued = cond b (record q { due = None }) q in p r.owner r.number ≡ p q.owner q.number
ready-by p q true = refl
ready-by p q false = refl

pub count-ready : (p : Owner → ℕ → Bool) (now : ℕ) (xs : List Queued)
    → count (λ (q : Queued). p q.owner q.number) (map (made_ready now) xs)
    ≡ count (λ (q : Queued). p q.owner q.number) xs
count-ready p now [] = refl
count-ready p now (q ∷ xs) =
    let one : cond {A = ℕ} (p (made_ready now q).owner (made_ready now q).number) 1 0
    ≡ cond (p q.owner q.number) 1 0 =
    ap {B = ℕ} (λ (b : Bool). cond b 1 0) (ready-by p q (is_due now q.due)) in
    omega (arith, count-ready p now xs)

-- a datagram that arrives stands in the ring where it is a message
pub count-arrived : (p : Option MessageHeader → Bool) (b : Bool) (a : Arrival) (ring : List Arrival)
    → count (λ (x : Arrival). p (message_of x.bytes))
    (cond b (ring ++ a ∷ []) ring) ≤ count (λ (x : Arrival). p (message_of x.bytes)) ring
    + cond (p (message_of a.bytes)) 1 0
count-arrived p true a ring = let c = count-add (λ (x : Arrival). p (message_of x.bytes)) ring a in omega arith
count-arrived p false a ring = omega arith

-- and no less, where only messages pass
pub count-arrives : (p : Option MessageHeader → Bool) → p None ≡ false
    → (a : Arrival) (ring : List Arrival)
    → count (λ (x : Arrival). p (message_of x.bytes)) ring
    + cond (p (message_of a.bytes)) 1 0 ≤ count (λ (x : Arrival). p (message_of x.bytes))
    (cond (is_message a.bytes) (ring ++ a ∷ []) ring)
count-arrives p no_message a ring = by (message_of a.bytes) refl
  where
    by : (o : Option MessageHeader) → message_of a.bytes ≡ o
        → count (λ (x : Arrival). p (message_of x.bytes)) ring
        + cond (p (message_of a.bytes)) 1 0 ≤ count (λ (x : Arrival). p (message_of x.bytes))
        (cond (is_some (message_of a.bytes)) (ring ++ a ∷ []) ring)
    by None e =
        let nothing : cond {A = ℕ} (p (message_of a.bytes)) 1 0 ≡ 0 = rw (e, no_message) refl in
        let same : count (λ (x : Arrival). p (message_of x.bytes))
        (cond (is_some (message_of a.bytes)) (ring ++ a ∷ []) ring)
        ≡ count (λ (x : Arrival). p (message_of x.bytes)) ring =
        ap (λ (o : Option MessageHeader). count (λ (x : Arrival). p (message_of x.bytes))
        (cond (is_some o) (ring ++ a ∷ []) ring)) e in
        omega arith
    by (Some h) e =
        let same : count (λ (x : Arrival). p (message_of x.bytes))
        (cond (is_some (message_of a.bytes)) (ring ++ a ∷ []) ring)
        ≡ count (λ (x : Arrival). p (message_of x.bytes)) (ring ++ a ∷ []) =
        ap (λ (o : Option MessageHeader). count (λ (x : Arrival). p (message_of x.bytes))
        (cond (is_some o) (ring ++ a ∷ []) ring)) e in
        let more = count-add (λ (x : Arrival). p (message_of x.bytes)) ring a in
        omega arith
