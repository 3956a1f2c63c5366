-- Where a packet of a session stands: at one of its ends, in flight, in hand, or due.
use Rattle.std.proofs.Common.{◌≡◌, ◌+◌, ◌-◌, ◌≤◌, ◌==◌, ◌&&◌, ℕ, Bool, true, cond, List, []}
use Rattle.std.proofs.Common.{length, Option, Some, None, refl, ap, eq-eqb, arith, false, subst}
use Rattle.std.proofs.Common.{◌∙◌, slice_get}
use Rattle.std.proofs.lemmas.Bool.{both_ways, eqb-true}
use Rattle.packet_header.specs.declared.packet.MessageHeader.{MessageHeader}
use Rattle.rpc_laws.specs.Requests.{is_server}
use Rattle.std.specs.Prelude.{option_to_list}
use Rattle.std.specs.List.{find}
use Rattle.packet_header.specs.Parts.{packet_count}
use Rattle.packet_header.specs.Reading.{message_of}
use Rattle.rpc_base.proofs.BasicLemmas.{false-true}
use Rattle.rpc_base.specs.declared.event.Event.{Event}
use Rattle.rpc_base.specs.declared.event.Event.TheVariants.{Posted, Flushed, Took, Again, Given}
use Rattle.rpc_base.specs.declared.event.Event.TheVariants.{Ran, Arrived, Dropped}
use Rattle.rpc_base.specs.declared.event.Event.TheVariants.{Overflowed, Bad, Rolled, Broken}
use Rattle.rpc_base.specs.declared.owner.Owner.TheVariants.{Ask, Reply, Control}
use Rattle.rpc_laws.specs.declared.tables.InFlight.{InFlight}
use Rattle.rpc_laws.specs.declared.tables.Job.{Job}
use Rattle.rpc_laws.specs.declared.tables.Lists.{Lists}
use Rattle.rpc_laws.specs.declared.tables.Queued.{Queued}
use Rattle.rpc_laws.specs.Facts.{with_two}
use Rattle.rpc_laws.specs.Front.{front_header}
use Rattle.rpc_laws.specs.Jobs.{is_job, new_job, jobs_after}
use Rattle.rpc_laws.specs.NodeLists.{after}
use Rattle.rpc_laws.specs.Pacing.{due_of}
use Rattle.rpc_laws.specs.Queues.{ring_after, queued_after}
use Rattle.end_laws.specs.Kinds.{is_ask}
use Rattle.end_laws.specs.Moments.{Moment}
use Rattle.end_laws.proofs.Allowed.{May, owes, is_packet}
use Rattle.end_laws.proofs.Rights.{job-number}
use Rattle.ring_laws.proofs.ClientReach.{is_noted}
use Rattle.ring_laws.proofs.ClientSteps.{front-counts}
use Rattle.ring_laws.proofs.Counting.{count, count-append, count-out, count-found, value}
use Rattle.ring_laws.proofs.Loads.{Filter, Pairing, asks, own_job, own_reply, server_packets}
use Rattle.ring_laws.proofs.Loads.{count-arrives, count-put}
use Rattle.ring_laws.proofs.Loads.{given_ask, sent_reply, client_part, on_way}
use Rattle.ring_laws.proofs.ServerReach.{drop-counts, is_other, server-reach, spilt_ask}
use Rattle.ring_laws.proofs.ServerSteps.{new-counts}
use Rattle.stall_laws.proofs.Dues.{Due, nothing, reply, delivery, flushed, covers, is_alone, Step}
use Rattle.stall_laws.proofs.Dues.{alone, older}
use Rattle.stall_laws.proofs.Dues.{takes, repeats, posts, gives, serves, finishes, is_done, leaves}
use Rattle.stall_laws.proofs.Dues.{arrives}
use Rattle.stall_laws.proofs.Dues.{overflows, is_bad}
use Rattle.stall_laws.proofs.Dues.{flushes, rolls, breaks}

-- a packet whose reply is due at a node, or that was flushed there
abbrev pub owed_at : Filter → (n t : ℕ) → Due → ℕ
owed_at p n t (reply m s r k) = cond (m == n && (s == t && p r k)) 1 0
owed_at p n t _ = 0

abbrev pub flushed_at : (r n s : ℕ) → Due → ℕ
flushed_at r n s (flushed m t o) = cond (m == n && (t == s && covers o r)) 1 0
flushed_at r n s _ = 0

-- the copy in hand, where its delivery is due
abbrev pub due_copy : Due → Option InFlight → List InFlight
due_copy delivery hand = option_to_list hand
due_copy _ hand = []

-- packets for a server session of another life than its node has stand in the ring alone
abbrev pub foreign_packets : Filter → (life t : ℕ) → Lists → ℕ
foreign_packets p life t l = count (λ a. asks p life t (message_of a.bytes)) l.ring

-- what a node has of server session t of this life, where so many of its replies are due: packets
-- of its own where that is its present life
abbrev pub server_here : Filter → (life t owed : ℕ) → Lists → ℕ
server_here p life t owed l =
    cond (l.life == life) (server_packets p t l + owed) (foreign_packets p life t l)

abbrev pub server_now : Filter → Pairing → (owed : ℕ) → List Lists → ℕ
server_now p x owed nodes =
    value (server_here p x.node_life x.session owed) (slice_get nodes x.node)

-- in how many places packet k of request r stands
abbrev pub standing : (r k : ℕ) → Pairing → Due → Moment → ℕ
standing r k x d w =
    client_part (is_packet r k) x w.nodes
    + server_now (is_packet r k) x (owed_at (is_packet r k) x.node x.session d) w.nodes
    + flushed_at r x.home x.client d + on_way (is_packet r k) x w.flight
    + on_way (is_packet r k) x (due_copy d w.hand)

-- which facts are noted, and of which the server's lemma speaks
alone-other : (e : Event) → is_alone e ≡ true → is_other e ≡ true
alone-other (Posted (Reply t r) k) h = false-true h
alone-other (Given t r) h = false-true h
alone-other (Ran t r y) h = false-true h
alone-other (Again owner k) h = false-true h
alone-other _ h = refl

alone-noted : (e : Event) → is_alone e ≡ true → is_noted e ≡ true
alone-noted (Again owner k) h = false-true h
alone-noted _ h = refl

alone-owes : (p : Filter) (t : ℕ) (e : Event) (first : List ℕ) → is_alone e ≡ true
    → cond {A = ℕ} (owes p t e first) 1 0 ≡ 0
alone-owes p t (Took (Reply s r) k) first h = false-true h
alone-owes p t (Again owner k) first h = false-true h
alone-owes p t (Ran s r y) first h = false-true h
alone-owes p t (Took (Ask s r) k) first h = refl
alone-owes p t (Took Control k) first h = refl
alone-owes p t _ first h = refl

pub step-noted : (hand : Option InFlight) (l : Lists) (first : List ℕ) (d : Due) (e : Event)
    (u : Due) → Step hand l first d e u → is_noted e ≡ true
step-noted hand l first d e u (alone _ h) = alone-noted e h
step-noted hand l first d e u (older t r k o) = refl
step-noted hand l first d e u (leaves t r k m) = refl
step-noted hand l first d e u (takes t r k) = refl
step-noted hand l first d e u (repeats t r k) = refl
step-noted hand l first d e u (posts t r k) = refl
step-noted hand l first d e u (gives t r k w q) = refl
step-noted hand l first d e u (serves t r y k none q) = refl
step-noted hand l first d e u (finishes t r y w) = refl
step-noted hand l first d e u (is_done t r y w none) = refl
step-noted hand l first d e u (arrives peer) = refl
step-noted hand l first d e u (overflows peer) = refl
step-noted hand l first d e u (is_bad peer copy h g) = refl
step-noted hand l first d e u (flushes _ s r k o go c) = refl
step-noted hand l first d e u (rolls _ s r c posted got go call) = refl
step-noted hand l first d e u (breaks _ s go) = refl

self : (p : Filter) (n t s r k : ℕ) → cond {A = ℕ} (n == n && (s == t && p r k)) 1 0 ≡ cond (s == t && p r k) 1 0
self p n t s r k = ap {B = ℕ} (λ (b : Bool). cond (b && (s == t && p r k)) 1 0) (eq-eqb n n refl)

-- a packet of a server session stays there, or is sent, dropped or flushed
abbrev pub ServerMoves : Filter → ℕ → Option ℕ → Due → Due → Event → List ℕ → Lists → Type 0
ServerMoves p t due d u e first l =
    server_packets p t l + owed_at p l.me t d + given_ask p l.life t e first ≤ count
    (λ q. own_reply p t q.owner q.number) (queued_after e due l.queued)
    + count (own_job p t) (jobs_after e l.servers l.jobs).out
    + count (λ a. asks p l.life t (message_of a.bytes)) (ring_after e first l.ring)
    + owed_at p l.me t u + sent_reply p t e + spilt_ask p t e l

pub server-moves : (p : Filter) (t : ℕ) (due : Option ℕ) (hand : Option InFlight) (l : Lists)
    (first second : List ℕ) (d : Due) (e : Event) (u : Due) → Step hand l first d e u
    → May hand l e first second → (find (is_server t) l.servers ≡ None → ⊥)
    → ServerMoves p t due d u e first l
server-moves p t due hand l first second d e u (alone _ h) m stands =
    let k = server-reach p t due hand l e first second m (alone-other e h) in
    let none = alone-owes p t e first h in
    omega arith
server-moves p t due hand l first second d e u (older s r k o) m stands =
    let g = server-reach p t due hand l (Flushed (Reply s r) k) first second m refl in omega arith
server-moves p t due hand l first second d e u (leaves s r k o) m stands =
    let g = server-reach p t due hand l (Flushed (Reply s r) k) first second m refl in omega arith
server-moves p t due hand l first second d e u (takes s r k) m stands =
    let g = server-reach p t due hand l (Took (Reply s r) k) first second m refl in
    let me = self p l.me t s r k in
    omega arith
server-moves p t due hand l first second d e u (repeats s r k) m stands =
    let g = server-reach p t due hand l (Again (Reply s r) k) first second m refl in
    let me = self p l.me t s r k in
    omega arith
server-moves p t due hand l first second d e u (posts s r k) m stands =
    let q = count-put (λ (q : Queued). own_reply p t q.owner q.number)
    (record { owner = Reply s r; number = k; due = due }) l.queued in
    let me = self p l.me t s r k in
    omega arith
server-moves p t due hand l first second d e u (gives s r k w same) m stands =
    let j = count-append (own_job p t) l.jobs.out (new_job s r l.servers) in
    let new = new-counts p l s r t w in
    let last : cond {A = ℕ} (s == t && p r (packet_count (length w.request.ask) - 1)) 1 0
    ≡ cond (s == t && p r k) 1 0 =
    ap {B = ℕ} (λ (i : ℕ). cond (s == t && p r i) 1 0) same in
    let me = self p l.me t s r k in
    omega arith
server-moves p t due hand l first second d e u (serves s r y k none same) m stands =
    let out = count-out (own_job p t) (is_job s r) l.jobs.out in
    let nothing : count (own_job p t) (option_to_list (find (is_job s r) l.jobs.out)) ≡ 0 =
    ap (λ (z : Option Job). count (own_job p t) (option_to_list z)) none in
    omega arith
server-moves p t due hand l first second d e u (finishes s r y w) m stands =
    let of = job-number s r l.jobs.out w.job w.is_out in
    let j = count-found (own_job p t) (is_job s r) l.jobs.out w.job w.is_out in
    let counted : cond {A = ℕ} (own_job p t w.job) 1 0
    ≡ cond (s == t && p r (packet_count (length first) - 1)) 1 0 =
    rw (of.0, of.1, w.own) refl in
    let me = self p l.me t s r (packet_count (length first) - 1) in
    omega arith
server-moves p t due hand l first second d e u (is_done s r y w none) m stands =
    by (s == t) refl
  where
    by : (b : Bool) → (s == t) ≡ b → ServerMoves p t due nothing nothing (Ran s r y) first l
    by true same = absurd (stands (subst (λ (i : ℕ). find (is_server i) l.servers ≡ None)
        (eqb-true s t same) none))
    by false other =
        let of = job-number s r l.jobs.out w.job w.is_out in
        let j = count-found (own_job p t) (is_job s r) l.jobs.out w.job w.is_out in
        let counted : cond {A = ℕ} (own_job p t w.job) 1 0 ≡ 0 = rw (of.0, other) refl in
        omega arith
server-moves p t due hand l first second d e u (arrives peer) m stands =
    let g = server-reach p t due hand l (Arrived peer) first second m refl in omega arith
server-moves p t due hand l first second d e u (overflows peer) m stands =
    let g = server-reach p t due hand l (Overflowed peer) first second m refl in omega arith
server-moves p t due hand l first second d e u (is_bad peer copy h g) m stands =
    let g = server-reach p t due hand l (Bad peer) first second m refl in omega arith
server-moves p t due hand l first second d e u (flushes nothing s r k o go c) m stands =
    let g = server-reach p t due hand l (Flushed (Ask s r) k) first second m refl in omega arith
server-moves p t due hand l first second d e u (flushes (flushed n a b) s r k o go c) m stands =
    let g = server-reach p t due hand l (Flushed (Ask s r) k) first second m refl in omega arith
server-moves p t due hand l first second d e u (flushes (reply n a b c) s r k o go z) m stands =
    absurd go
server-moves p t due hand l first second d e u (flushes delivery s r k o go c) m stands = absurd go
server-moves p t due hand l first second d e u (rolls nothing s r c posted got go call) m stands =
    let g = server-reach p t due hand l (Rolled c posted got) first second m refl in omega arith
server-moves p t due hand l first second d e u
    (rolls (flushed n a b) s r c posted got go call) m stands =
    let g = server-reach p t due hand l (Rolled c posted got) first second m refl in omega arith
server-moves p t due hand l first second d e u
    (rolls (reply n a b k) s r c posted got go call) m stands = absurd go
server-moves p t due hand l first second d e u (rolls delivery s r c posted got go call) m stands =
    absurd go
server-moves p t due hand l first second d e u (breaks nothing s go) m stands =
    let g = server-reach p t due hand l (Broken s) first second m refl in omega arith
server-moves p t due hand l first second d e u (breaks (flushed n a b) s go) m stands =
    let g = server-reach p t due hand l (Broken s) first second m refl in omega arith
server-moves p t due hand l first second d e u (breaks (reply n a b k) s go) m stands = absurd go
server-moves p t due hand l first second d e u (breaks delivery s go) m stands = absurd go

-- what a fact takes out of the ring or the queue otherwise; own: the session is of the present life
abbrev pub spilt_at : Filter → (life t : ℕ) → (own : Bool) → Event → Lists → ℕ
spilt_at p life t own (Dropped why) l = cond (asks p life t (front_header l.ring)) 1 0
spilt_at p life t own (Flushed (Reply s r) k) l = cond (own && (s == t && p r k)) 1 0
spilt_at p life t own _ l = 0

spilt-own : (p : Filter) (t : ℕ) (e : Event) (l : Lists)
    → spilt_at p l.life t true e l ≡ spilt_ask p t e l
spilt-own p t (Dropped why) l = refl
spilt-own p t (Flushed (Reply s r) k) l = refl
spilt-own p t (Flushed (Ask s r) k) l = refl
spilt-own p t (Flushed Control k) l = refl
spilt-own p t _ l = refl

-- a packet for another life stays in the ring, or is dropped
abbrev ForeignMoves : Filter → (life t : ℕ) → Event → List ℕ → Lists → Type 0
ForeignMoves p life t e first l =
    foreign_packets p life t l + given_ask p life t e first ≤ count
    (λ a. asks p life t (message_of a.bytes)) (ring_after e first l.ring)
    + spilt_at p life t false e l

other-life : (p : Filter) (life t : ℕ) (l : Lists) (h : MessageHeader) → (l.life == life) ≡ false
    → h.to_life ≡ l.life → cond {A = ℕ} (asks p life t (Some h)) 1 0 ≡ 0
other-life p life t l h apart goes =
    let no : (h.to_life == life) ≡ false = ap (λ (i : ℕ). i == life) goes ∙ apart in
    rw no (by (is_ask h.kind))
  where
    by : (b : Bool) → cond {A = ℕ} (b && false) 1 0 ≡ 0
    by true = refl
    by false = refl

foreign-moves : (p : Filter) (life t : ℕ) (hand : Option InFlight) (l : Lists) (e : Event)
    (first second : List ℕ) → (l.life == life) ≡ false → May hand l e first second
    → is_noted e ≡ true → ForeignMoves p life t e first l
foreign-moves p life t hand l (Arrived peer) first second apart m noted =
    let r = count-arrives (asks p life t) refl (record { peer = peer; bytes = first }) l.ring in
    omega arith
foreign-moves p life t hand l (Took (Reply s r) k) first second apart m noted =
    let front = front-counts (asks p life t) l.ring m.front m.header m.is_front.is_front
    m.is_front.reads in
    let none = other-life p life t l m.header apart m.is_front.for_us in
    omega arith
foreign-moves p life t hand l (Took (Ask s r) k) first second apart m noted =
    let front = front-counts (asks p life t) l.ring m.front m.header m.is_front.is_front
    m.is_front.reads in
    let none = other-life p life t l m.header apart m.is_front.for_us in
    omega arith
foreign-moves p life t hand l (Took Control k) first second apart m noted = absurd m
foreign-moves p life t hand l (Again (Reply s r) k) first second apart m noted =
    let front = front-counts (asks p life t) l.ring m.front m.header m.is_front.is_front
    m.is_front.reads in
    let none = other-life p life t l m.header apart m.is_front.for_us in
    omega arith
foreign-moves p life t hand l (Again (Ask s r) k) first second apart m noted =
    absurd (both_ways false refl noted)
foreign-moves p life t hand l (Again Control k) first second apart m noted =
    absurd (both_ways false refl noted)
foreign-moves p life t hand l (Dropped why) first second apart m noted =
    let d = drop-counts p life t l.ring in omega arith
foreign-moves p life t hand l _ first second apart m noted = omega arith

-- so a packet of a server session of whatever life moves
abbrev pub HereMoves : Filter → (life t : ℕ) → (own : Bool) → (clock n : ℕ) → (d u : Due)
    → (e : Event) → (first second : List ℕ) → Lists → Type 0
HereMoves p life t own clock n d u e first second l =
    server_here p life t (owed_at p l.me t d) l + given_ask p life t e first
    ≤ server_here p life t (owed_at p l.me t u) (after clock l (with_two n e first second))
    + cond own (sent_reply p t e) 0 + spilt_at p life t own e l

server-own : (p : Filter) (life t o : ℕ) (l : Lists) → (l.life == life) ≡ true
    → server_here p life t o l ≡ server_packets p t l + o
server-own p life t o l e =
    ap (λ (b : Bool). cond b (server_packets p t l + o) (foreign_packets p life t l)) e

server-foreign : (p : Filter) (life t o : ℕ) (l : Lists) → (l.life == life) ≡ false
    → server_here p life t o l ≡ foreign_packets p life t l
server-foreign p life t o l e =
    ap (λ (b : Bool). cond b (server_packets p t l + o) (foreign_packets p life t l)) e

own-moves : (p : Filter) (t clock n : ℕ) (hand : Option InFlight) (l : Lists)
    (first second : List ℕ) (d : Due) (e : Event) (u : Due) → Step hand l first d e u
    → May hand l e first second → (find (is_server t) l.servers ≡ None → ⊥)
    → HereMoves p l.life t true clock n d u e first second l
own-moves p t clock n hand l first second d e u step m stands =
    let now = after clock l (with_two n e first second) in
    let moves = server-moves p t (due_of clock e l.paces) hand l first second d e u step m stands in
    let self : (l.life == l.life) ≡ true = eq-eqb l.life l.life refl in
    let before = server-own p l.life t (owed_at p l.me t d) l self in
    let later = server-own p l.life t (owed_at p l.me t u) now self in
    let spilt = spilt-own p t e l in
    omega arith

pub here-moves : (p : Filter) (life t clock n : ℕ) (own : Bool) (hand : Option InFlight)
    (l : Lists) (first second : List ℕ) (d : Due) (e : Event) (u : Due)
    → (l.life == life) ≡ own → Step hand l first d e u → May hand l e first second
    → (l.life ≡ life → find (is_server t) l.servers ≡ None → ⊥)
    → HereMoves p life t own clock n d u e first second l
here-moves p life t clock n true hand l first second d e u same step m stands =
    let is = eqb-true l.life life same in
    subst (λ (i : ℕ). HereMoves p i t true clock n d u e first second l) is
    (own-moves p t clock n hand l first second d e u step m (stands is))
here-moves p life t clock n false hand l first second d e u apart step m stands =
    let now = after clock l (with_two n e first second) in
    let moves = foreign-moves p life t hand l e first second apart m
    (step-noted hand l first d e u step) in
    let before = server-foreign p life t (owed_at p l.me t d) l apart in
    let later = server-foreign p life t (owed_at p l.me t u) now apart in
    omega arith
