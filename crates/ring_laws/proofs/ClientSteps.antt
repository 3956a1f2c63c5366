-- A fact of a node adds nothing to what a client session has, but what it posts and a reply that arrives.
use Rattle.rpc_base.proofs.TakingLemmas.{find-passes}
use Rattle.std.proofs.lemmas.Bool.{and_parts}
use Rattle.std.proofs.Common.{option_to_list}
use Rattle.ring_laws.proofs.Counting.{count-out}
use Rattle.rpc_base.specs.Tables.{without_first}
use Rattle.std.proofs.Common.{None, ◌++◌}
use Rattle.std.proofs.Common.{◌<◌, ◌≡◌, ◌+◌, ◌≤◌, ◌==◌, ◌&&◌, ℕ, Bool, true, false, cond, List, []}
use Rattle.std.proofs.Common.{◌∷◌, drop, Option, Some, slice_get, refl, sym, ap, ◌∙◌, subst, arith}
use Rattle.std.proofs.Common.{eq-eqb}
use Rattle.std.specs.List.{find}
use Rattle.std.proofs.lemmas.Bool.{eqb-true, and_from}
use Rattle.packet_header.specs.Reading.{message_of}
use Rattle.packet_header.specs.declared.packet.Kind.{Kind}
use Rattle.packet_header.specs.declared.packet.Kind.TheVariants.{Request, Rfr, Cr, Response}
use Rattle.packet_header.specs.declared.packet.MessageHeader.{MessageHeader}
use Rattle.rpc_base.specs.Owners.{same_owner}
use Rattle.rpc_base.specs.Tables.{at_first}
use Rattle.rpc_base.specs.declared.event.Event.{Event}
use Rattle.rpc_base.specs.declared.event.Event.TheVariants.{Opened, Connected, FailedNoRoom}
use Rattle.rpc_base.specs.declared.event.Event.TheVariants.{FailedNoAnswer, Closing, ClosedHeard}
use Rattle.rpc_base.specs.declared.event.Event.TheVariants.{ClosedUnheard, Polled, PairedClient}
use Rattle.rpc_base.specs.declared.event.Event.TheVariants.{Asked, Begun, Posted, Flushed, Sent}
use Rattle.rpc_base.specs.declared.event.Event.TheVariants.{Arrived, Took, Again, Dropped, Rolled}
use Rattle.rpc_base.specs.declared.event.Event.TheVariants.{Broken, DoneOk, DoneTooSmall}
use Rattle.rpc_base.specs.declared.event.Event.TheVariants.{DonePeerLost}
use Rattle.rpc_base.specs.declared.owner.Owner.{Owner}
use Rattle.rpc_base.specs.declared.owner.Owner.TheVariants.{Ask, Reply, Control}
use Rattle.rpc_laws.specs.declared.tables.Arrival.{Arrival}
use Rattle.rpc_laws.specs.declared.tables.Client.{Client}
use Rattle.rpc_laws.specs.declared.tables.InFlight.{InFlight}
use Rattle.rpc_laws.specs.declared.tables.Lists.{Lists}
use Rattle.rpc_laws.specs.declared.tables.Queued.{Queued}
use Rattle.rpc_laws.specs.Calls.{is_response}
use Rattle.rpc_laws.specs.ClientTable.{is_cr, is_of_turn}
use Rattle.rpc_laws.specs.Front.{is_message, front_header, front_body}
use Rattle.rpc_laws.specs.Queues.{is_queued, ring_after, queued_after}
use Rattle.packet_header.specs.declared.packet.ControlHeader.{ControlHeader}
use Rattle.rpc_base.specs.declared.state.SessionState.{SessionState}
use Rattle.rpc_base.specs.declared.state.SessionState.TheVariants.{Closed, Connecting, Failed}
use Rattle.rpc_base.specs.declared.state.SessionState.TheVariants.{Closing as IsClosing}
use Rattle.rpc_laws.specs.Front.{control_of}
use Rattle.node_laws.specs.Valid.{Sound, unanswered_of, unanswered_on, Valid}
use Rattle.node_laws.proofs.StateLemmas.{connected-live}
use Rattle.std.specs.Prelude.{sum_by}
use Rattle.rpc_laws.specs.Sessions.{clients_told, comes_to, connects, is_connected, is_live}
use Rattle.rpc_laws.specs.Sessions.{is_request_of, opened_end, requests}
use Rattle.end_laws.proofs.ListLemmas.{all-found}
use Rattle.ring_laws.proofs.Loads.{free_in, limit_in}
use Rattle.rpc_laws.specs.declared.tables.Call.{Call}
use Rattle.rpc_laws.specs.Sessions.{is_client, has_call, begins, asks as asks_one, posts, sends}
use Rattle.rpc_laws.specs.Sessions.{takes, ends, clients_after}
use Rattle.rpc_base.specs.declared.fact.Fact.{Fact}
use Rattle.node_laws.proofs.Allowed.{Allowed as Lawful}
use Rattle.end_laws.specs.Kinds.{is_ask}
use Rattle.end_laws.proofs.Allowed.{Linked, May}
use Rattle.end_laws.proofs.ListLemmas.{Placed, find-at, find-first}
use Rattle.ring_laws.proofs.Counting.{count, value, count-drop, count-less, count-found, find-front}
use Rattle.ring_laws.proofs.Counting.{find-some, value-kept, find-apart}
use Rattle.ring_laws.proofs.Loads.{count-put, count-ready, count-arrived, Filter, all, replies}
use Rattle.ring_laws.proofs.Loads.{own_ask, client_packets, free_of, limit_of, posted_ask}
use Rattle.ring_laws.proofs.Loads.{took_reply, sent_ask, given_reply}
use Rattle.rpc_laws.proofs.QueuesLemmas.{same-owner}

-- each session stands at the place of its number
abbrev pub Numbered : List Client → Type 0
Numbered xs = Placed (λ i c. c.way.number ≡ i) xs

same-found : (xs : List Client) (i : ℕ) (c z : Client) → Numbered xs → slice_get xs i ≡ Some c
    → find (is_client c.way.number) xs ≡ Some z → z ≡ c
same-found xs i c z n is found =
    let at = find-at (is_client c.way.number) xs z found in
    let there = n at.0 z at.1 in
    let here = n i c is in
    let passes : z.way.number ≡ c.way.number = eqb-true z.way.number c.way.number at.2 in
    let place : at.0 ≡ i = sym there ∙ (passes ∙ here) in
    let again : slice_get xs i ≡ Some z = ap (slice_get xs) (sym place) ∙ at.1 in
    cc

-- a session that stands somewhere is found by its number
pub found-numbered : (xs : List Client) (i : ℕ) (c : Client) → Numbered xs → slice_get xs i ≡ Some c
    → find (is_client c.way.number) xs ≡ Some c
found-numbered xs i c n is =
    let some = find-some (is_client c.way.number) xs i c is (eq-eqb c.way.number c.way.number refl) in
    some.1 ∙ ap Some (same-found xs i c some.0 n is some.1)

-- the session of a number changes
change-by : (s m : ℕ) (b : Bool) (change : Client → Client) (xs : List Client) (x : Client)
    (f : Client → ℕ) → (m == s) ≡ b → ((c : Client) → (change c).way.number ≡ c.way.number)
    → find (is_client m) xs ≡ Some x
    → value f (find (is_client s) (at_first (is_client m) change xs)) + cond b (f x) 0
    ≡ value f (find (is_client s) xs) + cond b (f (change x)) 0
change-by s m true change xs x f e keep found =
    let same : m ≡ s = eqb-true m s e in
    let passes : is_client m x ≡ true = (find-at (is_client m) xs x found).2 in
    let now : find (is_client m) (at_first (is_client m) change xs) ≡ Some (change x) =
    find-first (is_client m) change xs x found (ap (λ n. n == m) (keep x) ∙ passes) in
    let then : find (is_client s) (at_first (is_client m) change xs) ≡ Some (change x) =
    subst (λ (n : ℕ). find (is_client n) (at_first (is_client m) change xs)
    ≡ Some (change x)) same now in
    let was : find (is_client s) xs ≡ Some x = subst (λ (n : ℕ). find (is_client n) xs ≡ Some x) same found in
    rw (then, was) (omega arith)
change-by s m false change xs x f e keep found =
    let other : find (is_client s) (at_first (is_client m) change xs) ≡ find (is_client s) xs =
    find-apart (is_client m) (is_client s) change xs
    (λ c t. differs c.way.number (eqb-true c.way.number m t))
    (λ c. ap (λ n. n == s) (keep c)) in
    ap (λ (o : Option Client). value f o + 0) other
  where
    differs : (n : ℕ) → n ≡ m → (n == s) ≡ false
    differs n same = ap (λ k. k == s) same ∙ e

-- a session that is connected posts, and takes
connected-in : (c : Client) → is_connected c.state ≡ true → (free_in c ≡ c.free)
    × (limit_in c ≡ c.limit)
connected-in c e = (ap (λ (b : Bool). cond b c.free 0) e, ap (λ (b : Bool). cond b c.limit 0) e)

posts-free : (s m r k : ℕ) (xs : List Client) (x : Client) → find (is_client m) xs ≡ Some x
    → is_connected x.state ≡ true → 0 < x.free → free_of s (at_first (is_client m) (posts r k) xs)
    + cond (m == s) 1 0 ≤ free_of s xs
posts-free s m r k xs x found state some = by (m == s) refl
  where
    by : (b : Bool) → (m == s) ≡ b → free_of s (at_first (is_client m) (posts r k) xs) + cond b 1 0 ≤ free_of s xs
    by true e =
        let c = change-by s m true (posts r k) xs x free_in e (λ c. refl) found in
        let was = (connected-in x state).0 in
        let now = (connected-in (posts r k x) state).0 in
        omega arith
    by false e = let c = change-by s m false (posts r k) xs x free_in e
        (λ c. refl) found in omega arith

takes-free : (clock s m r : ℕ) (h : Option MessageHeader) (body : List ℕ) (xs : List Client)
    (x : Client) → find (is_client m) xs ≡ Some x → is_connected x.state ≡ true
    → free_of s (at_first (is_client m) (takes clock r h body) xs) ≤ free_of s xs
    + cond (m == s) 1 0
takes-free clock s m r h body xs x found state = by (m == s) refl
  where
    by : (b : Bool) → (m == s) ≡ b
        → free_of s (at_first (is_client m) (takes clock r h body) xs) ≤ free_of s xs + cond b 1 0
    by true e =
        let c = change-by s m true (takes clock r h body) xs x free_in e (λ c. refl) found in
        let was = (connected-in x state).0 in
        let now = (connected-in (takes clock r h body x) state).0 in
        omega arith
    by false e = let c = change-by s m false (takes clock r h body) xs x free_in e
        (λ c. refl) found in omega arith

-- a session comes to another state
moves-credit : (s m : ℕ) (change : Client → Client) (xs : List Client) (x : Client)
    → ((c : Client) → (change c).way.number ≡ c.way.number) → find (is_client m) xs ≡ Some x
    → free_in (change x) + limit_in x ≤ free_in x + limit_in (change x)
    → free_of s (at_first (is_client m) change xs) + limit_of s xs ≤ free_of s xs
    + limit_of s (at_first (is_client m) change xs)
moves-credit s m change xs x keep found le = by (m == s) refl
  where
    by : (b : Bool) → (m == s) ≡ b
        → free_of s (at_first (is_client m) change xs) + limit_of s xs ≤ free_of s xs
        + limit_of s (at_first (is_client m) change xs)
    by true e =
        let c = change-by s m true change xs x free_in e keep found in
        let d = change-by s m true change xs x limit_in e keep found in
        omega arith
    by false e =
        let c = change-by s m false change xs x free_in e keep found in
        let d = change-by s m false change xs x limit_in e keep found in
        omega arith

-- from a state that isn't connected to another
idle-move : (x : Client) (was now : SessionState) → x.state ≡ was → is_connected was ≡ false
    → is_connected now ≡ false
    → free_in (comes_to now x) + limit_in x ≤ free_in x + limit_in (comes_to now x)
idle-move x was now e a b =
    let state : is_connected x.state ≡ false = ap is_connected e ∙ a in
    let one : free_in x ≡ 0 = ap (λ (b : Bool). cond b x.free 0) state in
    let two : limit_in x ≡ 0 = ap (λ (b : Bool). cond b x.limit 0) state in
    let three : free_in (comes_to now x) ≡ 0 = ap (λ (b : Bool). cond b x.free 0) b in
    omega arith

balance-of : (l : Lists) (v : Valid l) (s : ℕ) (x : Client) → find (is_client s) l.clients ≡ Some x
    → is_live x.state ≡ true → unanswered_on x + x.free ≡ x.limit
balance-of l v s x found live =
    (all-found Sound (is_client s) l.clients x v.sound found).balance live

joins-move : (l : Lists) (v : Valid l) (s t life : ℕ) (x : Client) → find (is_client s) l.clients
    ≡ Some x
    → x.state ≡ Connecting
    → free_in (connects t life x) + limit_in x ≤ free_in x + limit_in (connects t life x)
joins-move l v s t life x found e =
    let balance = balance-of l v s x found (ap is_live e) in
    let two : limit_in x ≡ 0 = ap (λ (b : Bool). cond b x.limit 0) (ap is_connected e) in
    omega arith

closes-move : (l : Lists) (v : Valid l) (s : ℕ) (x : Client) → find (is_client s) l.clients ≡ Some x
    → is_connected x.state ≡ true → x.calls ≡ []
    → free_in (comes_to IsClosing x) + limit_in x ≤ free_in x + limit_in (comes_to IsClosing x)
closes-move l v s x found state idle =
    let balance = balance-of l v s x found (connected-live x.state state) in
    let none : unanswered_on x ≡ 0 = ap (sum_by (λ (c : Call). unanswered_of c.progress)) idle in
    let both = connected-in x state in
    let one = both.0 in
    let two = both.1 in
    omega arith

-- a test of the header at the front of a ring
pub front-counts : (p : Option MessageHeader → Bool) (ring : List Arrival) (front : Arrival)
    (h : MessageHeader) → slice_get ring 0 ≡ Some front → front_header ring ≡ Some h
    → count (λ a. p (message_of a.bytes)) (drop 1 ring) + cond (p (Some h)) 1 0
    ≡ count (λ a. p (message_of a.bytes)) ring
front-counts p [] front h is reads = cc
front-counts p (d ∷ ds) front h is reads =
    subst (λ (o : Option MessageHeader). count (λ a. p (message_of a.bytes)) ds + cond (p o) 1 0
    ≡ cond (p (message_of d.bytes)) 1 0 + count (λ a. p (message_of a.bytes)) ds) reads
    (omega arith)

-- a reply in turn is no packet that asks
turn-kind : (k : Kind) (b x y z : Bool) → cond b (is_cr k) (is_response k && x && y && z) ≡ true → is_ask k ≡ false
turn-kind Request true x y z h = cc
turn-kind Request false x y z h = cc
turn-kind Rfr true x y z h = cc
turn-kind Rfr false x y z h = cc
turn-kind Cr b x y z h = refl
turn-kind Response b x y z h = refl

pub turn-replies : (asked req_type : ℕ) (answer : Option ℕ) (h : MessageHeader) (n : ℕ)
    → is_of_turn asked req_type answer h n ≡ true → is_ask h.kind ≡ false
turn-replies asked req_type answer h n t = turn-kind h.kind _ _ _ _ t

-- the packet that is sent was the first in the queue
pub front-queued : (queued : List Queued) (o : Owner) (k : ℕ) (due : Option ℕ)
    → slice_get queued 0 ≡ Some (record { owner = o; number = k; due = due })
    → find (is_queued o k) queued ≡ Some (record { owner = o; number = k; due = due })
front-queued queued o k due is =
    find-front (is_queued o k) queued (record { owner = o; number = k; due = due }) is
    (and_from (same_owner o o) (k == k) (same-owner o) (eq-eqb k k refl))

-- a control packet that is sent was never queued
not-control : (f : Owner → ℕ → Bool) → ((n : ℕ) → f Control n ≡ false) → (o : Owner) (n : ℕ)
    → same_owner o Control ≡ true → f o n ≡ false
not-control f none (Ask s r) n e = cc
not-control f none (Reply t r) n e = cc
not-control f none Control n e = none n

pub control-out : (f : Owner → ℕ → Bool) → ((n : ℕ) → f Control n ≡ false)
    → (k : ℕ) (xs : List Queued)
    → count (λ (q : Queued). f q.owner q.number) xs ≤ count (λ (q : Queued). f q.owner q.number)
    (without_first (is_queued Control k) xs)
control-out f none k xs = by (find (is_queued Control k) xs) refl
  where
    by : (o : Option Queued) → find (is_queued Control k) xs ≡ o
        → count (λ (q : Queued). f q.owner q.number) xs ≤ count (λ (q : Queued). f q.owner q.number)
        (without_first (is_queued Control k) xs)
    by None e =
        let out = count-out (λ (q : Queued). f q.owner q.number) (is_queued Control k) xs in
        let nothing : count (λ (q : Queued). f q.owner q.number)
        (option_to_list (find (is_queued Control k) xs)) ≡ 0 =
        ap (λ (o : Option Queued). count (λ (q : Queued). f q.owner q.number) (option_to_list o))
        e in
        omega arith
    by (Some q) e =
        let passes = and_parts (same_owner q.owner Control) (q.number == k)
        (find-passes (is_queued Control k) xs q e) in
        let no_count : f q.owner q.number ≡ false = not-control f none q.owner q.number passes.0 in
        let one = count-found (λ (q : Queued). f q.owner q.number) (is_queued Control k) xs q e in
        let zero_is : cond {A = ℕ} (f q.owner q.number) 1 0 ≡ 0 =
        ap {B = ℕ} (λ (b : Bool). cond b 1 0) no_count in
        omega arith

abbrev pub no_roll : Event → Bool
no_roll (Rolled c posted got) = false
no_roll _ = true

-- what a client session has after a fact: one more where it posts, and one less where it takes
abbrev pub ClientStep : Filter → ℕ → Option ℕ → Event → List ℕ → Lists → Type 0
ClientStep p s due e first l =
    count (λ q. own_ask p s q.owner q.number) (queued_after e due l.queued)
    + count (λ a. replies p l.life s (message_of a.bytes)) (ring_after e first l.ring) + sent_ask p s e
    + took_reply p s e ≤ client_packets p s l + posted_ask p s e + given_reply p l.life s e first

pub client-step : (p : Filter) (s : ℕ) (due : Option ℕ) (latest : Option Fact)
    (hand : Option InFlight) (l : Lists) (e : Event) (first second : List ℕ)
    → May hand l e first second → Linked latest l e first → ClientStep p s due e first l
client-step p s due latest hand l (Posted (Ask a r) k) first second m o =
    let q = count-put (λ (q : Queued). own_ask p s q.owner q.number)
    (record { owner = Ask a r; number = k; due = due }) l.queued in
    omega arith
client-step p s due latest hand l (Posted (Reply t r) k) first second m o =
    let q = count-put (λ (q : Queued). own_ask p s q.owner q.number)
    (record { owner = Reply t r; number = k; due = due }) l.queued in
    omega arith
client-step p s due latest hand l (Posted Control k) first second m o = absurd m
client-step p s due latest hand l (Flushed owner k) first second m o =
    let q = count-less (λ (q : Queued). own_ask p s q.owner q.number) (is_queued owner k) l.queued in
    omega arith
client-step p s due latest hand l (Sent peer (Ask a r) k) first second m o =
    let q = count-found (λ (q : Queued). own_ask p s q.owner q.number)
    (is_queued (Ask a r) k) l.queued _
    (front-queued l.queued (Ask a r) k m.due m.is_front) in
    omega arith
client-step p s due latest hand l (Sent peer (Reply t r) k) first second m o =
    let q = count-less (λ (q : Queued). own_ask p s q.owner q.number) (is_queued (Reply t r) k) l.queued in
    omega arith
client-step p s due latest hand l (Sent peer Control k) first second m o =
    let q = count-less (λ (q : Queued). own_ask p s q.owner q.number) (is_queued Control k) l.queued in
    omega arith
client-step p s due latest hand l (Arrived peer) first second m o =
    let r = count-arrived (replies p l.life s) (is_message first) (record { peer = peer; bytes = first }) l.ring in
    omega arith
client-step p s due latest hand l (Polled now) first second m o =
    let q = count-ready (own_ask p s) now l.queued in
    omega arith
client-step p s due latest hand l (Took (Ask a r) k) first second m o =
    let h = m.header in
    let kind = turn-replies _ _ _ h _ m.of_turn in
    let number : k ≡ h.number = sym (o h m.is_front.reads) in
    let front = front-counts (replies p l.life s) l.ring m.front h m.is_front.is_front m.is_front.reads in
    let counted : cond {A = ℕ} (replies p l.life s (Some h)) 1 0 ≡ cond (a == s && p r k) 1 0 =
    rw (kind, m.is_front.for_us, eq-eqb l.life l.life refl, m.of_session, m.of_request, number) refl in
    omega arith
client-step p s due latest hand l (Took (Reply t r) k) first second m o =
    let d = count-drop (λ (a : Arrival). replies p l.life s (message_of a.bytes)) l.ring in
    omega arith
client-step p s due latest hand l (Took Control k) first second m o =
    let d = count-drop (λ (a : Arrival). replies p l.life s (message_of a.bytes)) l.ring in
    omega arith
client-step p s due latest hand l (Again owner k) first second m o =
    let d = count-drop (λ (a : Arrival). replies p l.life s (message_of a.bytes)) l.ring in
    omega arith
client-step p s due latest hand l (Dropped why) first second m o =
    let d = count-drop (λ (a : Arrival). replies p l.life s (message_of a.bytes)) l.ring in
    omega arith
client-step p s due latest hand l _ first second m o = omega arith

-- a credit for each packet
free-kept : (s : ℕ) (p : Client → Bool) (change : Client → Client) (xs : List Client)
    → ((c : Client) → (change c).way.number ≡ c.way.number)
    → ((c : Client) → free_in (change c) ≡ free_in c)
    → ((c : Client) → limit_in (change c) ≡ limit_in c)
    → free_of s (at_first p change xs) + limit_of s xs ≤ free_of s xs
    + limit_of s (at_first p change xs)
free-kept s p change xs n f g =
    let one = value-kept free_in p (is_client s) change xs (λ c. ap (λ m. m == s) (n c)) f in
    let two = value-kept limit_in p (is_client s) change xs (λ c. ap (λ m. m == s) (n c)) g in
    omega arith

limit-kept : (s : ℕ) (p : Client → Bool) (change : Client → Client) (xs : List Client)
    → ((c : Client) → (change c).way.number ≡ c.way.number)
    → ((c : Client) → limit_in (change c) ≡ limit_in c)
    → limit_of s (at_first p change xs) ≡ limit_of s xs
limit-kept s p change xs n g = value-kept limit_in p (is_client s) change xs
    (λ c. ap (λ m. m == s) (n c)) g

and-all : (b : Bool) → cond {A = ℕ} (b && true) 1 0 ≡ cond b 1 0
and-all true = refl
and-all false = refl

told-number : (clock : ℕ) (b : Bool) (c : Client)
    → (cond b (record c { sends = c.sends + 1; sent_at = clock }) c).way.number ≡ c.way.number
told-number clock true c = refl
told-number clock false c = refl

told-in : (f : Client → ℕ) (clock : ℕ) (b : Bool) (c : Client)
    → f (record c { sends = c.sends + 1; sent_at = clock }) ≡ f c
    → f (cond b (record c { sends = c.sends + 1; sent_at = clock }) c) ≡ f c
told-in f clock true c e = e
told-in f clock false c e = refl

told-credit : (clock s : ℕ) (o : Option ControlHeader) (xs : List Client)
    → free_of s (clients_told clock o xs) + limit_of s xs ≤ free_of s xs
    + limit_of s (clients_told clock o xs)
told-credit clock s None xs = omega arith
told-credit clock s (Some h) xs =
    free-kept s (is_client h.client) (requests clock h) xs
    (λ c. told-number clock (is_request_of h.kind h.server h.to_life c.state c.way) c)
    (λ c. told-in free_in clock (is_request_of h.kind h.server h.to_life c.state c.way) c refl)
    (λ c. told-in limit_in clock (is_request_of h.kind h.server h.to_life c.state c.way) c refl)

-- a new session is Connecting
new-idle : (s : ℕ) (xs : List Client) (c : Client) → free_in c ≡ 0 → limit_in c ≡ 0
    → free_of s (xs ++ c ∷ []) + limit_of s xs ≤ free_of s xs + limit_of s (xs ++ c ∷ [])
new-idle s [] c e f = by (c.way.number == s)
  where
    by : (b : Bool) → value free_in (cond b (Some c) None) + 0 ≤ 0 + value limit_in
        (cond b (Some c) None)
    by true = omega arith
    by false = omega arith
new-idle s (y ∷ xs) c e f = by (y.way.number == s) (new-idle s xs c e f)
  where
    by : (b : Bool) → free_of s (xs ++ c ∷ []) + limit_of s xs ≤ free_of s xs
        + limit_of s (xs ++ c ∷ [])
        → value free_in (cond b (Some y) (find (is_client s) (xs ++ c ∷ [])))
        + value limit_in (cond b (Some y) (find (is_client s) xs)) ≤ value free_in
        (cond b (Some y) (find (is_client s) xs))
        + value limit_in (cond b (Some y) (find (is_client s) (xs ++ c ∷ [])))
    by true ih = omega arith
    by false ih = ih

-- free credits and the limit go together, but for what is posted and taken
abbrev pub CreditStep : ℕ → ℕ → Event → List ℕ → Lists → Type 0
CreditStep clock s e first l =
    free_of s (clients_after clock e first (front_header l.ring) (front_body l.ring) l.clients)
    + posted_ask all s e + limit_of s l.clients ≤ free_of s l.clients + took_reply all s e
    + limit_of s (clients_after clock e first (front_header l.ring) (front_body l.ring) l.clients)

pub credit-step : (clock s : ℕ) (hand : Option InFlight) (l : Lists) (e : Event)
    (first second : List ℕ) → Valid l → Lawful l e → no_roll e ≡ true
    → ((a : ℕ) → e ≡ Broken a → ⊥) → May hand l e first second → CreditStep clock s e first l
credit-step clock s hand l (PairedClient a p t c life) first second v n calm whole m = absurd m
credit-step clock s hand l (Opened a p c) first second v n calm whole m =
    let k = new-idle s l.clients (opened_end a p c) refl refl in omega arith
credit-step clock s hand l (Connected a t life) first second v n calm whole m =
    let k = moves-credit s a (connects t life) l.clients n.client (λ c. refl) n.found
    (joins-move l v a t life n.client n.found n.stands) in
    omega arith
credit-step clock s hand l (FailedNoRoom a) first second v n calm whole m =
    let k = moves-credit s a (comes_to Failed) l.clients n.client (λ c. refl) n.found
    (idle-move n.client Connecting Failed n.stands refl refl) in
    omega arith
credit-step clock s hand l (FailedNoAnswer a) first second v n calm whole m =
    let k = moves-credit s a (comes_to Failed) l.clients n.client (λ c. refl) n.found
    (idle-move n.client Connecting Failed n.stands refl refl) in
    omega arith
credit-step clock s hand l (Closing a) first second v n calm whole m =
    let k = moves-credit s a (comes_to IsClosing) l.clients n.client (λ c. refl) n.found
    (closes-move l v a n.client n.found n.connected n.idle) in
    omega arith
credit-step clock s hand l (ClosedHeard a) first second v n calm whole m =
    let k = moves-credit s a (comes_to Closed) l.clients n.client (λ c. refl) n.found
    (idle-move n.client IsClosing Closed n.stands refl refl) in
    omega arith
credit-step clock s hand l (ClosedUnheard a) first second v n calm whole m =
    let k = moves-credit s a (comes_to Closed) l.clients n.client (λ c. refl) n.found
    (idle-move n.client IsClosing Closed n.stands refl refl) in
    omega arith
credit-step clock s hand l (Asked c a y room) first second v n calm whole m = let f = free-kept s
    (is_client a) (asks_one (record { number = c; req_type = y; room = room; ask = first }))
    l.clients (λ c. refl) (λ c. refl) (λ c. refl) in omega arith
credit-step clock s hand l (Begun c r) first second v n calm whole m = let f =
    free-kept s (has_call c) (begins c r) l.clients (λ c. refl) (λ c. refl)
    (λ c. refl) in omega arith
credit-step clock s hand l (DoneOk c) first second v n calm whole m = let f =
    free-kept s (has_call c) (ends c) l.clients (λ c. refl) (λ c. refl) (λ c. refl) in omega arith
credit-step clock s hand l (DoneTooSmall c size) first second v n calm whole m = let f =
    free-kept s (has_call c) (ends c) l.clients (λ c. refl) (λ c. refl) (λ c. refl) in omega arith
credit-step clock s hand l (DonePeerLost c) first second v n calm whole m = let f =
    free-kept s (has_call c) (ends c) l.clients (λ c. refl) (λ c. refl) (λ c. refl) in omega arith
credit-step clock s hand l (Rolled c posted got) first second v n calm whole m = cc
credit-step clock s hand l (Broken a) first second v n calm whole m = absurd (whole a refl)
credit-step clock s hand l (Posted (Ask a r) k) first second v n calm whole m =
    let x = n.client in
    let f = posts-free s a r k l.clients x n.active.place.client n.connected n.credit in
    let g = limit-kept s (is_client a) (posts r k) l.clients (λ c. refl) (λ c. refl) in
    let one = and-all (a == s) in
    omega arith
credit-step clock s hand l (Sent peer (Ask a r) k) first second v n calm whole m = let f =
    free-kept s (is_client a) (sends clock r k) l.clients (λ c. refl) (λ c. refl)
    (λ c. refl) in omega arith
credit-step clock s hand l (Took (Ask a r) k) first second v n calm whole m =
    let f = takes-free clock s a r (front_header l.ring) (front_body l.ring) l.clients n.client
    n.active.place.client n.connected in
    let g = limit-kept s (is_client a) (takes clock r (front_header l.ring) (front_body l.ring))
    l.clients (λ c. refl) (λ c. refl) in
    let one = and-all (a == s) in
    omega arith
credit-step clock s hand l (Posted (Reply t r) k) first second v n calm whole m = omega arith
credit-step clock s hand l (Posted Control k) first second v n calm whole m = omega arith
credit-step clock s hand l (Sent peer (Reply t r) k) first second v n calm whole m = omega arith
credit-step clock s hand l (Sent peer Control k) first second v n calm whole m =
    let k = told-credit clock s (control_of first) l.clients in omega arith
credit-step clock s hand l (Took (Reply t r) k) first second v n calm whole m = omega arith
credit-step clock s hand l (Took Control k) first second v n calm whole m = omega arith
credit-step clock s hand l _ first second v n calm whole m = omega arith
