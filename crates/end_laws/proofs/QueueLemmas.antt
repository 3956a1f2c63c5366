-- The replies that a node has queued are packets of its requests.
use Rattle.std.proofs.Common.{◌≡◌, ◌<◌, ◌≤◌, ◌==◌, ◌⊎◌, inl, inr, ℕ, Bool, true, false, cond, List}
use Rattle.std.proofs.Common.{[], ◌∷◌, ◌++◌, Option, Some, None, refl, sym, ap, ◌∙◌, subst}
use Rattle.std.proofs.Common.{arith, eq-eqb}
use Rattle.std.specs.Prelude.{◌%◌, map}
use Rattle.std.specs.List.{find, list_any, AllByRecursion}
use Rattle.std.proofs.lemmas.Bool.{eqb-true}
use Rattle.packet_header.specs.declared.packet.MessageHeader.{MessageHeader}
use Rattle.rpc_base.specs.Tables.{at_first, without_first}
use Rattle.rpc_base.proofs.BasicLemmas.{false-true, unless-true}
use Rattle.rpc_base.proofs.FirstLemmas.{missing-same}
use Rattle.rpc_base.proofs.TakingLemmas.{find-passes}
use Rattle.rpc_base.specs.declared.event.Event.{Event}
use Rattle.rpc_base.specs.declared.event.Event.TheVariants.{PairedServer, Accepted, Ended, Posted}
use Rattle.rpc_base.specs.declared.event.Event.TheVariants.{Sent, Took, Given, Ran, Flushed, Polled}
use Rattle.rpc_base.specs.declared.owner.Owner.{Owner}
use Rattle.rpc_base.specs.declared.owner.Owner.TheVariants.{Ask, Reply, Control}
use Rattle.rpc_laws.specs.declared.tables.InFlight.{InFlight}
use Rattle.rpc_laws.specs.declared.tables.Lists.{Lists}
use Rattle.rpc_laws.specs.declared.tables.Queued.{Queued}
use Rattle.rpc_laws.specs.declared.tables.Served.{Served}
use Rattle.rpc_laws.specs.declared.tables.Server.{Server}
use Rattle.rpc_laws.specs.Front.{front_header, front_body}
use Rattle.rpc_laws.specs.Queues.{queued_after, is_queued, put_queued, stands_before, is_due, made_ready}
use Rattle.rpc_laws.specs.Requests.{is_server, is_request, in_slot_of, first_packet, next_packet}
use Rattle.rpc_laws.specs.Requests.{took_packet, given, answered, servers_after}
use Rattle.rpc_laws.specs.Requests.{server_end, server_numbers_after}
use Rattle.end_laws.proofs.Allowed.{TakesOf, May}
use Rattle.end_laws.proofs.ListLemmas.{Changed, all-add, all-first, all-without, all-found}
use Rattle.end_laws.proofs.ListLemmas.{find-after, find-without, find-add}
use Rattle.end_laws.proofs.Rights.{SlotRight, SlotsRight, Stands, JobsRight, front-right}
use Rattle.end_laws.proofs.Rights.{took-right, given-right, answered-right, run-ready}
use Rattle.end_laws.proofs.SessionLemmas.{Alone, Over, over-after, over-ended}
use Rattle.end_laws.proofs.SlotLemmas.{with_slots, Apart, Sound, any-find, find-added, none-without}

-- the request of a queued reply stands in its slot with that packet taken, or a later one does
pub record Stood (xs : List Server) (t r k : ℕ) : Type 0 where
  pub server : Server
  pub found : find (is_server t) xs ≡ Some server
  pub request : Served
  pub in_slot : find (in_slot_of r) server.slots ≡ Some request
  pub reached : r ≤ request.number
  pub was_taken : r ≡ request.number → k < request.taken

-- or its session is over
abbrev pub QueueRight : List Server → ℕ → Owner → ℕ → Type 0
QueueRight xs used (Ask s r) k = Unit {0}
QueueRight xs used (Reply t r) k = Over xs used t ⊎ Stood xs t r k
QueueRight xs used Control k = Unit {0}

pub record RightNode (l : Lists) : Type 0 where
  pub sound : Sound l
  pub slots : SlotsRight l.servers
  pub queue : AllByRecursion (λ e. QueueRight l.servers l.server_numbers e.owner e.number) l.queued
  pub jobs : JobsRight l.servers l.server_numbers l.jobs
  pub alone : Alone l.server_numbers l.servers

-- a server session ends
abbrev pub is_end : Event → Bool
is_end (Ended t) = true
is_end _ = false

-- the request that is found is the one that stands
pub stands-same : (xs : List Server) (t r : ℕ) (q : Served) → Stands xs t r q → (v : Server)
    → find (is_server t) xs ≡ Some v → (z : Served) → find (is_request r) v.slots ≡ Some z → q ≡ z
stands-same xs t r q s v is z at =
    let found = s.found in
    let same : s.server ≡ v = cc in
    let there : find (is_request r) v.slots ≡ Some q =
    subst (λ (y : Server). find (is_request r) y.slots ≡ Some q) same s.is_there in
    cc

-- the request of a number changes
slot-first : (t r : ℕ) (change : Served → Served) (xs : List Server) (q : Served) → Stands xs t r q
    → SlotsRight xs → (SlotRight q → SlotRight (change q))
    → SlotsRight (at_first (is_server t) (with_slots (at_first (is_request r) change)) xs)
slot-first t r change xs q s h f =
    all-first (λ v. AllByRecursion SlotRight v.slots) (λ v. AllByRecursion SlotRight v.slots)
    (is_server t) _ xs (λ v k. k)
    (λ v is k. all-first SlotRight SlotRight (is_request r) change v.slots (λ z g. g)
    (λ z at g. subst (λ (y : Served). SlotRight y → SlotRight (change y)) (stands-same xs t r q s v is z at) f g) k) h

pub slots-right : (hand : Option InFlight) (l : Lists) (e : Event) (first second : List ℕ)
    → JobsRight l.servers l.server_numbers l.jobs → May hand l e first second
    → SlotsRight l.servers → SlotsRight (servers_after e second (front_header l.ring)
    (front_body l.ring) l.servers)
slots-right hand l (PairedServer t peer s credits life) first second j m h = absurd m
slots-right hand l (Accepted t peer s credits life) first second j m h =
    all-add (λ v. AllByRecursion SlotRight v.slots) l.servers (server_end t peer s credits life) h tt
slots-right hand l (Ended t) first second j m h =
    all-without (λ v. AllByRecursion SlotRight v.slots) (is_server t) l.servers h
slots-right hand l (Took (Ask s r) k) first second j m h = h
slots-right hand l (Took Control k) first second j m h = h
slots-right hand l (Took (Reply t r) k) first second j m h =
    all-first (λ v. AllByRecursion SlotRight v.slots) (λ v. AllByRecursion SlotRight v.slots)
    (is_server t) _ l.servers (λ v k. k)
    (λ v is k. let found = m.found in
    let same : m.server ≡ v = cc in
    rw (m.is_front.reads, m.of_request) (took-right m.going v.slots m.header (front_body l.ring)
    (front-right l m.header m.is_front.reads)
    (subst (λ (z : Server). TakesOf m.going z.slots m.header) same m.takes) k)) h
slots-right hand l (Given t r) first second j m h =
    let w = m.has in
    slot-first t r given l.servers w.request (record
    { server = w.server; found = w.found; is_there = w.is_there }) h
    (given-right w.request w.whole w.unanswered)
slots-right hand l (Ran t r y) first second j m h =
    elim (run-ready l t r y first h j m) [
      | inl o ↦ rw (missing-same (is_server t) (λ (v : Server). record v
          { slots = at_first (is_request r) (answered second) v.slots }) l.servers o.gone) h
      | inr g ↦ slot-first t r (answered second) l.servers g.request g.stands h
          (answered-right second g.request g.whole)
    ]
slots-right hand l _ first second j m h = h

-- what is found of a session after the first of another number changes
pub server-after : (t n : ℕ) (change : List Served → List Served) (xs : List Server) (v : Server)
    → find (is_server t) xs ≡ Some v
    → (find (is_server t) (at_first (is_server n) (with_slots change) xs) ≡ Some v)
    ⊎ Changed (is_server n) (with_slots change) xs v
    (find (is_server t) (at_first (is_server n) (with_slots change) xs))
server-after t n change xs v h = find-after (is_server n) (is_server t) (with_slots change) xs v (λ x. refl) h

-- one request more stands in a slot
pub slot-added : (r n : ℕ) (slots : List Served) (h : MessageHeader) (body : List ℕ) (q : Served)
    (b : Bool) → (r % 8 == n % 8) ≡ b → Apart slots → find (in_slot_of r) slots ≡ Some q
    → ((z : Served) → find (in_slot_of n) slots ≡ Some z → z.number < n) → (z : Served)
    × (find (in_slot_of r) (without_first (in_slot_of n) slots ++ first_packet n h body ∷ [])
    ≡ Some z) × ((z ≡ q) ⊎ (q.number < z.number))
slot-added r n slots h body q true t a is low =
    let e : r % 8 ≡ n % 8 = eqb-true (r % 8) (n % 8) t in
    let there : find (in_slot_of n) slots ≡ Some q =
    sym (ap (λ k. find (λ (z : Served). z.number % 8 == k) slots) e) ∙ is in
    let lt = low q there in
    let none : list_any (in_slot_of r) (without_first (in_slot_of n) slots) ≡ false =
    ap (λ k. list_any (λ (z : Served). z.number % 8 == k)
    (without_first (in_slot_of n) slots)) e ∙ none-without n slots a in
    let passes : in_slot_of r (first_packet n h body) ≡ true = eq-eqb (n % 8) (r % 8) (sym e) in (
      first_packet n h body,
      find-added (in_slot_of r) (without_first (in_slot_of n) slots)
          (first_packet n h body) none passes,
      inr lt,
    )
slot-added r n slots h body q false t a is low =
    let mine : q.number % 8 ≡ r % 8 = eqb-true _ _ (find-passes (in_slot_of r) slots q is) in
    let other : in_slot_of n q ≡ false = ap (λ k. k == n % 8) mine ∙ t in (
      q,
      find-add (in_slot_of r) (without_first (in_slot_of n) slots)
          (first_packet n h body) q (find-without (in_slot_of n) (in_slot_of r) slots q is other),
      inl
          refl,
    )

-- the slot of a queued reply after a packet is taken
record SlotAfter (slots : List Served) (r k : ℕ) : Type 0 where
  request : Served
  in_slot : find (in_slot_of r) slots ≡ Some request
  reached : r ≤ request.number
  was_taken : r ≡ request.number → k < request.taken

added-after : (slots : List Served) (r k n : ℕ) (h : MessageHeader) (body : List ℕ) (q : Served)
    → (a : (z : Served) × (find (in_slot_of r)
    (without_first (in_slot_of n) slots ++ first_packet n h body ∷ []) ≡ Some z)
    × ((z ≡ q) ⊎ (q.number < z.number))) → r ≤ q.number → (r ≡ q.number → k < q.taken)
    → SlotAfter (without_first (in_slot_of n) slots ++ first_packet n h body ∷ []) r k
added-after slots r k n h body q (z, is, inl same) le was =
    record { request = z; in_slot = is; reached = rw same le; was_taken = rw same was }
added-after slots r k n h body q (z, is, inr lt) le was =
    record {
      request = z;
      in_slot = is;
      reached = omega arith;
      was_taken = λ e. absurd (omega arith);
    }

took-after : (going : Option Served) (slots : List Served) (h : MessageHeader) (body : List ℕ)
    (r k : ℕ) (q : Served) → Apart slots → TakesOf going slots h
    → find (in_slot_of r) slots ≡ Some q → r ≤ q.number → (r ≡ q.number → k < q.taken)
    → SlotAfter (took_packet h.request (Some h) body slots) r k
took-after None slots h body r k q a t is le was =
    let none : list_any (is_request h.request) slots ≡ false = t.2 in
    let low : (z : Served) → find (in_slot_of h.request) slots ≡ Some z → z.number < h.request = λ z e. (t.3 z e).0 in
    rw none (added-after slots r k h.request h body q (slot-added r h.request slots h body q _ refl a is low) le was)
took-after (Some g) slots h body r k q a t is le was =
    let any : list_any (is_request h.request) slots ≡ true = any-find (is_request h.request) slots g t.0 in
    rw any (elim (find-after (is_request h.request) (in_slot_of r) (next_packet body) slots q (λ x. refl) is) [
      | inl e ↦ record { request = q; in_slot = e; reached = le; was_taken = was }
      | inr c ↦ record { request = next_packet body q; in_slot = c.is; reached = le; was_taken = λ e. let lt = was e in omega arith }
    ])

-- or the request of a number changes, which keeps its number and its packets
changed-after : (slots : List Served) (n : ℕ) (change : Served → Served) (r k : ℕ) (q : Served)
    → ((x : Served) → (change x).number ≡ x.number) → ((x : Served) → (change x).taken ≡ x.taken)
    → find (in_slot_of r) slots ≡ Some q → r ≤ q.number → (r ≡ q.number → k < q.taken)
    → SlotAfter (at_first (is_request n) change slots) r k
changed-after slots n change r k q number taken is le was =
    elim (find-after (is_request n) (in_slot_of r) change slots q
    (λ x. ap (λ (m : ℕ). m % 8 == r % 8) (number x)) is) [
      | inl e ↦ record { request = q; in_slot = e; reached = le; was_taken = was }
      | inr c ↦ record {
        request = change q;
        in_slot = c.is;
        reached = rw (number q) le;
        was_taken = rw (number q, taken q) was;
      }
    ]

-- the slots of one session change
stood-by : (xs : List Server) (t r k n : ℕ) (change : List Served → List Served)
    → (s : Stood xs t r k)
    → ((v : Server) → find (is_server n) xs ≡ Some v → v ≡ s.server
    → SlotAfter (change v.slots) r k) → Stood (at_first (is_server n) (with_slots change) xs) t r k
stood-by xs t r k n change s after =
    elim (server-after t n change xs s.server s.found) [
      | inl e ↦ record {
        server = s.server;
        found = e;
        request = s.request;
        in_slot = s.in_slot;
        reached = s.reached;
        was_taken = s.was_taken;
      }
      | inr c ↦ (let a = after s.server c.first refl in record { server = with_slots change s.server; found = c.is; request = a.request; in_slot = a.in_slot; reached = a.reached; was_taken = a.was_taken })
    ]

-- a session of another number is still found where one ends
pub found-ended : (n t : ℕ) (xs : List Server) (v : Server) → (n == t) ≡ false
    → find (is_server t) xs ≡ Some v → find (is_server t) (without_first (is_server n) xs) ≡ Some v
found-ended n t xs v e is =
    let number : v.way.number ≡ t = eqb-true v.way.number t (find-passes (is_server t) xs v is) in
    let other : is_server n v ≡ false =
    ap (λ (m : ℕ). m == n) number ∙ unless-true (t == n) (λ (q : (t == n) ≡ true).
    false-true (sym e ∙ eq-eqb n t (sym (eqb-true t n q)))) in
    find-without (is_server n) (is_server t) xs v is other

ended-by : (n t : ℕ) (b : Bool) (xs : List Server) (used r k : ℕ) → (n == t) ≡ b → Alone used xs
    → (s : Stood xs t r k)
    → Over (without_first (is_server n) xs) used t ⊎ Stood (without_first (is_server n) xs) t r k
ended-by n t true xs used r k e alone s =
    let same = eqb-true n t e in
    rw same (inl (over-ended t used xs s.server alone s.found))
ended-by n t false xs used r k e alone s =
    inr (record {
      server = s.server;
      found = found-ended n t xs s.server e s.found;
      request = s.request;
      in_slot = s.in_slot;
      reached = s.reached;
      was_taken = s.was_taken;
    })

-- a packet of a request stays as right where a session is made
pub stood-added : (xs : List Server) (y : Server) (t r k : ℕ) → Stood xs t r k
    → Stood (xs ++ y ∷ []) t r k
stood-added xs y t r k h =
    record {
      server = h.server;
      found = find-add (is_server t) xs y h.server h.found;
      request = h.request;
      in_slot = h.in_slot;
      reached = h.reached;
      was_taken = h.was_taken;
    }

stood-after : (hand : Option InFlight) (l : Lists) (e : Event) (first second : List ℕ) (t r k : ℕ)
    → is_end e ≡ false → Sound l → May hand l e first second → Stood l.servers t r k
    → Stood (servers_after e second (front_header l.ring) (front_body l.ring) l.servers) t r k
stood-after hand l (PairedServer n peer s credits life) first second t r k q i m h = absurd m
stood-after hand l (Accepted n peer s credits life) first second t r k q i m h =
    stood-added l.servers (server_end n peer s credits life) t r k h
stood-after hand l (Ended n) first second t r k q i m h = false-true (sym q)
stood-after hand l (Took (Ask s n) j) first second t r k q i m h = h
stood-after hand l (Took Control j) first second t r k q i m h = h
stood-after hand l (Took (Reply n p) j) first second t r k q i m h =
    stood-by l.servers t r k n (took_packet p (front_header l.ring) (front_body l.ring)) h
    (λ v is same. let this : m.server ≡ v = cc in
    let apart : Apart v.slots = all-found (λ v. Apart v.slots) (is_server n) l.servers v i is in
    let takes : TakesOf m.going v.slots m.header =
    subst (λ (z : Server). TakesOf m.going z.slots m.header) this m.takes in
    let at : find (in_slot_of r) v.slots ≡ Some h.request =
    subst (λ (z : Server). find (in_slot_of r) z.slots ≡ Some h.request)
    (sym same) h.in_slot in
    rw (m.is_front.reads, m.of_request) (took-after m.going v.slots m.header (front_body l.ring) r k
    h.request apart takes at h.reached h.was_taken))
stood-after hand l (Given n p) first second t r k q i m h =
    stood-by l.servers t r k n (at_first (is_request p) given) h
    (λ v is same. let at : find (in_slot_of r) v.slots ≡ Some h.request = subst (λ (z : Server). find (in_slot_of r) z.slots ≡ Some h.request) (sym same) h.in_slot in
    changed-after v.slots p given r k h.request (λ x. refl) (λ x. refl) at h.reached h.was_taken)
stood-after hand l (Ran n p y) first second t r k q i m h =
    stood-by l.servers t r k n (at_first (is_request p) (answered second)) h
    (λ v is same. let at : find (in_slot_of r) v.slots ≡ Some h.request = subst (λ (z : Server). find (in_slot_of r) z.slots ≡ Some h.request) (sym same) h.in_slot in
    changed-after v.slots p (answered second) r k h.request (λ x. refl) (λ x. refl) at h.reached h.was_taken)
stood-after hand l _ first second t r k q i m h = h

reply-after : (hand : Option InFlight) (l : Lists) (e : Event) (first second : List ℕ) (t r k : ℕ)
    → Sound l → Alone l.server_numbers l.servers → May hand l e first second
    → Stood l.servers t r k
    → Over (servers_after e second (front_header l.ring) (front_body l.ring) l.servers)
    (server_numbers_after e l.server_numbers) t
    ⊎ Stood (servers_after e second (front_header l.ring) (front_body l.ring) l.servers) t r k
reply-after hand l (Ended n) first second t r k i alone m s =
    ended-by n t (n == t) l.servers l.server_numbers r k refl alone s
reply-after hand l e first second t r k i alone m s =
    inr (stood-after hand l e first second t r k refl i m s)

pub queue-after : (hand : Option InFlight) (l : Lists) (e : Event) (first second : List ℕ)
    (o : Owner) (k : ℕ) → Sound l → Alone l.server_numbers l.servers → May hand l e first second
    → QueueRight l.servers l.server_numbers o k
    → QueueRight (servers_after e second (front_header l.ring) (front_body l.ring) l.servers)
    (server_numbers_after e l.server_numbers) o k
queue-after hand l e first second (Ask s r) k i alone m h = tt
queue-after hand l e first second (Reply t r) k i alone m (inl o) =
    inl (over-after t hand l e first second (front_header l.ring) (front_body l.ring) m o)
queue-after hand l e first second (Reply t r) k i alone m (inr s) =
    reply-after hand l e first second t r k i alone m s
queue-after hand l e first second Control k i alone m h = tt

posted-right : (hand : Option InFlight) (l : Lists) (o : Owner) (k : ℕ) (first second : List ℕ)
    → May hand l (Posted o k) first second → QueueRight l.servers l.server_numbers o k
posted-right hand l (Ask s r) k first second m = tt
posted-right hand l (Reply t r) k first second m =
    let e = m.number in
    inr (record {
      server = m.server;
      found = m.found;
      request = m.request;
      in_slot = m.in_slot;
      reached = omega arith;
      was_taken = λ f. m.was_taken;
    })
posted-right hand l Control k first second m = tt

-- a packet that is put among others
put-by : (P : Queued → Type 0) (q p : Queued) (ps : List Queued) (b : Bool) → P q → P p
    → AllByRecursion P ps → AllByRecursion P (put_queued q ps)
    → AllByRecursion P (cond b (p ∷ put_queued q ps) (q ∷ p ∷ ps))
put-by P q p ps true h k a b = (k, b)
put-by P q p ps false h k a b = (h, (k, a))

pub put-all : (P : Queued → Type 0) (q : Queued) (ps : List Queued) → P q → AllByRecursion P ps
    → AllByRecursion P (put_queued q ps)
put-all P q [] h a = (h, tt)
put-all P q (p ∷ ps) h a = put-by P q p ps (stands_before p.due q.due) h a.0 a.1 (put-all P q ps h a.1)

-- a claim of owner and number doesn't change where a packet is made ready
ready-by : (P : Owner → ℕ → Type 0) (q : Queued) (b : Bool) → P q.owner q.number → let r : Queued = cond b (record q { due = None }) q in P r.owner r.number
ready-by P q true h = h
ready-by P q false h = h

pub ready-all : (P : Owner → ℕ → Type 0) (now : ℕ) (qs : List Queued)
    → AllByRecursion (λ q. P q.owner q.number) qs
    → AllByRecursion (λ q. P q.owner q.number) (map (made_ready now) qs)
ready-all P now [] h = tt
ready-all P now (q ∷ qs) h = (ready-by P q (is_due now q.due) h.0, ready-all P now qs h.1)

pub queued-right : (hand : Option InFlight) (l : Lists) (e : Event) (first second : List ℕ)
    (due : Option ℕ) → May hand l e first second
    → AllByRecursion (λ q. QueueRight l.servers l.server_numbers q.owner q.number) l.queued
    → AllByRecursion (λ q. QueueRight l.servers l.server_numbers q.owner q.number)
    (queued_after e due l.queued)
queued-right hand l (Posted o k) first second due m h =
    put-all (λ q. QueueRight l.servers l.server_numbers q.owner q.number)
    (record { owner = o; number = k; due = due }) l.queued (posted-right hand l o k first second m)
    h
queued-right hand l (Polled now) first second due m h =
    ready-all (QueueRight l.servers l.server_numbers) now l.queued h
queued-right hand l (Sent peer o k) first second due m h =
    all-without (λ q. QueueRight l.servers l.server_numbers q.owner q.number)
    (is_queued o k) l.queued h
queued-right hand l (Flushed o k) first second due m h =
    all-without (λ q. QueueRight l.servers l.server_numbers q.owner q.number)
    (is_queued o k) l.queued h
queued-right hand l _ first second due m h = h
