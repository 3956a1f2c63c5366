-- What becomes of a packet by one fact: it stands somewhere after it, or its fate is named.
use Rattle.std.proofs.Common.{◌≡◌, ◌+◌, ◌-◌, ◌≤◌, ◌==◌, ◌&&◌, ◌||◌, ◌⊎◌, inl, inr, ℕ, zero, suc}
use Rattle.std.proofs.Common.{not, Bool, true, false, cond, List, [], ◌∷◌}
use Rattle.std.proofs.Common.{◌++◌, length, Option, Some, None, slice_get, refl, sym, ap, ◌∙◌}
use Rattle.std.proofs.Common.{subst, eq-eqb, arith}
use Rattle.std.specs.Prelude.{option_to_list, option_and_then, option_map, is_some}
use Rattle.std.specs.List.{find, slice_set, remove}
use Rattle.std.proofs.lemmas.Bool.{eqb-true, and_parts, and_from}
use Rattle.packet_header.specs.Parts.{packet_count}
use Rattle.packet_header.specs.Reading.{decoded, message_of}
use Rattle.packet_header.specs.declared.packet.MessageHeader.{MessageHeader}
use Rattle.rpc_base.proofs.BasicLemmas.{false-true, or-right}
use Rattle.rpc_base.specs.declared.event.Event.{Event}
use Rattle.rpc_base.specs.declared.event.Event.TheVariants.{Flushed, Sent, Took, Dropped, Rolled}
use Rattle.rpc_base.specs.declared.event.Event.TheVariants.{Broken, Arrived, Overflowed}
use Rattle.rpc_base.specs.declared.event.Event.TheVariants.{Carried, Lost, Repeated, Posted, Again}
use Rattle.rpc_base.specs.declared.event.Event.TheVariants.{Given, Ran, Bad}
use Rattle.rpc_base.specs.declared.fact.Fact.{Fact}
use Rattle.rpc_base.specs.declared.fact.Who.{Who}
use Rattle.rpc_base.specs.declared.fact.Who.TheVariants.{Net}
use Rattle.rpc_base.specs.declared.owner.Owner.TheVariants.{Ask, Reply, Control}
use Rattle.rpc_base.specs.declared.state.DropReason.{DropReason}
use Rattle.rpc_laws.specs.declared.tables.Arrival.{Arrival}
use Rattle.rpc_laws.specs.declared.tables.Client.{Client}
use Rattle.rpc_laws.specs.declared.tables.InFlight.{InFlight}
use Rattle.rpc_laws.specs.declared.tables.Lists.{Lists}
use Rattle.rpc_laws.specs.declared.tables.Server.{Server}
use Rattle.rpc_laws.specs.BufferSafety.{nodes_at}
use Rattle.rpc_laws.specs.Facts.{with_two}
use Rattle.rpc_laws.specs.Front.{front_header, is_message}
use Rattle.rpc_laws.specs.InFlight.{flight_after_node, flight_after_net, flight_at}
use Rattle.rpc_laws.specs.NodeLists.{after}
use Rattle.rpc_laws.specs.Pacing.{due_of}
use Rattle.rpc_laws.specs.Requests.{is_server}
use Rattle.rpc_laws.specs.Sessions.{is_client}
use Rattle.end_laws.specs.Kinds.{is_ask}
use Rattle.end_laws.specs.Moments.{Moment, moved, hand_of, hand_after}
use Rattle.end_laws.proofs.Allowed.{MayLeave, MayOutdate, May, is_packet}
use Rattle.end_laws.proofs.Courses.{latest, AtNode, noted_at}
use Rattle.end_laws.proofs.QueueLemmas.{RightNode}
use Rattle.ring_laws.proofs.ClientReach.{client-reach, spilt_reply}
use Rattle.ring_laws.proofs.Counting.{count-append, count-add, count-remove}
use Rattle.ring_laws.proofs.Loads.{Filter, Pairing, asks, replies, client_packets}
use Rattle.ring_laws.proofs.Loads.{given_ask, given_reply, sent_ask, sent_reply, posted_ask}
use Rattle.ring_laws.proofs.Loads.{took_reply, client_part}
use Rattle.ring_laws.proofs.Loads.{on_way, ask_to, reply_to}
use Rattle.ring_laws.proofs.SentReads.{Reads, sent-reads}
use Rattle.ring_laws.proofs.WithinSteps.{here-now, here-was, there-same}
use Rattle.ring_laws.proofs.WorldSteps.{and-count, if_at}
use Rattle.stall_laws.specs.Caused.{lost_at_node, lost_in_net, lost_by, front_copy}
use Rattle.stall_laws.proofs.Dues.{Due, nothing, reply, delivery, flushed, covers, is_alone, Step}
use Rattle.stall_laws.proofs.Dues.{alone, older}
use Rattle.stall_laws.proofs.Dues.{takes, repeats, posts, gives, serves, finishes, is_done, leaves}
use Rattle.stall_laws.proofs.Dues.{arrives}
use Rattle.stall_laws.proofs.Dues.{overflows, is_bad}
use Rattle.stall_laws.proofs.Dues.{flushes, rolls, breaks, Goes, IsOlder, IsCallFor}
use Rattle.stall_laws.proofs.Moves.{net_due}
use Rattle.stall_laws.proofs.Standing.{owed_at, flushed_at, due_copy, standing, step-noted}
use Rattle.ring_laws.proofs.WorldSteps.{le-by}
use Rattle.stall_laws.proofs.Standing.{here-moves, server_here, server_now, spilt_at}

-- the sessions that are found at the ends of a pairing are its own
pub record JoinsAt (hand : Option InFlight) (n : ℕ) (l : Lists) (x : Pairing) : Type 0 where
  pub home_life : n ≡ x.home → l.life ≡ x.home_life
  pub client : n ≡ x.home → (c : Client) → find (is_client x.client) l.clients ≡ Some c
      → (c.way.peer ≡ x.node) × (c.way.life ≡ x.node_life) × (c.way.other ≡ x.session)
  pub server : n ≡ x.node → l.life ≡ x.node_life → (v : Server)
      → find (is_server x.session) l.servers ≡ Some v
      → (v.way.peer ≡ x.home) × (v.way.life ≡ x.home_life) × (v.way.other ≡ x.client)
  pub stands : n ≡ x.node → l.life ≡ x.node_life → find (is_server x.session) l.servers ≡ None
      → ⊥
  pub stays : n ≡ x.node → l.life ≡ x.node_life
      → MayLeave hand l x.session ⊎ MayOutdate hand l x.session → ⊥

-- a datagram of a pairing was lost
pub record Passing (x : Pairing) (r k : ℕ) (lost : Option InFlight) : Type 0 where
  pub copy : InFlight
  pub is_lost : lost ≡ Some copy
  pub own : (ask_to (is_packet r k) x.node x.node_life x.session copy
      || reply_to (is_packet r k) x.home x.home_life x.client copy) ≡ true

-- the fate of a packet by a fact of node n
pub data Fate (w : Moment) (n : ℕ) (l : Lists) (x : Pairing) (r k : ℕ) (e : Event) (first : List ℕ) : Type 0 where
  took : n ≡ x.home → e ≡ Took (Ask x.client r) k → Fate w n l x r k e first
  passed : n ≡ x.node → l.life ≡ x.node_life → e ≡ Flushed (Reply x.session r) k
      → IsOlder l x.session r → Fate w n l x r k e first
  lost : Passing x r k (lost_at_node w n e first) → Fate w n l x r k e first
  rolled : n ≡ x.home → (c posted got : ℕ) → e ≡ Rolled c posted got → IsCallFor l x.client c r
      → Fate w n l x r k e first
  broken : n ≡ x.home → e ≡ Broken x.client → Fate w n l x r k e first

-- a step is of its node
abbrev OfNode : ℕ → Due → Type 0
OfNode me (reply m t r k) = m ≡ me
OfNode me (flushed m s o) = m ≡ me
OfNode me nothing = Unit {0}
OfNode me delivery = Unit {0}

goes-of : (d : Due) (me s : ℕ) (o : Option ℕ) → Goes d me s o → OfNode me d
goes-of nothing me s o g = tt
goes-of (flushed m t p) me s o g = g.0
goes-of (reply m t r k) me s o g = absurd g
goes-of delivery me s o g = absurd g

step-of : (hand : Option InFlight) (l : Lists) (first : List ℕ) (d : Due) (e : Event) (u : Due)
    → Step hand l first d e u → OfNode l.me d × OfNode l.me u
step-of hand l first d e u (alone _ h) = (tt, tt)
step-of hand l first d e u (older t r k o) = (tt, tt)
step-of hand l first d e u (leaves t r k m) = (tt, tt)
step-of hand l first d e u (takes t r k) = (tt, refl)
step-of hand l first d e u (repeats t r k) = (tt, refl)
step-of hand l first d e u (posts t r k) = (refl, tt)
step-of hand l first d e u (gives t r k w q) = (refl, tt)
step-of hand l first d e u (serves t r y k none q) = (refl, refl)
step-of hand l first d e u (finishes t r y w) = (tt, refl)
step-of hand l first d e u (is_done t r y w none) = (tt, tt)
step-of hand l first d e u (arrives peer) = (tt, tt)
step-of hand l first d e u (overflows peer) = (tt, tt)
step-of hand l first d e u (is_bad peer copy h g) = (tt, tt)
step-of hand l first d e u (flushes x s r k o go c) = (goes-of x l.me s o go, refl)
step-of hand l first d e u (rolls x s r c posted got go call) = (goes-of x l.me s (Some r) go, tt)
step-of hand l first d e u (breaks x s go) = (goes-of x l.me s None go, tt)

none-at : (b : Bool) → if_at b 0 ≡ 0
none-at true = refl
none-at false = refl

owed-here : (p : Filter) (me n t : ℕ) (d : Due) → OfNode me d → owed_at p n t d ≡ if_at (me == n) (owed_at p me t d)
owed-here p me n t (reply m s r k) of =
    rw (of, eq-eqb me me refl) (and-count (me == n) (s == t && p r k))
owed-here p me n t (flushed m s o) of = sym (none-at (me == n))
owed-here p me n t nothing of = sym (none-at (me == n))
owed-here p me n t delivery of = sym (none-at (me == n))

-- a positive number of either kind
some-one : (b : Bool) (n m : ℕ) → 1 ≤ n → n ≤ m + cond b 1 0 → (1 ≤ m) ⊎ (b ≡ true)
some-one true n m some le = inr refl
some-one false n m some le = inl (omega arith)

some-at : (a b : Bool) (n m : ℕ) → 1 ≤ n → n ≤ m + if_at a (cond b 1 0) → (1 ≤ m) ⊎ ((a ≡ true) × (b ≡ true))
some-at true true n m some le = inr (refl, refl)
some-at true false n m some le = inl (omega arith)
some-at false b n m some le = inl (omega arith)

-- what is sent is in flight
module _ (r k : ℕ) (held : Option InFlight) (n : ℕ) (l : Lists) (x : Pairing)
    (joins : JoinsAt held n l x) where
  abbrev p : Filter
  p = is_packet r k

  ask-goes : (peer s q j : ℕ) (bytes : List ℕ) → Reads l peer (Ask s q) j bytes
      → (n == x.home && (s == x.client && p q j)) ≡ true
      → ask_to p x.node x.node_life x.session (record { from = n; to = peer; bytes = bytes })
      ≡ true
  ask-goes peer s q j bytes r0 t =
      let parts = and_parts (n == x.home) (s == x.client && p q j) t in
      let more = and_parts (s == x.client) (p q j) parts.1 in
      let from = r0.from in
      let h = from.goes.header in
      let session : s ≡ x.client = eqb-true s x.client more.0 in
      let found : find (is_client x.client) l.clients ≡ Some from.client =
      subst (λ (i : ℕ). find (is_client i) l.clients ≡ Some from.client) session from.found in
      let own = joins.client (eqb-true n x.home parts.0) from.client found in
      let reads = r0.read h from.goes.is_message in
      let to : peer ≡ x.node = r0.to_peer ∙ (from.goes.peer ∙ own.0) in
      let life : h.to_life ≡ x.node_life = from.goes.life ∙ own.1 in
      let end : h.session ≡ x.session = from.goes.to ∙ own.2 in
      let passes : p h.request h.number ≡ true = rw (from.goes.request, from.goes.number) more.1 in
      rw reads (and_from (peer == x.node) _ (eq-eqb peer x.node to)
      (and_from (is_ask h.kind) _ from.goes.asks
      (and_from (h.to_life == x.node_life) _ (eq-eqb h.to_life x.node_life life)
      (and_from (h.session == x.session) (p h.request h.number)
      (eq-eqb h.session x.session end) passes))))

  not-false-is : (b : Bool) → b ≡ false → not b ≡ true
  not-false-is b e = rw e refl

  -- whether the node is in the life that its end of the session is of
  abbrev pub own_life : Bool
  own_life = l.life == x.node_life

  reply-goes : (peer t q j : ℕ) (bytes : List ℕ) → Reads l peer (Reply t q) j bytes
      → (n == x.node && (own_life && (t == x.session && p q j))) ≡ true
      → reply_to p x.home x.home_life x.client (record { from = n; to = peer; bytes = bytes })
      ≡ true
  reply-goes peer t q j bytes r0 e =
      let parts = and_parts (n == x.node) (own_life && (t == x.session && p q j)) e in
      let lives = and_parts own_life (t == x.session && p q j) parts.1 in
      let more = and_parts (t == x.session) (p q j) lives.1 in
      let from = r0.from in
      let h = from.goes.header in
      let session : t ≡ x.session = eqb-true t x.session more.0 in
      let found : find (is_server x.session) l.servers ≡ Some from.server =
      subst (λ (i : ℕ). find (is_server i) l.servers ≡ Some from.server) session from.found in
      let own = joins.server (eqb-true n x.node parts.0) (eqb-true l.life x.node_life lives.0)
      from.server found in
      let reads = r0.read h from.goes.is_message in
      let to : peer ≡ x.home = r0.to_peer ∙ (from.goes.peer ∙ own.0) in
      let life : h.to_life ≡ x.home_life = from.goes.life ∙ own.1 in
      let end : h.session ≡ x.client = from.goes.to ∙ own.2 in
      let passes : p h.request h.number ≡ true = rw (from.goes.request, from.goes.number) more.1 in
      rw reads (and_from (peer == x.home) _ (eq-eqb peer x.home to)
      (and_from (not (is_ask h.kind)) _ (not-false-is (is_ask h.kind) from.goes.asks)
      (and_from (h.to_life == x.home_life) _ (eq-eqb h.to_life x.home_life life)
      (and_from (h.session == x.client) (p h.request h.number)
      (eq-eqb h.session x.client end) passes))))

  none-own : (a b : Bool) → if_at a (cond {A = ℕ} b 0 0) ≡ 0
  none-own true true = refl
  none-own true false = refl
  none-own false b = refl

  flight-moves : (hand : Option InFlight) (e : Event) (first second : List ℕ)
      (copies : List InFlight) → RightNode l → May hand l e first second
      → on_way p x copies + if_at (n == x.home) (sent_ask p x.client e)
      + if_at (n == x.node) (cond own_life (sent_reply p x.session e) 0) ≤ on_way p x
      (flight_after_node n e first second copies)
  flight-moves hand (Sent peer (Ask s q) j) first second copies i m =
      let c : InFlight = record { from = n; to = peer; bytes = first ++ second } in
      let r0 = sent-reads l peer (Ask s q) j first second i m in
      let a = count-add (ask_to p x.node x.node_life x.session) copies c in
      let b = count-add (reply_to p x.home x.home_life x.client) copies c in
      let goes = le-by (n == x.home && (s == x.client && p q j))
      (ask_to p x.node x.node_life x.session c) (ask-goes peer s q j (first ++ second) r0) in
      let split = and-count (n == x.home) (s == x.client && p q j) in
      let none = none-own (n == x.node) own_life in
      omega arith
  flight-moves hand (Sent peer (Reply t q) j) first second copies i m =
      let c : InFlight = record { from = n; to = peer; bytes = first ++ second } in
      let r0 = sent-reads l peer (Reply t q) j first second i m in
      let a = count-add (ask_to p x.node x.node_life x.session) copies c in
      let b = count-add (reply_to p x.home x.home_life x.client) copies c in
      let goes = le-by (n == x.node && (own_life && (t == x.session && p q j)))
      (reply_to p x.home x.home_life x.client c) (reply-goes peer t q j (first ++ second) r0) in
      let split = and-count (n == x.node) (own_life && (t == x.session && p q j)) in
      let more = ap (if_at (n == x.node)) (and-count own_life (t == x.session && p q j)) in
      let none = none-at (n == x.home) in
      omega arith
  flight-moves hand (Sent peer Control j) first second copies i m =
      let c : InFlight = record { from = n; to = peer; bytes = first ++ second } in
      let a = count-add (ask_to p x.node x.node_life x.session) copies c in
      let b = count-add (reply_to p x.home x.home_life x.client) copies c in
      let none = none-at (n == x.home) in
      let other = none-own (n == x.node) own_life in
      omega arith
  flight-moves hand _ first second copies i m =
      let a = none-at (n == x.home) in let b = none-own (n == x.node) own_life in omega arith

-- what stands apart from what is due of deliveries and flushes
abbrev base : (r k : ℕ) → Pairing → Due → Moment → ℕ
base r k x d w =
    client_part (is_packet r k) x w.nodes
    + server_now (is_packet r k) x (owed_at (is_packet r k) x.node x.session d) w.nodes
    + on_way (is_packet r k) x w.flight

-- the copy in hand is the one that is delivered
in-hand : (p : Filter) (x : Pairing) (n : ℕ) (hand : Option InFlight) (peer : ℕ) (first : List ℕ)
    → hand ≡ Some (record { from = peer; to = n; bytes = first })
    → on_way p x (option_to_list hand)
    ≡ cond (n == x.node && asks p x.node_life x.session (message_of first)) 1 0
    + cond (n == x.home && replies p x.home_life x.client (message_of first)) 1 0
in-hand p x n hand peer first is = rw is (omega arith)

module _ (w : Moment) (n : ℕ) (l : Lists) (e : Event) (first second : List ℕ) (x : Pairing)
    (r k : ℕ) (a : AtNode w n l (with_two n e first second)) (joins : JoinsAt w.hand n l x)
    (i : RightNode l) where
  abbrev f : Fact
  f = with_two n e first second

  abbrev now : Lists
  now = after w.clock l f

  abbrev q : Filter
  q = is_packet r k

  abbrev owns : Bool
  owns = l.life == x.node_life

  client-by : (d u : Due) → Step w.hand l first d e u → (b : Bool) → (n == x.home) ≡ b
      → client_part q x w.nodes + if_at b (posted_ask q x.client e)
      + if_at b (given_reply q l.life x.client e first)
      ≤ client_part q x (slice_set w.nodes n now)
      + if_at b (sent_ask q x.client e) + if_at b (took_reply q x.client e)
      + if_at b (spilt_reply q x.client e l)
  client-by d u step true t =
      let reach = client-reach q x.client (due_of w.clock e l.paces) (latest w.past) w.hand l e
      first second a.allowed.may a.linked (step-noted w.hand l first d e u step) in
      let new = here-now (client_packets q x.client) w.nodes n x.home l now a.is_node t in
      let old = here-was (client_packets q x.client) w.nodes n x.home l a.is_node t in
      rw (new, old) reach
  client-by d u step false t = let same = there-same (client_packets q x.client) w.nodes n x.home now t in omega arith

  abbrev here_of : Due → Lists → ℕ
  here_of d z = server_here q x.node_life x.session (owed_at q x.node x.session d) z

  server-by : (d u : Due) → Step w.hand l first d e u → (b : Bool) → (n == x.node) ≡ b
      → server_now q x (owed_at q x.node x.session d) w.nodes
      + if_at b (given_ask q x.node_life x.session e first)
      ≤ server_now q x (owed_at q x.node x.session u) (slice_set w.nodes n now)
      + if_at b (cond owns (sent_reply q x.session e) 0)
      + if_at b (spilt_at q x.node_life x.session owns e l)
  server-by d u step true t =
      let at = eqb-true n x.node t in
      let me : l.me ≡ x.node = a.me ∙ at in
      let moves = here-moves q x.node_life x.session w.clock n owns w.hand l first second d e u
      refl step a.allowed.may (joins.stands at) in
      let mine : here_of d l + given_ask q x.node_life x.session e first
      ≤ here_of u now + cond owns (sent_reply q x.session e) 0
      + spilt_at q x.node_life x.session owns e l =
      subst (λ (j : ℕ). server_here q x.node_life x.session (owed_at q j x.session d) l
      + given_ask q x.node_life x.session e first
      ≤ server_here q x.node_life x.session (owed_at q j x.session u) now
      + cond owns (sent_reply q x.session e) 0
      + spilt_at q x.node_life x.session owns e l) me moves in
      let new = here-now (here_of u) w.nodes n x.node l now a.is_node t in
      let old = here-was (here_of d) w.nodes n x.node l a.is_node t in
      rw (new, old) mine
  server-by d u step false t =
      let of = step-of w.hand l first d e u step in
      let me : (l.me == x.node) ≡ false = ap (λ (j : ℕ). j == x.node) a.me ∙ t in
      let before : owed_at q x.node x.session d ≡ 0 =
      owed-here q l.me x.node x.session d of.0
      ∙ ap (λ (b : Bool). if_at b (owed_at q l.me x.session d)) me in
      let later : owed_at q x.node x.session u ≡ 0 =
      owed-here q l.me x.node x.session u of.1
      ∙ ap (λ (b : Bool). if_at b (owed_at q l.me x.session u)) me in
      let same = there-same (here_of u) w.nodes n x.node now t in
      let due : server_now q x (owed_at q x.node x.session d) w.nodes
      ≡ server_now q x (owed_at q x.node x.session u) w.nodes =
      ap (λ (o : ℕ). server_now q x o w.nodes) (before ∙ sym later) in
      omega arith

  abbrev BaseMoves : Due → Due → Type 0
  BaseMoves d u =
      base r k x d w + if_at (n == x.home) (posted_ask q x.client e)
      + if_at (n == x.home) (given_reply q x.home_life x.client e first)
      + if_at (n == x.node) (given_ask q x.node_life x.session e first)
      ≤ base r k x u (noted_at w n l f)
      + if_at (n == x.home) (took_reply q x.client e)
      + if_at (n == x.home) (spilt_reply q x.client e l)
      + if_at (n == x.node) (spilt_at q x.node_life x.session owns e l)

  given-here : (b : Bool) → (n == x.home) ≡ b → if_at b (given_reply q l.life x.client e first)
      ≡ if_at b (given_reply q x.home_life x.client e first)
  given-here true t =
      ap (λ (i : ℕ). given_reply q i x.client e first) (joins.home_life (eqb-true n x.home t))
  given-here false t = refl

  base-moves : (d u : Due) → Step w.hand l first d e u → BaseMoves d u
  base-moves d u step =
      let c = client-by d u step (n == x.home) refl in
      let s = server-by d u step (n == x.node) refl in
      let g = flight-moves r k w.hand n l x joins w.hand e first second w.flight i a.allowed.may in
      let given = given-here (n == x.home) refl in
      omega arith

  -- what is posted stands
  pub posted-stands : (d u : Due) → Step w.hand l first d e u → n ≡ x.home
      → posted_ask q x.client e ≡ 1 → took_reply q x.client e ≡ 0 → spilt_reply q x.client e l ≡ 0
      → spilt_at q x.node_life x.session owns e l ≡ 0 → 1 ≤ standing r k x u (noted_at w n l f)
  posted-stands d u step home one none spilt other =
      let b = base-moves d u step in
      let here : if_at (n == x.home) (posted_ask q x.client e) ≡ 1 =
      ap (λ (c : Bool). if_at c (posted_ask q x.client e)) (eq-eqb n x.home home) ∙ one in
      let z = ap (if_at (n == x.home)) none ∙ none-at (n == x.home) in
      let y = ap (if_at (n == x.home)) spilt ∙ none-at (n == x.home) in
      let v = ap (if_at (n == x.node)) other ∙ none-at (n == x.node) in
      omega arith

  abbrev Outcome : Due → Type 0
  Outcome u = (1 ≤ standing r k x u (noted_at w n l f)) ⊎ Fate w n l x r k e first

  stays : (u : Due) → 1 ≤ base r k x u (noted_at w n l f) → Outcome u
  stays u h = inl (omega arith)

  same-three : (s t z j : ℕ) → (s == t && is_packet r k z j) ≡ true → (s ≡ t) × (z ≡ r) × (j ≡ k)
  same-three s t z j h =
      let one = and_parts (s == t) (z == r && j == k) h in
      let two = and_parts (z == r) (j == k) one.1 in
      (eqb-true s t one.0, eqb-true z r two.0, eqb-true j k two.1)

or-left : (a b : Bool) → a ≡ true → (a || b) ≡ true
or-left a b h = rw h refl

-- the front of a ring is lost where it is dropped
dropped-front : (w : Moment) (n : ℕ) (l : Lists) (x : Pairing) (r k : ℕ) (why : DropReason)
    (first : List ℕ) (ring : List Arrival) → slice_get w.nodes n ≡ Some l → l.ring ≡ ring
    → ((n == x.node && asks (is_packet r k) x.node_life x.session (front_header ring))
    || (n == x.home && replies (is_packet r k) x.home_life x.client (front_header ring))) ≡ true
    → Passing x r k (lost_at_node w n (Dropped why) first)
unfolding decoded
dropped-front w n l x r k why first [] is e t =
    let no : ((n == x.node && false) || (n == x.home && false)) ≡ true = t in
    absurd (none (n == x.node) (n == x.home) no)
  where
    none : (a b : Bool) → ((a && false) || (b && false)) ≡ true → ⊥
    none true true h = cc
    none true false h = cc
    none false true h = cc
    none false false h = cc
dropped-front w n l x r k why first (d ∷ ds) is e t = record {
  copy = record { from = d.peer; to = n; bytes = d.bytes };
  is_lost = ap (option_and_then (front_copy n)) is
      ∙ ap (λ (ring : List Arrival). option_map (λ (a : Arrival). record { from = a.peer; to = n; bytes = a.bytes })
      (slice_get ring 0)) e;
  own = t;
}

gone-by : (w : Moment) (n : ℕ) (l : Lists) (x : Pairing) (r k : ℕ) (e : Event) (first : List ℕ)
    (m b : ℕ) → is_alone e ≡ true → slice_get w.nodes n ≡ Some l
    → (n ≡ x.home → l.life ≡ x.home_life) → 1 ≤ m
    → m ≤ b + if_at (n == x.home) (took_reply (is_packet r k) x.client e)
    + if_at (n == x.home) (spilt_reply (is_packet r k) x.client e l)
    + if_at (n == x.node) (spilt_at (is_packet r k) x.node_life x.session (l.life == x.node_life) e l)
    → (1 ≤ b) ⊎ Fate w n l x r k e first
gone-by w n l x r k (Took (Ask a q) j) first m b al is home some le =
    let z = none-at (n == x.home) in
    let y = none-at (n == x.node) in
    elim (some-at (n == x.home) (a == x.client && is_packet r k q j) m b some (omega arith)) [
      | inl more ↦ inl more
      | inr both ↦ (let same = three a x.client q j both.1 in
          inr (took (eqb-true n x.home both.0) (rw (same.0, same.1, same.2) refl)))
    ]
  where
    three : (s t z j : ℕ) → (s == t && is_packet r k z j) ≡ true → (s ≡ t) × (z ≡ r) × (j ≡ k)
    three s t z j h =
        let one = and_parts (s == t) (z == r && j == k) h in
        let two = and_parts (z == r) (j == k) one.1 in
        (eqb-true s t one.0, eqb-true z r two.0, eqb-true j k two.1)
gone-by w n l x r k (Took (Reply t q) j) first m b al is home some le = false-true al
gone-by w n l x r k (Took Control j) first m b al is home some le = false-true al
gone-by w n l x r k (Flushed owner j) first m b al is home some le = false-true al
gone-by w n l x r k (Dropped why) first m b al is home some le =
    let z = none-at (n == x.home) in
    let p = is_packet r k in
    let front = front_header l.ring in
    elim (some-at (n == x.node) (asks p x.node_life x.session front) m
    (b + if_at (n == x.home) (cond (replies p l.life x.client front) 1 0)) some (omega arith)) [
      | inr both ↦ inr (lost (dropped-front w n l x r k why first l.ring is refl
          (or-left _ _ (and_from (n == x.node) (asks p x.node_life x.session front) both.0 both.1))))
      | inl more ↦ elim (some-at (n == x.home) (replies p l.life x.client front)
          (b + if_at (n == x.home) (cond (replies p l.life x.client front) 1 0)) b more
          (omega arith)) [
            | inl rest ↦ inl rest
            | inr both ↦ (let life = home (eqb-true n x.home both.0) in
                let goes : replies p x.home_life x.client front ≡ true =
                ap (λ (i : ℕ). replies p i x.client front) (sym life) ∙ both.1 in
                inr (lost (dropped-front w n l x r k why first l.ring is refl
                (or-right (n == x.node && asks p x.node_life x.session front) _
                (and_from (n == x.home) (replies p x.home_life x.client front) both.0 goes)))))
          ]
    ]
gone-by w n l x r k _ first m b al is home some le =
    let z = none-at (n == x.home) in
    let y = none-at (n == x.node) in
    inl (omega arith)

-- what a flush takes out is due
flush-less : (r k me s q j : ℕ) (o : Option ℕ) (x : Pairing) → covers o q ≡ true
    → if_at (me == x.home) (cond (s == x.client && is_packet r k q j) 1 0) ≤ cond
    (me == x.home && (s == x.client && covers o r)) 1 0
flush-less r k me s q j o x c = by (me == x.home) (s == x.client) (q == r) (j == k) refl
  where
    by : (a b d e : Bool) → (q == r) ≡ d → if_at a (cond (b && (d && e)) 1 0) ≤ cond (a && (b && covers o r)) 1 0
    by false b d e t = omega arith
    by true false d e t = omega arith
    by true true false e t = omega arith
    by true true true false t = omega arith
    by true true true true t =
        let same : covers o r ≡ true = ap (covers o) (sym (eqb-true q r t)) ∙ c in
        rw same (omega arith)

flushed-parts : (m a r : ℕ) (o : Option ℕ) (x : Pairing)
    → (m == x.home && (a == x.client && covers o r)) ≡ true → (m ≡ x.home) × (a ≡ x.client)
    × (covers o r ≡ true)
flushed-parts m a r o x h =
    let one = and_parts (m == x.home) (a == x.client && covers o r) h in
    let two = and_parts (a == x.client) (covers o r) one.1 in
    (eqb-true m x.home one.0, eqb-true a x.client two.0, two.1)

-- a packet that stood somewhere does so after a fact of a node, or has one of these fates
pub node-fate : (w : Moment) (n : ℕ) (l : Lists) (first second : List ℕ) (x : Pairing) (r k : ℕ)
    (d : Due) (e : Event) (u : Due) → Step w.hand l first d e u
    → AtNode w n l (with_two n e first second) → JoinsAt w.hand n l x → RightNode l
    → 1 ≤ standing r k x d w
    → (1 ≤ standing r k x u (noted_at w n l (with_two n e first second)))
    ⊎ Fate w n l x r k e first
node-fate w n l first second x r k d e u (alone _ al) a j i some =
    let m = base-moves w n l e first second x r k a j i nothing nothing (alone e al) in
    elim (gone-by w n l x r k e first (base r k x nothing w)
    (base r k x nothing (noted_at w n l (with_two n e first second))) al a.is_node
    j.home_life (omega arith) (omega arith)) [
      | inl more ↦ inl (omega arith)
      | inr fate ↦ inr fate
    ]
node-fate w n l first second x r k d e u (older t q b o) a j i some =
    let m = base-moves w n l (Flushed (Reply t q) b) first second x r k a j i nothing nothing (older t q b o) in
    let z = none-at (n == x.home) in
    elim (some-at (n == x.node) (l.life == x.node_life && (t == x.session && is_packet r k q b))
    (base r k x nothing w)
    (base r k x nothing (noted_at w n l (with_two n (Flushed (Reply t q) b) first second)))
    (omega arith) (omega arith)) [
      | inl more ↦ inl (omega arith)
      | inr both ↦ (let own = and_parts (l.life == x.node_life) _ both.1 in
          let same = same-three w n l (Flushed (Reply t q) b) first second x r k a j i t x.session
          q b own.1 in
          inr (passed (eqb-true n x.node both.0) (eqb-true l.life x.node_life own.0)
          (rw (same.0, same.1, same.2) refl) (rw (← same.0, ← same.1) o)))
    ]
node-fate w n l first second x r k d e u (leaves t q b gone) a j i some =
    let m = base-moves w n l (Flushed (Reply t q) b) first second x r k a j i nothing nothing
    (leaves t q b gone) in
    let z = none-at (n == x.home) in
    elim (some-at (n == x.node) (l.life == x.node_life && (t == x.session && is_packet r k q b))
    (base r k x nothing w)
    (base r k x nothing (noted_at w n l (with_two n (Flushed (Reply t q) b) first second)))
    (omega arith) (omega arith)) [
      | inl more ↦ inl (omega arith)
      | inr both ↦ (let own = and_parts (l.life == x.node_life) _ both.1 in
          let same = same-three w n l
          (Flushed (Reply t q) b) first second x r k a j i t x.session q b own.1 in
          absurd (j.stays (eqb-true n x.node both.0) (eqb-true l.life x.node_life own.0)
          (subst (λ (z : ℕ). MayLeave w.hand l z ⊎ MayOutdate w.hand l z) same.0 gone)))
    ]
node-fate w n l first second x r k d e u (takes t q b) a j i some =
    let m = base-moves w n l (Took (Reply t q) b) first second x r k a j i nothing (reply l.me t q b) (takes t q b) in
    let z = none-at (n == x.home) in let y = none-at (n == x.node) in inl (omega arith)
node-fate w n l first second x r k d e u (repeats t q b) a j i some =
    let m = base-moves w n l (Again (Reply t q) b) first second x r k a j i nothing (reply l.me t q b)
    (repeats t q b) in
    let z = none-at (n == x.home) in let y = none-at (n == x.node) in inl (omega arith)
node-fate w n l first second x r k d e u (posts t q b) a j i some =
    let m = base-moves w n l (Posted (Reply t q) b) first second x r k a j i (reply l.me t q b) nothing (posts t q b) in
    let z = none-at (n == x.home) in let y = none-at (n == x.node) in inl (omega arith)
node-fate w n l first second x r k d e u (gives t q b v same) a j i some =
    let m = base-moves w n l (Given t q) first second x r k a j i (reply l.me t q b) nothing (gives t q b v same) in
    let z = none-at (n == x.home) in let y = none-at (n == x.node) in inl (omega arith)
node-fate w n l first second x r k d e u (serves t q c b v same) a j i some =
    let m = base-moves w n l (Ran t q c) first second x r k a j i (reply l.me t q b) (reply l.me t q b)
    (serves t q c b v same) in
    let z = none-at (n == x.home) in let y = none-at (n == x.node) in inl (omega arith)
node-fate w n l first second x r k d e u (finishes t q c v) a j i some =
    let m = base-moves w n l (Ran t q c) first second x r k a j i nothing (reply l.me t q (packet_count
    (length first) - 1)) (finishes t q c v) in
    let z = none-at (n == x.home) in let y = none-at (n == x.node) in inl (omega arith)
node-fate w n l first second x r k d e u (is_done t q c v gone) a j i some =
    let m = base-moves w n l (Ran t q c) first second x r k a j i nothing nothing
    (is_done t q c v gone) in
    let z = none-at (n == x.home) in let y = none-at (n == x.node) in inl (omega arith)
node-fate w n l first second x r k d e u (arrives peer) a j i some =
    let p = is_packet r k in
    let m = base-moves w n l (Arrived peer) first second x r k a j i delivery nothing (arrives peer) in
    let h = in-hand p x n w.hand peer first (a.allowed.may.in_hand ∙ ap
    (λ (b : ℕ). Some (record { from = peer; to = b; bytes = first })) a.me) in
    let ask = and-count (n == x.node) (asks p x.node_life x.session (message_of first)) in
    let rep = and-count (n == x.home) (replies p x.home_life x.client (message_of first)) in
    let z = none-at (n == x.home) in let y = none-at (n == x.node) in inl (omega arith)
node-fate w n l first second x r k d e u (overflows peer) a j i some =
    let p = is_packet r k in
    let m = base-moves w n l (Overflowed peer) first second x r k a j i delivery nothing (overflows peer) in
    let h = in-hand p x n w.hand peer first (a.allowed.may.delivered.in_hand ∙ ap
    (λ (b : ℕ). Some (record { from = peer; to = b; bytes = first })) a.me) in
    let z = none-at (n == x.home) in let y = none-at (n == x.node) in
    let copy : InFlight = record { from = peer; to = n; bytes = first } in
    let now = base r k x nothing (noted_at w n l (with_two n (Overflowed peer) first second)) in
    elim (some-one (n == x.node && asks p x.node_life x.session (message_of first)) (base r k x delivery w + on_way p x
    (option_to_list w.hand))
    (now + cond (n == x.home && replies p x.home_life x.client (message_of first)) 1 0) (omega arith) (omega arith)) [
      | inr ask ↦ inr (lost (record { copy = copy; is_lost = refl; own = or-left _ _ ask }))
      | inl more ↦ elim (some-one (n == x.home && replies p x.home_life x.client (message_of first))
          (now + cond (n == x.home && replies p x.home_life x.client (message_of first)) 1 0) now more (omega arith)) [
            | inr rep ↦ inr (lost (record {
              copy = copy;
              is_lost = refl;
              own = or-right
                  (ask_to p x.node x.node_life x.session copy) _ rep;
            }))
            | inl rest ↦ inl (omega arith)
          ]
    ]
node-fate w n l first second x r k d e u (is_bad peer copy is bad) a j i some =
    let p = is_packet r k in
    let m = base-moves w n l (Bad peer) first second x r k a j i delivery nothing (is_bad peer copy is bad) in
    let h : on_way p x (option_to_list w.hand) ≡ 0 =
    ap (λ (o : Option InFlight). on_way p x (option_to_list o)) is ∙ unread p x copy (message_of copy.bytes) refl bad in
    let z = none-at (n == x.home) in let y = none-at (n == x.node) in inl (omega arith)
  where
    none-way : (a b : Bool) → cond {A = ℕ} (a && false) 1 0 + 0 + (cond (b && false) 1 0 + 0) ≡ 0
    none-way true true = refl
    none-way true false = refl
    none-way false true = refl
    none-way false false = refl

    unread : (p : Filter) (x : Pairing) (c : InFlight) (o : Option MessageHeader)
        → message_of c.bytes ≡ o → is_message c.bytes ≡ false → on_way p x (c ∷ []) ≡ 0
    unread p x c None e h = rw e (none-way (c.to == x.node) (c.to == x.home))
    unread p x c (Some g) e h = let yes : is_some (message_of c.bytes) ≡ true = ap is_some e in false-true (sym h ∙ yes)
node-fate w n l first second x r k d e u (flushes nothing s q b o go c) a j i some =
    let m = base-moves w n l (Flushed (Ask s q) b) first second x r k a j i nothing (flushed l.me s o)
    (flushes nothing s q b o go c) in
    let y = none-at (n == x.node) in
    let z = none-at (n == x.home) in
    let g = flush-less r k l.me s q b o x c in
    let me = ap (λ (v : ℕ). if_at (v == x.home) (cond (s == x.client && is_packet r k q b) 1 0)) a.me in
    inl (omega arith)
node-fate w n l first second x r k d e u (flushes (flushed v t p) s q b o go c) a j i some =
    let m = base-moves w n l (Flushed (Ask s q) b) first second x r k a j i (flushed v t p) (flushed l.me s o)
    (flushes (flushed v t p) s q b o go c) in
    let y = none-at (n == x.node) in
    let z = none-at (n == x.home) in
    let g = flush-less r k l.me s q b o x c in
    let me = ap (λ (v : ℕ). if_at (v == x.home) (cond (s == x.client && is_packet r k q b) 1 0)) a.me in
    let before : cond {A = ℕ} (v == x.home && (t == x.client && covers p r)) 1 0
    ≡ cond (l.me == x.home && (s == x.client && covers o r)) 1 0 = rw (go.0, go.1, go.2) refl in
    elim (some-one (l.me == x.home && (s == x.client && covers o r))
    (standing r k x (flushed v t p) w) (base r k x (flushed v t p) w) some (omega arith)) [
      | inl more ↦ inl (omega arith)
      | inr here ↦ (let one : cond {A = ℕ} (l.me == x.home && (s == x.client && covers o r)) 1 0 ≡ 1 =
          ap {B = ℕ} (λ (b : Bool). cond b 1 0) here in inl (omega arith))
    ]
node-fate w n l first second x r k d e u (flushes (reply v t p f) s q b o go c) a j i some = absurd go
node-fate w n l first second x r k d e u (flushes delivery s q b o go c) a j i some = absurd go
node-fate w n l first second x r k d e u (rolls nothing s q c po got go call) a j i some =
    let m = base-moves w n l (Rolled c po got) first second x r k a j i nothing nothing
    (rolls nothing s q c po got go call) in
    let z = none-at (n == x.home) in let y = none-at (n == x.node) in inl (omega arith)
node-fate w n l first second x r k d e u (rolls (flushed v t p) s q c po got go call) a j i some =
    let m = base-moves w n l (Rolled c po got) first second x r k a j i (flushed v t p) nothing (rolls
    (flushed v t p) s q c po got go call) in
    let z = none-at (n == x.home) in let y = none-at (n == x.node) in
    elim (some-one (v == x.home && (t == x.client && covers p r))
    (standing r k x (flushed v t p) w) (base r k x (flushed v t p) w) some (omega arith)) [
      | inl more ↦ inl (omega arith)
      | inr here ↦ (let parts = flushed-parts v t r p x here in
          let request : q ≡ r = eqb-true q r (ap (λ (o : Option ℕ). covers o r) (sym go.2) ∙ parts.2) in
          let session : s ≡ x.client = sym go.1 ∙ parts.1 in
          inr (rolled (sym a.me ∙ (sym go.0 ∙ parts.0)) c po got refl (rw (← session, ← request) call)))
    ]
node-fate w n l first second x r k d e u (rolls (reply v t p f) s q c po got go call) a j i some = absurd go
node-fate w n l first second x r k d e u (rolls delivery s q c po got go call) a j i some = absurd go
node-fate w n l first second x r k d e u (breaks nothing s go) a j i some =
    let m = base-moves w n l (Broken s) first second x r k a j i nothing nothing (breaks nothing s go) in
    let z = none-at (n == x.home) in let y = none-at (n == x.node) in inl (omega arith)
node-fate w n l first second x r k d e u (breaks (flushed v t p) s go) a j i some =
    let m = base-moves w n l (Broken s) first second x r k a j i (flushed v t p) nothing (breaks
    (flushed v t p) s go) in
    let z = none-at (n == x.home) in let y = none-at (n == x.node) in
    elim (some-one (v == x.home && (t == x.client && covers p r))
    (standing r k x (flushed v t p) w) (base r k x (flushed v t p) w) some (omega arith)) [
      | inl more ↦ inl (omega arith)
      | inr here ↦ (let parts = flushed-parts v t r p x here in
          let session : s ≡ x.client = sym go.1 ∙ parts.1 in
          inr (broken (sym a.me ∙ (sym go.0 ∙ parts.0)) (ap Broken session)))
    ]
node-fate w n l first second x r k d e u (breaks (reply v t p f) s go) a j i some = absurd go
node-fate w n l first second x r k d e u (breaks delivery s go) a j i some = absurd go

-- and after a fact of the network, where no copy of it is lost
found-lost : (x : Pairing) (r k : ℕ) (o : Option InFlight) → 1 ≤ on_way (is_packet r k) x (option_to_list o)
    → Passing x r k o
found-lost x r k None some = absurd (omega arith)
found-lost x r k (Some c) some = record { copy = c; is_lost = refl; own = by _ _ some }
  where
    by : (a b : Bool) → 1 ≤ cond {A = ℕ} a 1 0 + 0 + (cond b 1 0 + 0) → (a || b) ≡ true
    by true b h = refl
    by false true h = refl
    by false false h = absurd (omega arith)

pub net-copies : (x : Pairing) (r k : ℕ) (e : Event) (w : Moment)
    → let p : Filter = is_packet r k in
    1 ≤ on_way p x w.flight → (1 ≤ on_way p x (flight_after_net e w.flight)
    + on_way p x (due_copy (net_due e) (hand_of e w.flight w.hand)))
    ⊎ Passing x r k (lost_in_net w e)
net-copies x r k (Carried i) w some =
    let a = count-remove (ask_to (is_packet r k) x.node x.node_life x.session) w.flight i in
    let b = count-remove (reply_to (is_packet r k) x.home x.home_life x.client) w.flight i in
    inl (omega arith)
net-copies x r k (Lost i) w some =
    let p = is_packet r k in
    let a = count-remove (ask_to p x.node x.node_life x.session) w.flight i in
    let b = count-remove (reply_to p x.home x.home_life x.client) w.flight i in
    by (on_way p x (remove w.flight i)) refl
  where
    by : (m : ℕ) → on_way (is_packet r k) x (remove w.flight i) ≡ m
        → (1 ≤ on_way (is_packet r k) x (remove w.flight i) + (0 + 0)) ⊎ Passing x r k (slice_get w.flight i)
    by zero e =
        let a = count-remove (ask_to (is_packet r k) x.node x.node_life x.session) w.flight i in
        let b = count-remove (reply_to (is_packet r k) x.home x.home_life x.client) w.flight i in
        inr (found-lost x r k (slice_get w.flight i) (omega arith))
    by (suc m) e = inl (omega arith)
net-copies x r k (Repeated i) w some =
    let a = count-append (ask_to (is_packet r k) x.node x.node_life x.session) w.flight
    (option_to_list (slice_get w.flight i)) in
    let b = count-append (reply_to (is_packet r k) x.home x.home_life x.client) w.flight
    (option_to_list (slice_get w.flight i)) in
    inl (omega arith)
net-copies x r k _ w some = inl (omega arith)

due-none : (p : Filter) (x : Pairing) (r : ℕ) (e : Event) (nodes : List Lists)
    → (server_now p x (owed_at p x.node x.session (net_due e)) nodes
    ≡ server_now p x (owed_at p x.node x.session nothing) nodes)
    × (flushed_at r x.home x.client (net_due e) ≡ 0)
due-none p x r (Carried i) nodes = (refl, refl)
due-none p x r _ nodes = (refl, refl)

pub net-fate : (w : Moment) (f : Fact) (x : Pairing) (r k : ℕ) → f.who ≡ Net
    → 1 ≤ standing r k x nothing w → (1 ≤ standing r k x (net_due f.event) (moved w f))
    ⊎ Passing x r k (lost_by w f.who f.event f.first)
net-fate w f x r k who some =
    subst (λ (v : Who). (1 ≤ client_part (is_packet r k) x (nodes_at w.clock v w.nodes f)
    + server_now (is_packet r k) x (owed_at (is_packet r k) x.node x.session (net_due f.event))
    (nodes_at w.clock v w.nodes f)
    + flushed_at r x.home x.client (net_due f.event)
    + on_way (is_packet r k) x (flight_at v f.event f.first f.second w.flight)
    + on_way (is_packet r k) x (due_copy (net_due f.event)
    (hand_after v f.event w.nodes w.flight w.hand)))
    ⊎ Passing x r k (lost_by w v f.event f.first)) (sym who)
    (by (client_part (is_packet r k) x w.nodes
    + server_now (is_packet r k) x (owed_at (is_packet r k) x.node x.session nothing) w.nodes) refl)
  where
    by : (m : ℕ) → client_part (is_packet r k) x w.nodes
        + server_now (is_packet r k) x (owed_at (is_packet r k) x.node x.session nothing) w.nodes
        ≡ m
        → (1 ≤ client_part (is_packet r k) x w.nodes
        + server_now (is_packet r k) x (owed_at (is_packet r k) x.node x.session (net_due f.event))
        w.nodes
        + flushed_at r x.home x.client (net_due f.event)
        + on_way (is_packet r k) x (flight_after_net f.event w.flight)
        + on_way (is_packet r k) x (due_copy (net_due f.event) (hand_of f.event w.flight w.hand)))
        ⊎ Passing x r k (lost_in_net w f.event)
    by zero e =
        let none = due-none (is_packet r k) x r f.event w.nodes in
        elim (net-copies x r k f.event w (omega arith)) [
          | inl more ↦ inl (omega arith)
          | inr gone ↦ inr gone
        ]
    by (suc m) e = let none = due-none (is_packet r k) x r f.event w.nodes in inl (omega arith)
