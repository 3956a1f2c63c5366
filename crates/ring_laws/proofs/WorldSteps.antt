-- What is on its way for a session stays within its limit, by each calm fact.
use Rattle.rpc_laws.specs.Requests.{is_request}
use Rattle.std.proofs.Common.{None}
use Rattle.packet_header.specs.Reading.{decoded, message_in}
use Rattle.packet_header.specs.declared.packet.ControlHeader.{ControlHeader}
use Rattle.packet_header.specs.declared.packet.Packet.TheVariants.{Control as ControlPacket}
use Rattle.packet_header.proofs.Readings.{spells-decoded}
use Rattle.std.specs.Prelude.{Ok}
use Rattle.std.proofs.Common.{append-nil}
use Rattle.rpc_base.proofs.BasicLemmas.{and-false}
use Rattle.end_laws.proofs.Allowed.{MaySay, MaySend}
use Rattle.end_laws.proofs.Known.{End, Good}
use Rattle.rpc_laws.specs.Endpoints.{Endpoint}
use Rattle.ring_laws.proofs.FirstLives.{first, FirstLives}
use Rattle.ring_laws.proofs.Standing.{client-known, FitsIn, JoinedTo, slot-joined}
use Rattle.std.proofs.Common.{◌≡◌, ◌+◌, ◌≤◌, ◌==◌, ◌&&◌, ℕ, Bool, true, false, not, cond, List, []}
use Rattle.std.proofs.Common.{◌∷◌, ◌++◌, Option, Some, slice_get, refl, sym, ap, ◌∙◌, subst}
use Rattle.std.proofs.Common.{arith, eq-eqb}
use Rattle.std.proofs.lemmas.Bool.{eqb-true, and_from, both_ways}
use Rattle.packet_header.specs.Reading.{message_of}
use Rattle.packet_header.specs.declared.packet.MessageHeader.{MessageHeader}
use Rattle.rpc_base.specs.declared.event.Event.{Event}
use Rattle.rpc_base.specs.declared.event.Event.TheVariants.{Sent, Arrived}
use Rattle.rpc_base.specs.declared.owner.Owner.{Owner}
use Rattle.rpc_base.specs.declared.owner.Owner.TheVariants.{Ask, Reply, Control}
use Rattle.rpc_laws.specs.declared.tables.InFlight.{InFlight}
use Rattle.rpc_laws.specs.declared.tables.Lists.{Lists}
use Rattle.rpc_laws.specs.declared.tables.Outgoing.{Outgoing}
use Rattle.rpc_laws.specs.InFlight.{flight_after_node}
use Rattle.end_laws.specs.Moments.{Moment}
use Rattle.end_laws.specs.Kinds.{is_ask}
use Rattle.end_laws.proofs.Allowed.{Linked, May}
use Rattle.end_laws.proofs.Courses.{latest}
use Rattle.end_laws.proofs.QueueLemmas.{RightNode}
use Rattle.ring_laws.proofs.Counting.{count-add}
use Rattle.ring_laws.proofs.Loads.{Filter, Pairing, asks, replies, own_ask, own_reply, sent_ask}
use Rattle.ring_laws.proofs.Loads.{sent_reply, given_ask, given_reply, ask_to, reply_to, on_way}
use Rattle.ring_laws.proofs.Loads.{carried}
use Rattle.ring_laws.proofs.SentReads.{FromClient, FromServer, Reads, sent-reads}

bits : (a b e c d : Bool) → (a && (b && (e && (c && d)))) ≡ true
    → (a ≡ true) × (b ≡ true) × (c ≡ true) × (d ≡ true)
bits true true true true true h = (refl, refl, refl, refl)
bits true true true true false h = cc
bits true true true false d h = cc
bits true true false c d h = cc
bits true false e c d h = cc
bits false b e c d h = cc

-- what counts only where another does counts no more
pub le-by : (a b : Bool) → (a ≡ true → b ≡ true) → cond {A = ℕ} a 1 0 ≤ cond b 1 0
le-by false b h = omega arith
le-by true b h = rw (h refl) (omega arith)

-- what counts for a session was its own
module _ (p : Filter) (w : Moment) (g : Good w) (lives : FirstLives w) (n : ℕ) (l : Lists)
    (x : Pairing) (is : slice_get w.nodes n ≡ Some l) (fits : FitsIn g.known w.nodes x) where
  passes-too : (r k : ℕ) (h : MessageHeader) → h.request ≡ r → h.number ≡ k
      → p h.request h.number ≡ true → p r k ≡ true
  passes-too r k h request number e = ap (λ (i : ℕ). p i k) (sym request) ∙ (ap (p h.request) (sym number) ∙ e)

  -- a message with this header counts for the server end, or for the client end
  abbrev for-server : ℕ → MessageHeader → Bool
  for-server peer h =
      peer == x.node && (is_ask h.kind
      && (h.to_life == x.node_life && (h.session == x.session && p h.request h.number)))

  abbrev for-client : ℕ → MessageHeader → Bool
  for-client peer h =
      peer == x.home && (not (is_ask h.kind)
      && (h.to_life == x.home_life && (h.session == x.client && p h.request h.number)))

  ask-own : (peer s r k : ℕ) (out : Outgoing) → (from : FromClient l s r k out) → peer ≡ out.peer
      → for-server peer from.goes.header ≡ true → (n == x.home && (s == x.client && p r k)) ≡ true
  ask-own peer s r k out from to_out t =
      let c = from.client in
      let h = from.goes.header in
      let parts = bits (peer == x.node) (is_ask h.kind) (h.to_life == x.node_life)
      (h.session == x.session) (p h.request h.number) t in
      let node : c.way.peer ≡ x.node = sym (to_out ∙ from.goes.peer) ∙ eqb-true peer x.node parts.0 in
      let session : c.way.other ≡ x.session = sym from.goes.to ∙ eqb-true h.session x.session parts.2 in
      let end = client-known w g lives n l s r c from.call is from.found from.active in
      let e : End = record { home = first n; client = s; credits = c.limit } in
      let there : g.known.ends (first x.node) x.session 0 ≡ Some e =
      subst (λ (i : ℕ). g.known.ends (first i) x.session 0 ≡ Some e) node
      (subst (λ (j : ℕ). g.known.ends (first c.way.peer) j 0 ≡ Some e) session end) in
      let own = fits.server e there in
      let home : n ≡ x.home = ap (λ (a : Endpoint). a.node) own.0 in
      and_from (n == x.home) (s == x.client && p r k) (eq-eqb n x.home home)
      (and_from (s == x.client) (p r k) (eq-eqb s x.client own.1)
      (passes-too r k h from.goes.request from.goes.number parts.3))

  reply-own : (peer t r k : ℕ) (out : Outgoing) → (from : FromServer l t r k out) → peer ≡ out.peer
      → for-client peer from.goes.header ≡ true → (n == x.node && (t == x.session && p r k)) ≡ true
  reply-own peer t r k out from to_out e =
      let v = from.server in
      let h = from.goes.header in
      let parts = bits (peer == x.home) (not (is_ask h.kind)) (h.to_life == x.home_life)
      (h.session == x.client) (p h.request h.number) e in
      let home : v.way.peer ≡ x.home = sym (to_out ∙ from.goes.peer) ∙ eqb-true peer x.home parts.0 in
      let client : v.way.other ≡ x.client = sym from.goes.to ∙ eqb-true h.session x.client parts.2 in
      let joined = slot-joined w g lives n l t
      (is_request r) v from.request is from.found from.is_there in
      let there : JoinedTo w.nodes x.home x.client n t =
      subst (λ (i : ℕ). JoinedTo w.nodes i x.client n t) home
      (subst (λ (j : ℕ). JoinedTo w.nodes v.way.peer j n t) client joined) in
      let own = fits.client n t there in
      and_from (n == x.node) (t == x.session && p r k) (eq-eqb n x.node own.0)
      (and_from (t == x.session) (p r k) (eq-eqb t x.session own.1)
      (passes-too r k h from.goes.request from.goes.number parts.3))

  abbrev sent-copy : ℕ → List ℕ → InFlight
  sent-copy peer bytes = record { from = n; to = peer; bytes = bytes }

  -- a copy that is sent counts only where its owner is an end of the session
  pub ask-counts : (peer : ℕ) (o : Owner) (k : ℕ) (bytes : List ℕ) → Reads l peer o k bytes
      → cond {A = ℕ} (ask_to p x.node x.node_life x.session (sent-copy peer bytes)) 1 0 ≤ cond
      (n == x.home && own_ask p x.client o k) 1 0
  ask-counts peer (Ask s r) k bytes r0 =
      let from = r0.from in
      let reads = r0.read from.goes.header from.goes.is_message in
      le-by _ _ (λ t. ask-own peer s r k r0.out from r0.to_peer
      (subst (λ (o : Option MessageHeader). (peer == x.node && asks p x.node_life x.session o)
      ≡ true) reads t))
  ask-counts peer (Reply t r) k bytes r0 =
      let from = r0.from in
      let h = from.goes.header in
      let reads = r0.read h from.goes.is_message in
      le-by _ _ (λ t. let u : for-server peer h ≡ true =
      subst (λ (o : Option MessageHeader). (peer == x.node && asks p x.node_life x.session o)
      ≡ true) reads t in
      absurd (both_ways (is_ask h.kind) from.goes.asks
      (bits (peer == x.node) (is_ask h.kind) (h.to_life == x.node_life) (h.session == x.session)
      (p h.request h.number) u).1))
  ask-counts peer Control k bytes r0 = absurd r0.from

  not-true : (b : Bool) → b ≡ true → not b ≡ false
  not-true b e = rw e refl

  pub reply-counts : (peer : ℕ) (o : Owner) (k : ℕ) (bytes : List ℕ) → Reads l peer o k bytes
      → cond {A = ℕ} (reply_to p x.home x.home_life x.client (sent-copy peer bytes)) 1 0 ≤ cond
      (n == x.node && own_reply p x.session o k) 1 0
  reply-counts peer (Reply t r) k bytes r0 =
      let from = r0.from in
      let reads = r0.read from.goes.header from.goes.is_message in
      le-by _ _ (λ e. reply-own peer t r k r0.out from r0.to_peer
      (subst (λ (o : Option MessageHeader). (peer == x.home && replies p x.home_life x.client o)
      ≡ true) reads e))
  reply-counts peer (Ask s r) k bytes r0 =
      let from = r0.from in
      let h = from.goes.header in
      let reads = r0.read h from.goes.is_message in
      le-by _ _ (λ e. let u : for-client peer h ≡ true =
      subst (λ (o : Option MessageHeader). (peer == x.home && replies p x.home_life x.client o)
      ≡ true) reads e in
      absurd (both_ways (not (is_ask h.kind)) (not-true (is_ask h.kind) from.goes.asks)
      (bits (peer == x.home) (not (is_ask h.kind)) (h.to_life == x.home_life)
      (h.session == x.client) (p h.request h.number) u).1))
  reply-counts peer Control k bytes r0 = absurd r0.from

-- a number that counts only at one node
abbrev pub if_at : Bool → ℕ → ℕ
if_at b k = cond b k 0

pub and-count : (a b : Bool) → cond {A = ℕ} (a && b) 1 0 ≡ if_at a (cond b 1 0)
and-count true b = refl
and-count false b = refl

if-none : (a : Bool) → ◌≡◌ {A = ℕ} (cond a 0 0) 0
if-none true = refl
if-none false = refl

-- a control packet counts for none
control-none : (bytes : List ℕ) (c : ControlHeader) → decoded bytes ≡ Ok (ControlPacket c)
    → message_of bytes ≡ None
control-none bytes c e = ap message_in e

pub said-none : (l : Lists) (peer k : ℕ) (head body : List ℕ) → MaySay l peer k head body
    → message_of (head ++ body) ≡ None
said-none l peer k head body m =
    let whole : head ++ body ≡ head = ap (λ (b : List ℕ). head ++ b) m.whole ∙ append-nil head in
    ap message_of whole ∙ control-none head m.header
    (spells-decoded (ControlPacket m.header) head m.spells)

asks-none : (p : Filter) (m life t to : ℕ) (o : Option MessageHeader) → o ≡ None
    → cond {A = ℕ} (to == m && asks p life t o) 1 0 ≡ 0
asks-none p m life t to o e = rw e (rw (and-false (to == m)) refl)

replies-none : (p : Filter) (n life s to : ℕ) (o : Option MessageHeader) → o ≡ None
    → cond {A = ℕ} (to == n && replies p life s o) 1 0 ≡ 0
replies-none p n life s to o e = rw e (rw (and-false (to == n)) refl)

-- the copies in flight after a fact of a node
module _ (p : Filter) (w : Moment) (g : Good w) (lives : FirstLives w) (n : ℕ) (l : Lists)
    (x : Pairing) (is : slice_get w.nodes n ≡ Some l) (fits : FitsIn g.known w.nodes x)
    (i : RightNode l) where
  abbrev Counted : Event → List ℕ → List ℕ → Type 0
  Counted e first second =
      on_way p x (flight_after_node n e first second w.flight) ≤ on_way p x w.flight
      + if_at (n == x.home) (sent_ask p x.client e) + if_at (n == x.node) (sent_reply p x.session e)

  owner-counted : (peer : ℕ) (o : Owner) (k : ℕ) (first second : List ℕ)
      → MaySend l peer o k first second → Counted (Sent peer o k) first second
  owner-counted peer o k first second may =
      let reads = sent-reads l peer o k first second i may in
      let c : InFlight = record { from = n; to = peer; bytes = first ++ second } in
      let a = count-add (ask_to p x.node x.node_life x.session) w.flight c in
      let b = count-add (reply_to p x.home x.home_life x.client) w.flight c in
      let q = ask-counts p w g lives n l x is fits peer o k (first ++ second) reads in
      let z = reply-counts p w g lives n l x is fits peer o k (first ++ second) reads in
      let u = and-count (n == x.home) (own_ask p x.client o k) in
      let v = and-count (n == x.node) (own_reply p x.session o k) in
      omega arith

  pub flight-node : (hand : Option InFlight) (e : Event) (first second : List ℕ)
      → May hand l e first second → Counted e first second
  flight-node hand (Sent peer (Ask s r) k) first second may =
      owner-counted peer (Ask s r) k first second may
  flight-node hand (Sent peer (Reply t r) k) first second may =
      owner-counted peer (Reply t r) k first second may
  flight-node hand (Sent peer Control k) first second may =
      let c : InFlight = record { from = n; to = peer; bytes = first ++ second } in
      let a = count-add (ask_to p x.node x.node_life x.session) w.flight c in
      let b = count-add (reply_to p x.home x.home_life x.client) w.flight c in
      let none = said-none l peer k first second may in
      let q = asks-none p x.node x.node_life x.session peer (message_of (first ++ second)) none in
      let z = replies-none p x.home x.home_life x.client peer (message_of (first ++ second)) none in
      omega arith
  flight-node hand e first second may = omega arith

-- what a node is given leaves the hand
pub hand-gives : (p : Filter) (x : Pairing) (w : Moment) (n : ℕ) (l : Lists) (e : Event)
    (first second : List ℕ) → l.me ≡ n → May w.hand l e first second
    → Linked (latest w.past) l e first
    → if_at (n == x.home) (given_reply p x.home_life x.client e first)
    + if_at (n == x.node) (given_ask p x.node_life x.session e first) ≤ on_way p x (carried w)
hand-gives p x w n l (Arrived peer) first second me may link =
    let c : InFlight = record { from = peer; to = n; bytes = first } in
    let is_hand : w.hand ≡ Some c =
    may.in_hand ∙ ap (λ (i : ℕ). Some (record { from = peer; to = i; bytes = first })) me in
    let whole : carried w ≡ c ∷ [] = rw (link, is_hand) refl in
    let u = and-count (n == x.home) (replies p x.home_life x.client (message_of first)) in
    let v = and-count (n == x.node) (asks p x.node_life x.session (message_of first)) in
    rw whole (omega arith)
hand-gives p x w n l e first second me may link =
    let u = if-none (n == x.home) in let v = if-none (n == x.node) in
    omega arith
