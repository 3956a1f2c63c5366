-- A datagram of a session on its way comes from the session's other end.
use Rattle.std.proofs.Common.{◌≡◌, ◌==◌, ◌&&◌, ℕ, not, true, List, [], ◌∷◌, Option, Some, None}
use Rattle.std.proofs.Common.{slice_get, sym, ap, ◌∙◌, subst}
use Rattle.std.specs.Prelude.{IfSome, option_and_then, option_map}
use Rattle.std.specs.List.{AllByRecursion}
use Rattle.std.proofs.lemmas.Bool.{and_parts, eqb-true}
use Rattle.packet_header.specs.Reading.{message_of, body_of}
use Rattle.packet_header.specs.declared.packet.Kind.{Kind}
use Rattle.packet_header.specs.declared.packet.Kind.TheVariants.{Request, Rfr, Cr, Response}
use Rattle.packet_header.specs.declared.packet.MessageHeader.{MessageHeader}
use Rattle.rpc_base.proofs.BasicLemmas.{false-true}
use Rattle.rpc_base.proofs.PlaceLemmas.{all-at}
use Rattle.rpc_base.specs.declared.event.Event.{Event}
use Rattle.rpc_base.specs.declared.event.Event.TheVariants.{Dropped, Lost, Overflowed}
use Rattle.rpc_laws.specs.declared.tables.Arrival.{Arrival}
use Rattle.rpc_laws.specs.declared.tables.Client.{Client}
use Rattle.rpc_laws.specs.declared.tables.InFlight.{InFlight}
use Rattle.rpc_laws.specs.declared.tables.Lists.{Lists}
use Rattle.rpc_laws.specs.declared.tables.Way.{Way}
use Rattle.rpc_laws.specs.Endpoints.{Endpoint}
use Rattle.rpc_laws.specs.Facts.{with_two}
use Rattle.rpc_laws.specs.Sessions.{is_connected}
use Rattle.end_laws.specs.Kinds.{is_ask}
use Rattle.end_laws.specs.Moments.{Moment}
use Rattle.end_laws.specs.TwoEnds.{here, peer_of}
use Rattle.end_laws.proofs.Allowed.{is_packet}
use Rattle.end_laws.proofs.ClientLemmas.{connected-joined, is-joined}
use Rattle.end_laws.proofs.Courses.{AtNode}
use Rattle.end_laws.proofs.Known.{Begin, End, Good, GoodClient, Known, Says, Speaks}
use Rattle.ring_laws.proofs.Loads.{asks, replies, ask_to, reply_to}
use Rattle.stall_laws.specs.Caused.{front_copy, lost_at_node, lost_in_net}

pub some-end : (o : Option End) (a b : End) → o ≡ Some a → o ≡ Some b → a ≡ b
some-end o a b e f = cc

-- a connected session at its place of a node
pub record ConnectedAt (w : Moment) (j s : ℕ) (z : Lists) (x : Client) : Type 0 where
  pub is_node : slice_get w.nodes j ≡ Some z
  pub is_there : slice_get z.clients s ≡ Some x
  pub live : is_connected x.state ≡ true

-- a copy of packet k of request r of a session of endpoint j comes from the other end
pub record IsFrom (j : Endpoint) (way : Way) (r k : ℕ) (c : InFlight) : Type 0 where
  pub asks : ask_to (is_packet r k) way.peer way.life way.other c ≡ true → c.from ≡ j.node
  pub replies : reply_to (is_packet r k) j.node j.life way.number c ≡ true → c.from ≡ way.peer

module _ (w : Moment) (g : Good w) (j s : ℕ) (z : Lists) (x : Client)
    (at : ConnectedAt w j s z x) where
  mine : GoodClient g.known (here j z) s x
  mine = (g.nodes j z at.is_node).clients s x at.is_there

  -- its server session has one client end
  home-is : (from life to to_life session client credits : ℕ) → to ≡ x.way.peer
      → to_life ≡ x.way.life → session ≡ x.way.other
      → g.known.ends (record { node = to; life = to_life }) session 0
      ≡ Some (record { home = record { node = from; life = life }; client = client; credits = credits })
      → from ≡ j
  home-is from life to to_life session client credits node goes number end =
      let own = (is-joined g.known (here j z) s x (connected-joined x.state at.live) mine).end in
      let e : End = record {
        home = record { node = from; life = life };
        client = client;
        credits = credits;
      } in
      let same : record { node = to; life = to_life } ≡ peer_of x.way =
      ap (λ (i : ℕ). record { node = i; life = to_life }) node
      ∙ ap (λ (i : ℕ). record { node = x.way.peer; life = i }) goes in
      let told : g.known.ends (peer_of x.way) x.way.other 0 ≡ Some e =
      subst (λ (a : Endpoint). g.known.ends a x.way.other 0 ≡ Some e) same
      (subst (λ (t : ℕ). g.known.ends (record { node = to; life = to_life }) t 0 ≡ Some e) number
      end) in
      ap (λ (b : End). b.home.node)
      (some-end _ e (record { home = here j z; client = s; credits = x.limit }) told own)

  asker : (kind : Kind) (from to : ℕ) (h : MessageHeader) (body : List ℕ) → is_ask kind ≡ true
      → to ≡ x.way.peer → h.to_life ≡ x.way.life → h.session ≡ x.way.other
      → Says kind g.known from to h body → from ≡ j
  asker Request from to h body t node goes session says =
      home-is from says.life to h.to_life h.session says.session says.credits node goes session
      says.end
  asker Rfr from to h body t node goes session says =
      home-is from says.life to h.to_life h.session says.session says.credits node goes session
      says.end
  asker Cr from to h body t node goes session says = false-true t
  asker Response from to h body t node goes session says = false-true t

  -- a call of it began on its way
  peer-is : (from to to_life session r : ℕ) (b : Begin) → to ≡ j → to_life ≡ z.life
      → session ≡ x.way.number
      → g.known.starts (record { node = to; life = to_life }) session r ≡ Some b
      → from ≡ b.way.peer → from ≡ x.way.peer
  peer-is from to to_life session r b node goes number begun peer =
      let same : record { node = to; life = to_life } ≡ here j z =
      ap (λ (i : ℕ). record { node = i; life = to_life }) node
      ∙ ap (λ (i : ℕ). record { node = j; life = i }) goes in
      let told : g.known.starts (here j z) s r ≡ Some b =
      subst (λ (a : Endpoint). g.known.starts a s r ≡ Some b) same
      (subst (λ (i : ℕ). g.known.starts (record { node = to; life = to_life }) i r ≡ Some b)
      (number ∙ mine.number) begun) in
      let start = (g.nodes j z at.is_node).begun s r b told in
      let here = at.is_there in
      let there = start.is_there in
      let same : start.client ≡ x = cc in
      peer ∙ ap (λ (v : Way). v.peer) (sym start.way ∙ ap (λ (c : Client). c.way) same)

  replier : (kind : Kind) (from to : ℕ) (h : MessageHeader) (body : List ℕ)
      → not (is_ask kind) ≡ true → to ≡ j → h.to_life ≡ z.life → h.session ≡ x.way.number
      → Says kind g.known from to h body → from ≡ x.way.peer
  replier Request from to h body t node goes session says = false-true t
  replier Rfr from to h body t node goes session says = false-true t
  replier Cr from to h body t node goes session says =
      peer-is from to h.to_life h.session h.request says.start node goes session says.begun
      says.peer
  replier Response from to h body t node goes session says =
      peer-is from to h.to_life h.session h.request says.start node goes session says.begun
      says.peer

  asks-from : (r k : ℕ) (c : InFlight) → Speaks g.known c.from c.to c.bytes
      → ask_to (is_packet r k) x.way.peer x.way.life x.way.other c ≡ true → c.from ≡ j
  asks-from r k c speaks t =
      let parts = and_parts (c.to == x.way.peer)
      (asks (is_packet r k) x.way.life x.way.other (message_of c.bytes)) t in
      by (eqb-true c.to x.way.peer parts.0) (message_of c.bytes) parts.1 speaks.0
    where
      by : c.to ≡ x.way.peer → (o : Option MessageHeader)
          → asks (is_packet r k) x.way.life x.way.other o ≡ true
          → IfSome o (λ h. Says h.kind g.known c.from c.to h (body_of c.bytes)) → c.from ≡ j
      by node None t says = false-true t
      by node (Some h) t says =
          let one = and_parts (is_ask h.kind) _ t in
          let lives = and_parts (h.to_life == x.way.life) _ one.1 in
          let two = and_parts (h.session == x.way.other) (h.request == r && h.number == k) lives.1 in
          asker h.kind c.from c.to h (body_of c.bytes) one.0 node
          (eqb-true h.to_life x.way.life lives.0) (eqb-true h.session x.way.other two.0) says

  replies-from : (r k : ℕ) (c : InFlight) → Speaks g.known c.from c.to c.bytes
      → reply_to (is_packet r k) j z.life x.way.number c ≡ true → c.from ≡ x.way.peer
  replies-from r k c speaks t =
      let parts = and_parts (c.to == j)
      (replies (is_packet r k) z.life x.way.number (message_of c.bytes)) t in
      by (eqb-true c.to j parts.0) (message_of c.bytes) parts.1 speaks.0
    where
      by : c.to ≡ j → (o : Option MessageHeader)
          → replies (is_packet r k) z.life x.way.number o ≡ true
          → IfSome o (λ h. Says h.kind g.known c.from c.to h (body_of c.bytes))
          → c.from ≡ x.way.peer
      by node None t says = false-true t
      by node (Some h) t says =
          let one = and_parts (not (is_ask h.kind)) _ t in
          let lives = and_parts (h.to_life == z.life) _ one.1 in
          let two = and_parts (h.session == x.way.number) (h.request == r && h.number == k) lives.1 in
          replier h.kind c.from c.to h (body_of c.bytes) one.0 node
          (eqb-true h.to_life z.life lives.0) (eqb-true h.session x.way.number two.0) says

  pub is-from : (r k : ℕ) (c : InFlight) → Speaks g.known c.from c.to c.bytes
      → IsFrom (here j z) x.way r k c
  is-from r k c speaks =
      record { asks = asks-from r k c speaks; replies = replies-from r k c speaks }

copy-speaks : (k : Known) (o : Option InFlight) (c : InFlight) → o ≡ Some c
    → IfSome o (λ d. Speaks k d.from d.to d.bytes) → Speaks k c.from c.to c.bytes
copy-speaks k None c e h = cc
copy-speaks k (Some d) c e h =
    let same : d ≡ c = cc in subst (λ (b : InFlight). Speaks k b.from b.to b.bytes) same h

-- what the network loses was in flight
pub net-speaks : (w : Moment) (g : Good w) (e : Event) (c : InFlight) → lost_in_net w e ≡ Some c
    → Speaks g.known c.from c.to c.bytes
net-speaks w g (Lost i) c e =
    all-at (λ d. Speaks g.known d.from d.to d.bytes) w.flight i c g.travels.flight e
net-speaks w g _ c e = cc

front-speaks : (k : Known) (n : ℕ) (ring : List Arrival) (c : InFlight)
    → option_map (λ (a : Arrival). record { from = a.peer; to = n; bytes = a.bytes })
    (slice_get ring 0) ≡ Some c
    → AllByRecursion (λ a. Speaks k a.peer n a.bytes) ring → Speaks k c.from c.to c.bytes
front-speaks k n [] c e all = cc
front-speaks k n (a ∷ ring) c e all =
    copy-speaks k (Some (record { from = a.peer; to = n; bytes = a.bytes })) c e all.0

-- what a node loses was in hand, or at the front of its ring
pub node-speaks : (w : Moment) (g : Good w) (n : ℕ) (l : Lists) (e : Event) (first second : List ℕ)
    → AtNode w n l (with_two n e first second) → (c : InFlight)
    → lost_at_node w n e first ≡ Some c → Speaks g.known c.from c.to c.bytes
node-speaks w g n l (Overflowed peer) first second a c is =
    let hand : w.hand ≡ Some c =
    a.allowed.may.delivered.in_hand
    ∙ (ap (λ (b : ℕ). Some (record { from = peer; to = b; bytes = first })) a.me ∙ is) in
    copy-speaks g.known w.hand c hand g.travels.hand
node-speaks w g n l (Dropped why) first second a c is =
    front-speaks g.known n l.ring c (sym (ap (option_and_then (front_copy n)) a.is_node) ∙ is)
    (g.travels.rings n l a.is_node)
node-speaks w g n l _ first second a c is = cc
