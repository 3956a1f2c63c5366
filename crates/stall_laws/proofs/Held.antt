-- An unanswered packet of a call stands somewhere, or a datagram of its request was lost. So it stays by each
-- fact.
use Rattle.std.proofs.Common.{◌≡◌, ◌≤◌, ◌+◌, ◌%◌, ◌==◌, ◌&&◌, ◌||◌, ◌⊎◌, inl, inr, ℕ, not, Bool}
use Rattle.std.proofs.Common.{true, false}
use Rattle.std.proofs.Common.{List, [], ◌∷◌, ◌++◌, Option, Some, None, slice_get, refl, sym, ap}
use Rattle.std.proofs.Common.{◌∙◌, subst, eq-eqb, arith}
use Rattle.std.specs.Prelude.{IfSome}
use Rattle.std.specs.List.{list_any, AllByRecursion}
use Rattle.std.proofs.lemmas.Bool.{and_parts, and_from}
use Rattle.std.proofs.lemmas.List.{append_assoc}
use Rattle.packet_header.specs.Reading.{decoded, message_of, body_of}
use Rattle.packet_header.specs.declared.packet.Kind.{Kind}
use Rattle.packet_header.specs.declared.packet.Kind.TheVariants.{Request}
use Rattle.packet_header.specs.declared.packet.MessageHeader.{MessageHeader}
use Rattle.rpc_base.specs.declared.event.Event.{Event}
use Rattle.rpc_base.specs.declared.event.Event.TheVariants.{Took, Rolled, Broken}
use Rattle.rpc_base.specs.declared.fact.Fact.{Fact}
use Rattle.rpc_base.specs.declared.owner.Owner.TheVariants.{Ask}
use Rattle.rpc_laws.specs.declared.tables.Arrival.{Arrival}
use Rattle.rpc_laws.specs.declared.tables.Client.{Client}
use Rattle.rpc_laws.specs.declared.tables.InFlight.{InFlight}
use Rattle.rpc_laws.specs.declared.tables.Lists.{Lists}
use Rattle.rpc_laws.specs.declared.tables.Way.{Way}
use Rattle.rpc_laws.specs.Endpoints.{Endpoint}
use Rattle.rpc_laws.specs.Facts.{with_two}
use Rattle.rpc_laws.specs.Front.{front_header}
use Rattle.rpc_laws.specs.Posting.{next_turn}
use Rattle.end_laws.specs.Kinds.{is_ask}
use Rattle.end_laws.specs.Moments.{Moment}
use Rattle.end_laws.specs.TwoEnds.{here, peer_of}
use Rattle.end_laws.proofs.Allowed.{is_packet, MayLeave, MayOutdate}
use Rattle.end_laws.proofs.ClientLemmas.{client-at, connected-joined, is-joined}
use Rattle.rpc_laws.specs.Sessions.{is_connected}
use Rattle.std.specs.List.{find}
use Rattle.rpc_laws.specs.Requests.{is_server}
use Rattle.end_laws.proofs.Courses.{AtNode, noted_at}
use Rattle.end_laws.proofs.Known.{Known, Good, End, Says, SaysRequest, Speaks}
use Rattle.end_laws.proofs.QueueLemmas.{RightNode}
use Rattle.end_laws.proofs.ServerLemmas.{server-at}
use Rattle.ring_laws.proofs.Loads.{Pairing, asks, replies, ask_to, reply_to}
use Rattle.stall_laws.specs.Caused.{WasLost, restarts, lost_by, is_between, is_of_request, asks_of}
use Rattle.ring_laws.proofs.Standing.{LivesIn}
use Rattle.stall_laws.specs.Caused.{replies_of, RestartsPeer}
use Rattle.stall_laws.specs.Settled.{moment_of}
use Rattle.stall_laws.proofs.Dues.{Due, Step, IsOlder, IsCallFor}
use Rattle.stall_laws.proofs.Fates.{JoinsAt, Passing, Fate, took, passed, lost, rolled, broken}
use Rattle.stall_laws.proofs.Fates.{node-fate}
use Rattle.stall_laws.proofs.Senders.{IsFrom, is-from, node-speaks, some-end}
use Rattle.stall_laws.proofs.Standing.{standing}

-- the two ends of a session of endpoint j
abbrev pub pair_of : Endpoint → Way → Pairing
pair_of j way = record {
  home = j.node;
  home_life = j.life;
  client = way.number;
  node = way.peer;
  node_life = way.life;
  session = way.other;
}

-- packet k of request r, which is call c of endpoint j
abbrev pub Held : List Fact → Moment → Due → Endpoint → Way → (c r k : ℕ) → Type 0
Held h w d j way c r k = (1 ≤ standing r k (pair_of j way) d w) ⊎ WasLost h j way c r

any-add : {A : Type 0} (p : A → Bool) (xs : List A) (y : A) → list_any p xs ≡ false → p y ≡ false
    → list_any p (xs ++ y ∷ []) ≡ false
any-add p [] y h e = rw e refl
any-add p (x ∷ xs) y h e = by (p x) (list_any p xs) h (any-add p xs y)
  where
    by : (a b : Bool) → (a || b) ≡ false → (b ≡ false → p y ≡ false → list_any p (xs ++ y ∷ []) ≡ false)
        → (a || list_any p (xs ++ y ∷ [])) ≡ false
    by true b h ih = cc
    by false b h ih = ih h e

-- what was lost stays so while its call neither begins nor is rolled back
pub lost-since : (h : List Fact) (f : Fact) (j : Endpoint) (way : Way) (c r : ℕ)
    → WasLost h j way c r → restarts j.node c f ≡ false → WasLost (h ++ f ∷ []) j way c r
lost-since h f j way c r v same = record {
  before = v.before;
  fact = v.fact;
  since = v.since ++ f ∷ [];
  parted = ap (λ (z : List Fact). z ++ f ∷ []) v.parted ∙ append_assoc v.before (v.fact ∷ v.since) (f ∷ []);
  goes_on = any-add (restarts j.node c) v.since f v.goes_on same;
  loses = v.loses;
}

asks-request : (r k life t : ℕ) (o : Option MessageHeader)
    → asks (is_packet r k) life t o ≡ true → asks_of life t r o ≡ true
asks-request r k life t None h = h
asks-request r k life t (Some m) h =
    let one = and_parts (is_ask m.kind) _ h in
    let lives = and_parts (m.to_life == life) _ one.1 in
    let two = and_parts (m.session == t) (m.request == r && m.number == k) lives.1 in
    let three = and_parts (m.request == r) (m.number == k) two.1 in
    and_from (is_ask m.kind) _ one.0 (and_from (m.to_life == life) _ lives.0
    (and_from (m.session == t) (m.request == r) two.0 three.0))

replies-request : (r k life s : ℕ) (o : Option MessageHeader)
    → replies (is_packet r k) life s o ≡ true → replies_of life s r o ≡ true
replies-request r k life s None h = h
replies-request r k life s (Some m) h =
    let one = and_parts (not (is_ask m.kind)) _ h in
    let lives = and_parts (m.to_life == life) _ one.1 in
    let two = and_parts (m.session == s) (m.request == r && m.number == k) lives.1 in
    let three = and_parts (m.request == r) (m.number == k) two.1 in
    and_from (not (is_ask m.kind)) _ one.0 (and_from (m.to_life == life) _ lives.0
    (and_from (m.session == s) (m.request == r) two.0 three.0))

or-map : (a b c d : Bool) → (a ≡ true → c ≡ true) → (b ≡ true → d ≡ true) → (a || b) ≡ true → (c || d) ≡ true
or-map true b c d f g h = rw (f refl) refl
or-map false true true d f g h = refl
or-map false true false d f g h = g refl
or-map false false c d f g h = cc

of-request : (j : Endpoint) (way : Way) (r k : ℕ) (c : InFlight) → IsFrom j way r k c
    → (ask_to (is_packet r k) way.peer way.life way.other c
    || reply_to (is_packet r k) j.node j.life way.number c) ≡ true
    → is_of_request j way r c ≡ true
of-request j way r k c f h =
    or-map (ask_to (is_packet r k) way.peer way.life way.other c)
    (reply_to (is_packet r k) j.node j.life way.number c)
    (is_between j.node way.peer c && asks_of way.life way.other r (message_of c.bytes))
    (is_between way.peer j.node c && replies_of j.life way.number r (message_of c.bytes))
    (λ t. let parts = and_parts (c.to == way.peer)
    (asks (is_packet r k) way.life way.other (message_of c.bytes)) t in
    and_from (is_between j.node way.peer c) (asks_of way.life way.other r (message_of c.bytes))
    (and_from (c.from == j.node) (c.to == way.peer) (eq-eqb c.from j.node (f.asks t)) parts.0)
    (asks-request r k way.life way.other (message_of c.bytes) parts.1))
    (λ t. let parts = and_parts (c.to == j.node)
    (replies (is_packet r k) j.life way.number (message_of c.bytes)) t in
    and_from (is_between way.peer j.node c) (replies_of j.life way.number r (message_of c.bytes))
    (and_from (c.from == way.peer) (c.to == j.node) (eq-eqb c.from way.peer (f.replies t)) parts.0)
    (replies-request r k j.life way.number (message_of c.bytes) parts.1)) h

-- a datagram is lost now
pub lost-now : (h : List Fact) (w : Moment) (f : Fact) (j : Endpoint) (way : Way) (c r k : ℕ)
    → w ≡ moment_of h
    → ((d : InFlight) → lost_by w f.who f.event f.first ≡ Some d → IsFrom j way r k d)
    → Passing (pair_of j way) r k (lost_by w f.who f.event f.first)
    → WasLost (h ++ f ∷ []) j way c r
lost-now h w f j way c r k e from p = record {
  before = h;
  fact = f;
  since = [];
  parted = refl;
  goes_on = refl;
  loses = inl (record {
    copy = p.copy;
    lost = subst (λ (v : Moment). lost_by v f.who f.event f.first ≡ Some p.copy) e p.is_lost;
    own = of-request j way r k p.copy (from p.copy p.is_lost) p.own;
  });
}

-- the peer of a session is restarted now
pub peer-restarts : (h : List Fact) (f : Fact) (j : Endpoint) (way : Way) (c r : ℕ)
    → RestartsPeer f way → WasLost (h ++ f ∷ []) j way c r
peer-restarts h f j way c r over = record {
  before = h;
  fact = f;
  since = [];
  parted = refl;
  goes_on = refl;
  loses = inr over;
}

-- a session at its place of a node
pub record SessionAt (w : Moment) (j s : ℕ) (z : Lists) (x : Client) : Type 0 where
  pub is_node : slice_get w.nodes j ≡ Some z
  pub is_there : slice_get z.clients s ≡ Some x
  pub live : is_connected x.state ≡ true
  pub stands : LivesIn w.nodes (peer_of x.way) x.way.other
  pub stays : (n : ℕ) (l : Lists) → slice_get w.nodes n ≡ Some l → n ≡ x.way.peer
      → l.life ≡ x.way.life
      → MayLeave w.hand l x.way.other ⊎ MayOutdate w.hand l x.way.other → ⊥

-- what is known of the node at the other end
peer-here : (w : Moment) (g : Good w) (n : ℕ) (l : Lists) (j s : ℕ) (z : Lists) (x : Client)
    → SessionAt w j s z x → n ≡ x.way.peer → l.life ≡ x.way.life
    → g.known.ends (here n l) x.way.other 0
    ≡ Some (record { home = here j z; client = s; credits = x.limit })
peer-here w g n l j s z x at node life =
    let own = (g.nodes j z at.is_node).clients s x at.is_there in
    let mine : End = record { home = here j z; client = s; credits = x.limit } in
    let end = (is-joined g.known (here j z) s x (connected-joined x.state at.live) own).end in
    let same : peer_of x.way ≡ here n l =
    ap (λ (i : ℕ). record { node = i; life = x.way.life }) (sym node)
    ∙ ap (λ (i : ℕ). record { node = n; life = i }) (sym life) in
    subst (λ (a : Endpoint). g.known.ends a x.way.other 0 ≡ Some mine) same end

-- the sessions at its two ends are its own
pub joins-of : (w : Moment) (n : ℕ) (l : Lists) (j s : ℕ) (z : Lists) (x : Client)
    → slice_get w.nodes n ≡ Some l → Good w → SessionAt w j s z x
    → JoinsAt w.hand n l (pair_of (here j z) x.way)
joins-of w n l j s z x is g at =
    let k = g.known in
    let own = (g.nodes j z at.is_node).clients s x at.is_there in
    record {
      home_life = λ home.
          let here_is : slice_get w.nodes n ≡ Some z = ap (slice_get w.nodes) home ∙ at.is_node in
          let same : l ≡ z = cc in
          ap (λ (y : Lists). y.life) same;
      client = λ home c found.
          let here_is : slice_get w.nodes n ≡ Some z = ap (slice_get w.nodes) home ∙ at.is_node in
          let same : l ≡ z = cc in
          let there = client-at k (here n l) l.clients x.way.number c (g.nodes n l is).clients
          found in
          let place : slice_get z.clients s ≡ Some c =
          subst (λ (i : ℕ). slice_get z.clients i ≡ Some c) own.number
          (subst (λ (y : Lists). slice_get y.clients x.way.number ≡ Some c) same there.0) in
          let x_is = at.is_there in
          let one : c ≡ x = cc in (
            ap (λ (y : Client). y.way.peer) one,
            ap (λ (y : Client). y.way.life) one,
            ap (λ (y : Client). y.way.other) one,
          );
      server = λ node life v found.
          let other = server-at k (here n l) l.servers x.way.other v (g.nodes n l is).servers
          found in
          let told : End = record { home = peer_of v.way; client = v.way.other; credits = v.credits } in
          let theirs : k.ends (here n l) x.way.other 0 ≡ Some told =
          subst (λ (i : ℕ). k.ends (here n l) i 0 ≡ Some told) other.1 other.0.session.end in
          let both = some-end _ _ _ theirs (peer-here w g n l j s z x at node life) in (
            ap (λ (e : End). e.home.node) both,
            ap (λ (e : End). e.home.life) both,
            ap (λ (e : End). e.client) both ∙ sym own.number,
          );
      stands = λ node life none.
          let here_is : slice_get w.nodes n ≡ Some at.stands.lists = ap (slice_get w.nodes) node
          ∙ at.stands.is_node in
          let same : at.stands.lists ≡ l = cc in
          let has = at.stands.there (ap (λ (y : Lists). y.life) same ∙ life) in
          let found : find (is_server x.way.other) l.servers ≡ Some has.0 =
          subst (λ (y : Lists). find (is_server x.way.other) y.servers ≡ Some has.0) same has.1 in
          cc;
      stays = λ node life may. at.stays n l is node life may;
    }

-- no request of an active call is older than another of its slot that arrives
says-front : (k : Known) (n : ℕ) (ring : List Arrival) (h : MessageHeader)
    → AllByRecursion (λ a. Speaks k a.peer n a.bytes) ring → front_header ring ≡ Some h
    → h.kind ≡ Request → (from : ℕ) × (body : List ℕ) × SaysRequest k from n h body
unfolding decoded
says-front k n [] h all reads kind = absurd (cc)
says-front k n (d ∷ ds) h all reads kind =
    let said : Says h.kind k d.peer n h (body_of d.bytes) =
    some-says (message_of d.bytes) reads all.0.0 in (
      d.peer,
      body_of d.bytes,
      subst (λ (kind : Kind). Says kind k d.peer n h (body_of d.bytes)) kind said,
    )
  where
    some-says : (o : Option MessageHeader) → o ≡ Some h
        → IfSome o (λ g. Says g.kind k d.peer n g (body_of d.bytes))
        → Says h.kind k d.peer n h (body_of d.bytes)
    some-says None e s = cc
    some-says (Some g) e s = let same : g ≡ h = cc in subst (λ (m : MessageHeader). Says m.kind k d.peer n m
        (body_of d.bytes)) same s

never-older : (w : Moment) (n : ℕ) (l : Lists) (j s : ℕ) (z : Lists) (x : Client) (r : ℕ)
    → slice_get w.nodes n ≡ Some l → Good w → SessionAt w j s z x
    → next_turn x.turns (r % 8) ≤ r + 8 → n ≡ x.way.peer → l.life ≡ x.way.life
    → IsOlder l x.way.other r → ⊥
never-older w n l j s z x r is g at newest node life o =
    let k = g.known in
    let own = (g.nodes j z at.is_node).clients s x at.is_there in
    let said = says-front k n l.ring o.header (g.travels.rings n l is) o.reads o.kind in
    let says = said.2 in
    let told : End = record {
      home = record { node = said.0; life = says.life };
      client = says.session;
      credits = says.credits;
    } in
    let goes : record { node = n; life = o.header.to_life } ≡ here n l =
    ap (λ (i : ℕ). record { node = n; life = i }) o.for_us in
    let theirs : k.ends (here n l) x.way.other 0 ≡ Some told =
    subst (λ (i : ℕ). k.ends (here n l) i 0 ≡ Some told) o.session
    (subst (λ (a : Endpoint). k.ends a o.header.session 0 ≡ Some told) goes says.end) in
    let both = some-end _ _ _ theirs (peer-here w g n l j s z x at node life) in
    let home : record { node = said.0; life = says.life } ≡ here j z =
    ap (λ (e : End). e.home) both in
    let client : says.session ≡ s = ap (λ (e : End). e.client) both in
    let began : k.starts (here j z) s o.header.request ≡ Some says.start =
    subst (λ (i : ℕ). k.starts (here j z) i o.header.request ≡ Some says.start) client
    (subst (λ (a : Endpoint). k.starts a says.session o.header.request ≡ Some says.start) home
    says.begun) in
    let slot = o.slot in
    let newer = o.newer in
    let far : r + 8 ≤ o.header.request = omega arith in
    let turn : next_turn x.turns (o.header.request % 8) ≤ r + 8 =
    subst (λ (i : ℕ). next_turn x.turns i ≤ r + 8) slot newest in
    let none = own.fresh o.header.request (omega arith) in
    cc

-- this fact of node n ends nothing of packet k of request r of session s
pub record Spares (n j : ℕ) (l : Lists) (e : Event) (s r k : ℕ) : Type 0 where
  pub took : n ≡ j → e ≡ Took (Ask s r) k → ⊥
  pub rolled : n ≡ j → (c posted got : ℕ) → e ≡ Rolled c posted got → IsCallFor l s c r → ⊥
  pub broken : n ≡ j → e ≡ Broken s → ⊥

-- a packet that is held stays so by such a fact
pub held-noted : (h : List Fact) (w : Moment) (n : ℕ) (l : Lists) (e : Event) (first second : List ℕ)
    (d u : Due) → Step w.hand l first d e u → AtNode w n l (with_two n e first second)
    → w ≡ moment_of h → Good w → RightNode l → (j s : ℕ) (z : Lists) (x : Client)
    → SessionAt w j s z x → (c r k : ℕ) → next_turn x.turns (r % 8) ≤ r + 8
    → restarts j c (with_two n e first second) ≡ false → Spares n j l e x.way.number r k
    → Held h w d (here j z) x.way c r k
    → Held (h ++ with_two n e first second ∷ []) (noted_at w n l (with_two n e first second)) u
    (here j z) x.way c r k
held-noted h w n l e first second d u step a is g i j s z x at c r k newest same spares (inr v) =
    inr (lost-since h (with_two n e first second) (here j z) x.way c r v same)
held-noted h w n l e first second d u step a is g i j s z x at c r k newest same spares (inl some) =
    let joins = joins-of w n l j s z x a.is_node g at in
    elim (node-fate w n l first second (pair_of (here j z) x.way) r k d e u step a joins i some) [
      | inl more ↦ inl more
      | inr fate ↦ by fate
    ]
  where
    by : Fate w n l (pair_of (here j z) x.way) r k e first
        → Held (h ++ with_two n e first second ∷ [])
        (noted_at w n l (with_two n e first second)) u (here j z) x.way c r k
    by (took home t) = absurd (spares.took home t)
    by (passed node life t o) =
        absurd (never-older w n l j s z x r a.is_node g at newest node life o)
    by (lost p) =
        inr (lost-now h w (with_two n e first second) (here j z) x.way c r k is
        (λ d gone. is-from w g j s z x
        (record { is_node = at.is_node; is_there = at.is_there; live = at.live }) r k d
        (node-speaks w g n l e first second a d gone)) p)
    by (rolled home b po got t call) = absurd (spares.rolled home b po got t call)
    by (broken home t) = absurd (spares.broken home t)
