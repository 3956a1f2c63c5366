-- Which ends of sessions are joined, and what copies on their way say of them.
use Rattle.std.proofs.Common.{◌≡◌, ◌≤◌, ◌==◌, ◌⊎◌, inl, ℕ, zero, suc, Bool, true, false, List, []}
use Rattle.std.proofs.Common.{◌∷◌}
use Rattle.std.proofs.Common.{◌++◌, length, Option, Some, None, slice_get, refl, sym, ap, ◌∙◌}
use Rattle.std.proofs.Common.{subst, arith}
use Rattle.std.specs.List.{find, slice_set}
use Rattle.std.proofs.lemmas.Bool.{eqb-true, eqb-false}
use Rattle.rpc_base.proofs.PlaceLemmas.{set-here, set-other}
use Rattle.packet_header.specs.Reading.{message_of}
use Rattle.packet_header.specs.declared.packet.ControlHeader.{ControlHeader}
use Rattle.packet_header.specs.declared.packet.ControlKind.TheVariants.{DisconnectRequest}
use Rattle.packet_header.specs.declared.packet.MessageHeader.{MessageHeader}
use Rattle.rpc_laws.specs.declared.tables.Client.{Client}
use Rattle.rpc_laws.specs.declared.tables.Lists.{Lists}
use Rattle.rpc_laws.specs.declared.tables.Served.{Served}
use Rattle.rpc_laws.specs.declared.tables.Server.{Server}
use Rattle.rpc_laws.specs.declared.tables.Way.{Way}
use Rattle.rpc_laws.specs.Calls.{is_active}
use Rattle.rpc_laws.specs.Endpoints.{Endpoint}
use Rattle.rpc_laws.specs.Front.{control_of}
use Rattle.rpc_laws.specs.Lives.{first_life}
use Rattle.rpc_laws.specs.Requests.{is_server}
use Rattle.rpc_laws.specs.Sessions.{is_client}
use Rattle.end_laws.specs.Kinds.{is_ask}
use Rattle.end_laws.specs.Moments.{Moment}
use Rattle.end_laws.specs.TwoEnds.{peer_of}
use Rattle.rpc_laws.specs.declared.tables.Call.{Call}
use Rattle.end_laws.proofs.ClientLemmas.{client-at, has-joined, is-joined}
use Rattle.end_laws.proofs.Known.{Begin, End, Good, GoodServed, is_joined, Known, Later}
use Rattle.end_laws.proofs.LetGoSteps.{gone-kin, GoneFrom, KinAll, kin-same}
use Rattle.end_laws.proofs.ListLemmas.{add-keeps, all-found}
use Rattle.end_laws.proofs.ServerLemmas.{server-at}
use Rattle.ring_laws.proofs.Loads.{Pairing}
use Rattle.ring_laws.proofs.FirstLives.{first, first-is, FirstLives, good-first, joined-first}
use Rattle.ring_laws.proofs.FirstLives.{start-first, way-first}

-- client session s of node n is joined with session t of node m, in the first life of each
pub record JoinedTo (nodes : List Lists) (n s m t : ℕ) : Type 0 where
  pub lists : Lists
  pub is_node : slice_get nodes n ≡ Some lists
  pub client : Client
  pub is_there : slice_get lists.clients s ≡ Some client
  pub joined : is_joined client.state ≡ true
  pub peer : client.way.peer ≡ m
  pub other : client.way.other ≡ t
  pub life : client.way.life ≡ first_life

-- client session s of endpoint n let go of server session t in this life of its node, or that life
-- of n is over
pub record GoneAt (nodes : List Lists) (n : Endpoint) (s t life : ℕ) : Type 0 where
  pub lists : Lists
  pub is_node : slice_get nodes n.node ≡ Some lists
  pub reached : n.life ≤ lists.life
  pub gone : lists.life ≡ n.life → GoneFrom lists.clients s t life

-- each node is there, in its life, with sessions that are kin
pub record KinNode (l : Lists) (o : Option Lists) : Type 0 where
  pub now : Lists
  pub is : o ≡ Some now
  pub life : now.life ≡ l.life
  pub kin : KinAll l.clients now.clients

abbrev pub NodesKin : List Lists → List Lists → Type 0
NodesKin nodes others = (n : ℕ) (l : Lists) → slice_get nodes n ≡ Some l
    → KinNode l (slice_get others n)

pub joined-kin : (nodes others : List Lists) (n s m t : ℕ) → NodesKin nodes others
    → JoinedTo nodes n s m t → JoinedTo others n s m t
joined-kin nodes others n s m t kin h =
    let node = kin n h.lists h.is_node in
    let own = node.kin s h.client h.is_there in
    let j = own.kin.joined h.joined in
    record {
      lists = node.now;
      is_node = node.is;
      client = own.now;
      is_there = own.is;
      joined = j.0;
      peer = ap (λ (w : Way). w.peer) j.1 ∙ h.peer;
      other = ap (λ (w : Way). w.other) j.1 ∙ h.other;
      life = ap (λ (w : Way). w.life) j.1 ∙ h.life;
    }

pub gone-at-kin : (nodes others : List Lists) (n : Endpoint) (s t life : ℕ) → NodesKin nodes others
    → GoneAt nodes n s t life → GoneAt others n s t life
gone-at-kin nodes others n s t life kin h =
    let node = kin n.node h.lists h.is_node in
    let same = node.life in
    let reached = h.reached in
    record {
      lists = node.now;
      is_node = node.is;
      reached = omega arith;
      gone = λ e. gone-kin h.lists.clients node.now.clients s t life node.kin
          (h.gone (sym same ∙ e));
    }

pub kin-self : (nodes : List Lists) → NodesKin nodes nodes
kin-self nodes n l is = record { now = l; is = is; life = refl; kin = kin-same l.clients }

pub kin-set : (nodes : List Lists) (n : ℕ) (l m : Lists) → slice_get nodes n ≡ Some l
    → m.life ≡ l.life → KinAll l.clients m.clients → NodesKin nodes (slice_set nodes n m)
kin-set nodes n l m is life kin j z at = by (j == n) refl
  where
    by : (b : Bool) → (j == n) ≡ b → KinNode z (slice_get (slice_set nodes n m) j)
    by true e =
        let same = eqb-true j n e in
        let mine : slice_get nodes n ≡ Some z = ap (slice_get nodes) (sym same) ∙ at in
        let equal : l ≡ z = cc in
        record {
          now = m;
          is = ap (slice_get (slice_set nodes n m)) same ∙ set-here nodes n l m is;
          life = life ∙ ap (λ (y : Lists). y.life) equal;
          kin = subst (λ (y : Lists). KinAll y.clients m.clients) equal kin;
        }
    by false e =
        record {
          now = z;
          is = set-other nodes n j m (eqb-false j n e) ∙ at;
          life = refl;
          kin = kin-same z.clients;
        }

pub kin-more : (nodes : List Lists) (new : Lists) → NodesKin nodes (nodes ++ new ∷ [])
kin-more nodes new n l is = record {
  now = l;
  is = add-keeps nodes new n l is;
  life = refl;
  kin = kin-same l.clients;
}

pub kin-then : (a b c : List Lists) → NodesKin a b → NodesKin b c → NodesKin a c
kin-then a b c f g n l is =
    let one = f n l is in
    let two = g n one.now one.is in
    record {
      now = two.now;
      is = two.is;
      life = two.life ∙ one.life;
      kin = λ i x at. let x1 = one.kin i x at in
          let x2 = two.kin i x1.now x1.is in
          record {
            now = x2.now;
            is = x2.is;
            kin = record {
              let_go = λ t life h. x2.kin.let_go t life (x1.kin.let_go t life h);
              joined = λ j. let j1 = x1.kin.joined j in
                  let j2 = x2.kin.joined j1.0 in
                  (j2.0, j2.1 ∙ j1.1);
            };
          };
    }

-- a packet that asks goes from a client session to the end that it is joined with, and the others
-- to a client session that is joined with their node
abbrev pub EndOf : List Lists → (from to : ℕ) → Bool → ℕ → Type 0
EndOf nodes from to true t = (s : ℕ) × JoinedTo nodes from s to t
EndOf nodes from to false s = (t : ℕ) × JoinedTo nodes to s from t

-- each goes to the first life of its node
abbrev pub Comes : List Lists → (from to : ℕ) → List ℕ → Type 0
Comes nodes from to bytes =
    (h : MessageHeader) → message_of bytes ≡ Some h
    → (h.to_life ≡ first_life) × EndOf nodes from to (is_ask h.kind) h.session

end-kin : (nodes others : List Lists) (from to : ℕ) (b : Bool) (s : ℕ) → NodesKin nodes others
    → EndOf nodes from to b s → EndOf others from to b s
end-kin nodes others from to true t kin e = (e.0, joined-kin nodes others from e.0 to t kin e.1)
end-kin nodes others from to false s kin e = (e.0, joined-kin nodes others to s from e.0 kin e.1)

pub comes-kin : (nodes others : List Lists) → NodesKin nodes others → (from to : ℕ) (bytes : List ℕ)
    → Comes nodes from to bytes → Comes others from to bytes
comes-kin nodes others kin from to bytes c = λ h reads.
    let k = c h reads in
    (k.0, end-kin nodes others from to (is_ask h.kind) h.session kin k.1)

-- a node has come to a life
pub record HasReached (nodes : List Lists) (n life : ℕ) : Type 0 where
  pub lists : Lists
  pub is_node : slice_get nodes n ≡ Some lists
  pub reached : life ≤ lists.life

pub reached-kin : (nodes others : List Lists) (n life : ℕ) → NodesKin nodes others
    → HasReached nodes n life → HasReached others n life
reached-kin nodes others n life kin h =
    let node = kin n h.lists h.is_node in
    let same = node.life in
    let reached = h.reached in
    record { lists = node.now; is_node = node.is; reached = omega arith }

-- who sends a control packet has come to the life that it tells, and a request to disconnect is of
-- a session that let go
abbrev pub LetsGoCopy : List Lists → (from to : ℕ) → List ℕ → Type 0
LetsGoCopy nodes from to bytes =
    (h : ControlHeader) → control_of bytes ≡ Some h
    → HasReached nodes from h.from_life
    × (h.kind ≡ DisconnectRequest → (t life : ℕ) → h.server ≡ Some t → h.to_life ≡ Some life
    → GoneAt nodes (record { node = from; life = h.from_life }) h.client t life)

pub copies-kin : (nodes others : List Lists) → NodesKin nodes others
    → (from to : ℕ) (bytes : List ℕ)
    → LetsGoCopy nodes from to bytes → LetsGoCopy others from to bytes
copies-kin nodes others kin from to bytes c = λ h reads.
    let k = c h reads in (
      reached-kin nodes others from h.from_life kin k.0,
      λ kind t life names goes. gone-at-kin nodes others
          (record { node = from; life = h.from_life }) h.client t life kin
          (k.1 kind t life names goes),
    )

-- what is known of the ends of a session is of this session
pub record FitsIn (k : Known) (nodes : List Lists) (x : Pairing) : Type 0 where
  pub server : (e : End) → k.ends (first x.node) x.session 0 ≡ Some e → (e.home ≡ first x.home)
      × (e.client ≡ x.client)
  pub client : (m t : ℕ) → JoinedTo nodes x.home x.client m t → (m ≡ x.node) × (t ≡ x.session)
  pub home_life : x.home_life ≡ first_life
  pub node_life : x.node_life ≡ first_life

pub fits-before : (j k : Known) (nodes others : List Lists) → Later j k → NodesKin nodes others
    → (x : Pairing) → FitsIn k others x → FitsIn j nodes x
fits-before j k nodes others later kin x f = record {
  server = λ e is. f.server e (later.ends (first x.node) x.session 0 e is);
  client = λ m t h. f.client m t (joined-kin nodes others x.home x.client m t kin h);
  home_life = f.home_life;
  node_life = f.node_life;
}

-- server session t of endpoint m is there, or that life of m is over
pub record LivesIn (nodes : List Lists) (m : Endpoint) (t : ℕ) : Type 0 where
  pub lists : Lists
  pub is_node : slice_get nodes m.node ≡ Some lists
  pub reached : m.life ≤ lists.life
  pub there : lists.life ≡ m.life
      → (v : Server) × (find (is_server t) lists.servers ≡ Some v)

-- each server session that was made is there, or its client session let go of it
abbrev pub Alive : Known → List Lists → Type 0
Alive k nodes =
    (m : Endpoint) (t : ℕ) (e : End) → k.ends m t 0 ≡ Some e
    → LivesIn nodes m t ⊎ GoneAt nodes e.home e.client t m.life

-- a node that isn't there has no place
none-beyond : (nodes : List Lists) (n : ℕ) → slice_get nodes n ≡ None → length nodes ≤ n
none-beyond [] n e = omega arith
none-beyond (l ∷ nodes) zero e = cc
none-beyond (l ∷ nodes) (suc n) e = let rest = none-beyond nodes n e in omega arith

module _ (w : Moment) (g : Good w) (f : FirstLives w) where
  -- where a call began, its session is joined
  pub started : (n s r : ℕ) (b : Begin) → g.known.starts (first n) s r ≡ Some b
      → JoinedTo w.nodes n s b.way.peer b.way.other
  started n s r b is = by (slice_get w.nodes n) refl
    where
      by : (o : Option Lists) → slice_get w.nodes n ≡ o
          → JoinedTo w.nodes n s b.way.peer b.way.other
      by None e =
          let none = g.unmade.starts (first n) s r (inl (none-beyond w.nodes n e)) in absurd (cc)
      by (Some l) e =
          let at = (good-first w g f n l e).begun s r b is in
          record {
            lists = l;
            is_node = e;
            client = at.client;
            is_there = at.is_there;
            joined = at.joined;
            peer = ap (λ (w : Way). w.peer) at.way;
            other = ap (λ (w : Way). w.other) at.way;
            life = ap (λ (w : Way). w.life) at.way ∙ way-first w g f (first n) s r b is;
          }

  -- a call that began, by what is known of its endpoint
  pub started-at : (n : Endpoint) (s r : ℕ) (b : Begin) → g.known.starts n s r ≡ Some b
      → JoinedTo w.nodes n.node s b.way.peer b.way.other
  started-at n s r b is =
      let same = first-is n (start-first w g f n s r b is) in
      started n.node s r b (subst (λ (a : Endpoint). g.known.starts a s r ≡ Some b) same is)

  slot-good : (m : ℕ) (l : Lists) (t : ℕ) (p : Served → Bool) (v : Server) (q : Served)
      → slice_get w.nodes m ≡ Some l → find (is_server t) l.servers ≡ Some v
      → find p v.slots ≡ Some q → GoodServed g.known (first m) v.way q × (v.way.number ≡ t)
  slot-good m l t p v q is found at =
      let server = server-at g.known (first m) l.servers t v (good-first w g f m l is).servers
      found in
      (all-found (GoodServed g.known (first m) v.way) p v.slots q server.0.slots at, server.1)

  -- a request in a slot is of a client session that is joined with it
  pub slot-joined : (m : ℕ) (l : Lists) (t : ℕ) (p : Served → Bool) (v : Server) (q : Served)
      → slice_get w.nodes m ≡ Some l → find (is_server t) l.servers ≡ Some v
      → find p v.slots ≡ Some q → JoinedTo w.nodes v.way.peer v.way.other m t
  slot-joined m l t p v q is found at =
      let slot = slot-good m l t p v q is found at in
      let good = slot.0 in
      let j = started-at (peer_of v.way) v.way.other q.number good.start good.begun in
      let peer : good.start.way.peer ≡ m = ap (λ (w : Way). w.peer) good.way_is in
      let other : good.start.way.other ≡ t = ap (λ (w : Way). w.other) good.way_is ∙ slot.1 in
      subst (λ (i : ℕ). JoinedTo w.nodes v.way.peer v.way.other i t) peer
      (subst (λ (i : ℕ). JoinedTo w.nodes v.way.peer v.way.other good.start.way.peer i) other j)

  -- and of the first life of its peer
  pub slot-first : (m : ℕ) (l : Lists) (t : ℕ) (p : Served → Bool) (v : Server) (q : Served)
      → slice_get w.nodes m ≡ Some l → find (is_server t) l.servers ≡ Some v
      → find p v.slots ≡ Some q → v.way.life ≡ first_life
  slot-first m l t p v q is found at =
      let good = (slot-good m l t p v q is found at).0 in
      start-first w g f (peer_of v.way) v.way.other q.number good.start good.begun

  -- a session with a call is joined
  pub client-to : (n : ℕ) (l : Lists) (s r : ℕ) (x : Client) (c : Call)
      → slice_get w.nodes n ≡ Some l → find (is_client s) l.clients ≡ Some x
      → find (is_active r) x.calls ≡ Some c → JoinedTo w.nodes n s x.way.peer x.way.other
  client-to n l s r x c is found active =
      let k = g.known in
      let clients = (good-first w g f n l is).clients in
      let at = client-at k (first n) l.clients s x clients found in
      let joined = has-joined k (first n) s x (is_active r) c (clients s x at.0) active in
      record {
        lists = l;
        is_node = is;
        client = x;
        is_there = at.0;
        joined = joined;
        peer = refl;
        other = refl;
        life = joined-first w g f n s l x is at.0 joined;
      }

  -- what is known where a client session is joined
  pub joined-end : (n s m t : ℕ) → (j : JoinedTo w.nodes n s m t)
      → g.known.ends (first m) t 0
      ≡ Some (record { home = first n; client = s; credits = j.client.limit })
  joined-end n s m t j =
      let x = j.client in
      let e : End = record { home = first n; client = s; credits = x.limit } in
      let good = (good-first w g f n j.lists j.is_node).clients s x j.is_there in
      let own = (is-joined g.known (first n) s x j.joined good).end in
      let at : peer_of x.way ≡ first m =
      first-is (peer_of x.way) j.life ∙ ap first j.peer in
      subst (λ (a : Endpoint). g.known.ends a t 0 ≡ Some e) at
      (subst (λ (i : ℕ). g.known.ends (peer_of x.way) i 0 ≡ Some e) j.other own)

  -- so is a session with a call
  pub client-first : (n : ℕ) (l : Lists) (s r : ℕ) (x : Client) (c : Call)
      → slice_get w.nodes n ≡ Some l → find (is_client s) l.clients ≡ Some x
      → find (is_active r) x.calls ≡ Some c → x.way.life ≡ first_life
  unfolding client-to
  client-first n l s r x c is found active = (client-to n l s r x c is found active).life

  pub client-known : (n : ℕ) (l : Lists) (s r : ℕ) (x : Client) (c : Call)
      → slice_get w.nodes n ≡ Some l → find (is_client s) l.clients ≡ Some x
      → find (is_active r) x.calls ≡ Some c
      → g.known.ends (first x.way.peer) x.way.other 0
      ≡ Some (record { home = first n; client = s; credits = x.limit })
  unfolding client-to
  client-known n l s r x c is found active =
      joined-end n s x.way.peer x.way.other (client-to n l s r x c is found active)
