-- Each packet that is on its way is unanswered and stands in one place only, at each calm moment.
use Rattle.rpc_base.specs.declared.limits.Limits.{Limits}
use Rattle.std.proofs.Common.{find}
use Rattle.std.proofs.Common.{◌≡◌, ◌+◌, ◌≤◌, ◌==◌, ℕ, Bool, true, false, cond, List, [], ◌∷◌}
use Rattle.std.proofs.Common.{◌++◌, length, Option, Some, None, slice_get, refl, sym, ap, ◌∙◌}
use Rattle.std.proofs.Common.{subst, arith}
use Rattle.std.proofs.lemmas.Bool.{eqb-true, eqb-false}
use Rattle.rpc_base.specs.declared.event.Event.{Event}
use Rattle.rpc_base.specs.declared.event.Event.TheVariants.{Made}
use Rattle.rpc_base.specs.declared.fact.Fact.{Fact}
use Rattle.rpc_base.specs.declared.fact.Who.TheVariants.{Node, Net}
use Rattle.rpc_base.specs.declared.owner.Owner.TheVariants.{Ask}
use Rattle.rpc_laws.specs.declared.tables.Lists.{Lists}
use Rattle.rpc_laws.specs.BufferSafety.{changed}
use Rattle.rpc_laws.specs.Endpoints.{told}
use Rattle.rpc_laws.specs.Facts.{plain, with_two}
use Rattle.rpc_laws.specs.Lives.{first_life}
use Rattle.rpc_laws.specs.NodeLists.{after, new_lists}
use Rattle.rpc_laws.specs.Sessions.{client_end}
use Rattle.node_laws.specs.Valid.{Valid}
use Rattle.node_laws.specs.Windows.{InWindow}
use Rattle.node_laws.proofs.WindowLemmas.{window-made}
use Rattle.rpc_laws.specs.UsualLimits.{with_ring}
use Rattle.end_laws.specs.Moments.{Moment, moved, Always, first_moment}
use Rattle.end_laws.proofs.Allowed.{is_packet}
use Rattle.end_laws.proofs.Courses.{made_as, made_at, resets, AtNode, Ends, Course, over, in_net}
use Rattle.end_laws.proofs.Courses.{made, at_node, pairs, restarts}
use Rattle.end_laws.proofs.Courses.{client_fact, server_fact, paired, noted_at, moved-node}
use Rattle.end_laws.proofs.ListLemmas.{add-keeps}
use Rattle.end_laws.proofs.QueueLemmas.{RightNode}
use Rattle.end_laws.proofs.SendsLaw.{AllRight, right-noted, right-net, right-made, right-paired}
use Rattle.end_laws.proofs.SendsLaw.{right-restart}
use Rattle.ring_laws.specs.CalmRing.{Calm}
use Rattle.ring_laws.specs.PairsOnce.{IsTidy}
use Rattle.ring_laws.proofs.CalmSteps.{CalmNode}
use Rattle.ring_laws.proofs.ClientSteps.{no_roll}
use Rattle.ring_laws.proofs.Coverage.{Met}
use Rattle.ring_laws.proofs.FirstLives.{FirstLives}
use Rattle.ring_laws.proofs.Loads.{Pairing, posted_ask, took_reply}
use Rattle.ring_laws.proofs.Loads.{load}
use Rattle.ring_laws.proofs.OpenLaw.{is-tidy}
use Rattle.packet_header.specs.Parts.{packet_count}
use Rattle.rpc_base.specs.declared.owner.Owner.{Owner}
use Rattle.rpc_base.specs.declared.owner.Owner.TheVariants.{Ask, Reply, Control}
use Rattle.rpc_base.proofs.PlaceLemmas.{set-here, set-other}
use Rattle.rpc_laws.specs.declared.tables.Client.{Client}
use Rattle.rpc_laws.specs.declared.tables.Queued.{Queued}
use Rattle.rpc_laws.specs.declared.tables.Server.{Server}
use Rattle.rpc_laws.specs.Requests.{is_server}
use Rattle.rpc_laws.specs.Sessions.{client_end}
use Rattle.std.specs.List.{AllByRecursion}
use Rattle.std.proofs.Common.{◌⊎◌, inl, inr, ◌-◌, zero, suc}
use Rattle.end_laws.proofs.Known.{Good}
use Rattle.end_laws.proofs.ListLemmas.{all-map}
use Rattle.end_laws.proofs.SessionLemmas.{none-made}
use Rattle.end_laws.proofs.Valids.{AllValid, valid-net, valid-made, valid-node, valid-pair}
use Rattle.end_laws.proofs.Valids.{valid-restart}
use Rattle.ring_laws.specs.PairsOnce.{AreEndsOf, IsOpen, IsOpenAt, IsOpenOwner, places}
use Rattle.ring_laws.proofs.QueuedReplies.{AllRepliesStand, replies-first, replies-net, replies-node}
use Rattle.ring_laws.proofs.QueuedReplies.{replies-made, replies-pair}
use Rattle.ring_laws.proofs.RingLaw.{first-met, MetNext}
use Rattle.ring_laws.proofs.Standing.{FitsIn}
use Rattle.ring_laws.proofs.PairPlaces.{StandsIn, PairAt, Pairs}
use Rattle.ring_laws.proofs.PairSteps.{Standing, standing-after}
use Rattle.ring_laws.proofs.RingLaw.{met-net, met-node, met-made, met-pair, rough-roll}
use Rattle.ring_laws.proofs.RingLaw.{rough-repeat, calm-parts, no-restart}
use Rattle.ring_laws.proofs.WithinSteps.{no_repeat, own-fact, load-noted, load-net}
use Rattle.ring_laws.proofs.WithinSteps.{nodes-net, load-made, load-pair, lists1, lists2, nodes1}
use Rattle.ring_laws.proofs.WithinSteps.{nodes2, is_server1, paired-nodes}

-- a fact of the network
pair-net : (w : Moment) (f : Fact) (x : Pairing) (r k : ℕ) → f.who ≡ Net → no_repeat f.event ≡ true
    → PairAt w x r k → PairAt (moved w f) x r k
pair-net w f x r k who calm h =
    let less = load-net (is_packet r k) w f x who calm in
    let most = h.0 in (
      omega arith,
      λ some. subst (λ (ns : List Lists). StandsIn (slice_get ns x.home) x.client r k)
          (sym (nodes-net w f who)) (h.1 (omega arith)),
    )

-- a node is made
made-stands : (nodes : List Lists) (new : Lists) (home s r k : ℕ) (o : Option Lists)
    → slice_get nodes home ≡ o → StandsIn o s r k
    → StandsIn (slice_get (nodes ++ new ∷ []) home) s r k
made-stands nodes new home s r k None is h = absurd h
made-stands nodes new home s r k (Some l) is h =
    subst (λ (o : Option Lists). StandsIn o s r k) (sym (add-keeps nodes new home l is)) h

pair-made : (w : Moment) (limits : Limits) (x : Pairing) (r k : ℕ) → PairAt w x r k
    → PairAt (made_at w limits) x r k
pair-made w limits x r k h =
    let less = load-made (is_packet r k) w limits x in
    let most = h.0 in (
      omega arith,
      λ some. made-stands w.nodes (new_lists (length w.nodes) first_life limits) x.home
          x.client r k _ refl (h.1 (omega arith)),
    )

-- a fact of a node
module _ (w : Moment) (n : ℕ) (l : Lists) (e : Event) (first second : List ℕ) (x : Pairing)
    (a : AtNode w n l (with_two n e first second)) (g : Good w) (lives : FirstLives w)
    (i : RightNode l)
    (v : Valid l) (quiet : CalmNode l) (calm : no_roll e ≡ true) (fits : FitsIn g.known w.nodes x)
    (r k : ℕ) where
  abbrev pub noted : Moment
  noted = noted_at w n l (with_two n e first second)

  pair-by : (b : Bool) → (n == x.home) ≡ b → PairAt w x r k → PairAt noted x r k
  pair-by true t h =
      let p = is_packet r k in
      let step = load-noted w n l e first second x a g lives i p fits in
      let home : n ≡ x.home = eqb-true n x.home t in
      let less : load p x noted + took_reply p x.client e ≤ load p x w + posted_ask p x.client e =
      subst (λ (b : Bool). load p x noted + cond b (took_reply p x.client e) 0 ≤ load p x w
      + cond b (posted_ask p x.client e) 0) t step in
      let was : slice_get w.nodes x.home ≡ Some l = ap (slice_get w.nodes) (sym home) ∙ a.is_node in
      let now : slice_get noted.nodes x.home ≡ Some (after w.clock l (with_two n e first second)) =
      ap (slice_get noted.nodes) (sym home)
      ∙ set-here w.nodes n l (after w.clock l (with_two n e first second)) a.is_node in
      let old : Standing (load p x w) l.clients x.client r k =
      (h.0, λ some. subst (λ (o : Option Lists). StandsIn o x.client r k) was (h.1 some)) in
      let new = standing-after w.clock e first l x.client r k (load p x w)
      (load p x noted) v quiet a.lawful calm less old in
      (new.0, λ some. subst (λ (o : Option Lists). StandsIn o x.client r k) (sym now) (new.1 some))
  pair-by false t h =
      let p = is_packet r k in
      let step = load-noted w n l e first second x a g lives i p fits in
      let less : load p x noted + 0 ≤ load p x w + 0 =
      subst (λ (b : Bool). load p x noted + cond b (took_reply p x.client e) 0 ≤ load p x w
      + cond b (posted_ask p x.client e) 0) t step in
      let most = h.0 in
      let now : slice_get noted.nodes x.home ≡ slice_get w.nodes x.home =
      set-other w.nodes n x.home (after w.clock l (with_two n e first second))
      (λ same. eqb-false n x.home t (sym same)) in
      (omega arith, λ some. subst (λ (o : Option Lists). StandsIn o x.client r k) (sym now) (h.1 (omega arith)))

  pub pair-noted : PairAt w x r k → PairAt noted x r k
  pair-noted h = pair-by (n == x.home) refl h

pair-node : (w : Moment) (n : ℕ) (l : Lists) (f : Fact) (x : Pairing) (r k : ℕ) → AtNode w n l f
    → (g : Good w) → FirstLives w → RightNode l → Valid l → CalmNode l → no_roll f.event ≡ true
    → FitsIn g.known w.nodes x → PairAt w x r k → PairAt (moved w f) x r k
pair-node w n l f x r k a g lives i v quiet calm fits h =
    let e = own-fact f (Node n) (a.allowed.who ∙ ap Node a.me) in
    let at : AtNode w n l (with_two n f.event f.first f.second) = subst (AtNode w n l) e a in
    let p = pair-noted w n l f.event f.first f.second x at g lives i v quiet calm fits r k h in
    subst (λ (u : Moment). PairAt u x r k) (sym (moved-node w n l f a))
    (subst (λ (z : Fact). PairAt (noted_at w n l z) x r k) (sym e) p)

-- a pairing, and the moment between its two facts
module _ (w : Moment) (n m credits : ℕ) (client server : Lists) (ends : Ends w n m credits client server) where
  abbrev one : Fact
  one = client_fact n m credits client server

  nodes-one : (moved w one).nodes ≡ nodes1 w n m credits client server ends
  nodes-one = ap (λ (o : Option Lists). changed w.clock o n w.nodes one) ends.is_client

  stands-one : (x : Pairing) (r k : ℕ) (b : Bool) → (n == x.home) ≡ b
      → StandsIn (slice_get w.nodes x.home) x.client r k
      → StandsIn (slice_get (nodes1 w n m credits client server ends) x.home) x.client r k
  stands-one x r k true t h =
      let home : n ≡ x.home = eqb-true n x.home t in
      let was : slice_get w.nodes x.home ≡ Some client = ap (slice_get w.nodes) (sym home) ∙ ends.is_client in
      let now : slice_get (nodes1 w n m credits client server ends) x.home
      ≡ Some (lists1 w n m credits client server ends) =
      ap (slice_get (nodes1 w n m credits client server ends)) (sym home)
      ∙ set-here w.nodes n client (lists1 w n m credits client server ends)
      ends.is_client in
      let old : InWindow client.clients (Ask x.client r) k =
      subst (λ (o : Option Lists). StandsIn o x.client r k) was h in
      subst (λ (o : Option Lists). StandsIn o x.client r k) (sym now)
      (window-made (length client.clients) m server.server_numbers credits server.life client.clients
      (Ask x.client r) k old)
  stands-one x r k false t h =
      subst (λ (o : Option Lists). StandsIn o x.client r k)
      (sym (set-other w.nodes n x.home (lists1 w n m credits client server ends)
      (λ same. eqb-false n x.home t (sym same)))) h

  stands-two : (x : Pairing) (r k : ℕ) (b : Bool) → (m == x.home) ≡ b
      → StandsIn (slice_get (nodes1 w n m credits client server ends) x.home) x.client r k
      → StandsIn (slice_get (nodes2 w n m credits client server ends) x.home) x.client r k
  stands-two x r k true t h =
      let home : m ≡ x.home = eqb-true m x.home t in
      let was : slice_get (nodes1 w n m credits client server ends) x.home ≡ Some server =
      ap (slice_get (nodes1 w n m credits client server ends)) (sym home)
      ∙ is_server1 w n m credits client server ends in
      let now : slice_get (nodes2 w n m credits client server ends) x.home
      ≡ Some (lists2 w n m credits client server ends) =
      ap (slice_get (nodes2 w n m credits client server ends)) (sym home)
      ∙ set-here (nodes1 w n m credits client server ends) m server
      (lists2 w n m credits client server ends)
      (is_server1 w n m credits client server ends) in
      let old : InWindow server.clients (Ask x.client r) k =
      subst (λ (o : Option Lists). StandsIn o x.client r k) was h in
      subst (λ (o : Option Lists). StandsIn o x.client r k) (sym now) old
  stands-two x r k false t h =
      subst (λ (o : Option Lists). StandsIn o x.client r k)
      (sym (set-other (nodes1 w n m credits client server ends) m x.home
      (lists2 w n m credits client server ends) (λ same. eqb-false m x.home t (sym same)))) h

  pairs-pair : (h : Met w) → (z : MetNext w (paired w n m credits client server) h)
      → Pairs h.good.known w → Pairs z.met.good.known (paired w n m credits client server)
  pairs-pair h z p x fits r k =
      let pair = p x (z.fits x fits) r k in
      let less = load-pair w n m credits client server ends (is_packet r k) x in
      let most = pair.0 in (
        omega arith,
        λ some. subst (λ (ns : List Lists). StandsIn (slice_get ns x.home) x.client r k)
            (sym (paired-nodes w n m credits client server ends))
            (stands-two x r k (m == x.home) refl
            (stands-one x r k (n == x.home) refl (pair.1 (omega arith)))),
      )

  -- between the two facts the new client session has no other end
  record Was (i : ℕ) (now : Lists) : Type 0 where
    lists : Lists
    is_node : slice_get w.nodes i ≡ Some lists
    life : now.life ≡ lists.life
    queued : now.queued ≡ lists.queued
    ring : now.ring ≡ lists.ring
    jobs : now.jobs ≡ lists.jobs
    servers : now.servers ≡ lists.servers
    clients : (s : ℕ) (c : Client) → slice_get now.clients s ≡ Some c
        → (slice_get lists.clients s ≡ Some c)
        ⊎ ((c.way.peer ≡ m) × (c.way.other ≡ server.server_numbers))

  last-or : (xs : List Client) (y : Client) (s : ℕ) (c : Client) → slice_get (xs ++ y ∷ []) s ≡ Some c
      → (slice_get xs s ≡ Some c) ⊎ (y ≡ c)
  last-or [] y zero c h = inr (cc)
  last-or [] y (suc s) c h = cc
  last-or (x ∷ xs) y zero c h = inl h
  last-or (x ∷ xs) y (suc s) c h = last-or xs y s c h

  was-of : (i : ℕ) (now : Lists) → slice_get (nodes1 w n m credits client server ends) i ≡ Some now → Was i now
  was-of i now is = by (i == n) refl
    where
      by : (b : Bool) → (i == n) ≡ b → Was i now
      by true e =
          let at = eqb-true i n e in
          let there : slice_get (nodes1 w n m credits client server ends) n
          ≡ Some (lists1 w n m credits client server ends) =
          set-here w.nodes n client (lists1 w n m credits client server ends) ends.is_client in
          let mine : slice_get (nodes1 w n m credits client server ends) n ≡ Some now =
          ap (slice_get (nodes1 w n m credits client server ends)) (sym at) ∙ is in
          let same : lists1 w n m credits client server ends ≡ now = cc in
          subst (Was i) same (record {
            lists = client;
            is_node = ap (slice_get w.nodes) at ∙ ends.is_client;
            life = refl;
            queued = refl;
            ring = refl;
            jobs = refl;
            servers = refl;
            clients = λ s c h. elim (last-or client.clients
                (client_end (length client.clients) m server.server_numbers credits server.life) s
                c h) [
                  | inl old ↦ inl old
                  | inr new ↦ inr (ap (λ (z : Client). z.way.peer) (sym new), ap (λ (z : Client). z.way.other) (sym new))
                ];
          })
      by false e =
          record {
            lists = now;
            is_node = sym (set-other w.nodes n i (lists1 w n m credits client server ends) (eqb-false i n e)) ∙ is;
            life = refl;
            queued = refl;
            ring = refl;
            jobs = refl;
            servers = refl;
            clients = λ s c h. inl h;
          }

  abbrev between : Moment
  between = moved w one

  -- the ends of a session were there before
  ends-were : AllRight w → (i s : ℕ) (now : Lists) (x : Client) (j t : ℕ) (other : Lists) (v : Server)
      → (e : AreEndsOf between i s now x j t other v) → (a : Was i now) → (b : Was j other)
      → AreEndsOf w i s a.lists x j t b.lists v
  ends-were right i s now x j t other v e a b =
      elim (a.clients s x e.client_there) [
        | inl old ↦ record {
          is_client = a.is_node;
          client_there = old;
          is_server = b.is_node;
          server_there = ap (find (is_server t)) (sym b.servers) ∙ e.server_there;
          peer = e.peer;
          other = e.other;
          peer_life = e.peer_life ∙ b.life;
          home = e.home;
          number = e.number;
          home_life = e.home_life ∙ a.life;
        }
        | inr new ↦ absurd (no-server right j t other v e.server_there b (sym e.peer ∙ new.0) (sym e.other ∙ new.1))
      ]
    where
      no-server : AllRight w → (j t : ℕ) (other : Lists) (v : Server)
          → find (is_server t) other.servers ≡ Some v → (b : Was j other) → j ≡ m
          → t ≡ server.server_numbers → ⊥
      no-server right j t other v found b at number =
          let mine : slice_get w.nodes m ≡ Some b.lists = ap (slice_get w.nodes) (sym at) ∙ b.is_node in
          let own = ends.is_server in
          let lists : b.lists ≡ server = cc in
          let there : find (is_server t) server.servers ≡ Some v =
          ap (λ (z : Lists). find (is_server t) z.servers) (sym lists) ∙ (ap (find (is_server t)) (sym b.servers) ∙ found) in
          let none = none-made t server.server_numbers server.servers
          (right m server ends.is_server).alone (omega arith) in
          cc

  places-were : (i s : ℕ) (now : Lists) (j t : ℕ) (other : Lists) (a : Was i now) (b : Was j other) (r k : ℕ)
      → places between.flight i s now j t other r k ≡ places w.flight i s a.lists j t b.lists r k
  places-were i s now j t other a b r k = rw (a.queued, a.ring, b.queued, b.ring, b.jobs) refl

  record Now (i : ℕ) (l : Lists) : Type 0 where
    lists : Lists
    is_node : slice_get (nodes1 w n m credits client server ends) i ≡ Some lists
    life : lists.life ≡ l.life
    servers : lists.servers ≡ l.servers
    clients : (s : ℕ) (c : Client) → slice_get l.clients s ≡ Some c → slice_get lists.clients s ≡ Some c

  now-of : (i : ℕ) (l : Lists) → slice_get w.nodes i ≡ Some l → Now i l
  now-of i l is = by (i == n) refl
    where
      by : (b : Bool) → (i == n) ≡ b → Now i l
      by true e =
          let at = eqb-true i n e in
          let mine : slice_get w.nodes n ≡ Some l = ap (slice_get w.nodes) (sym at) ∙ is in
          let own = ends.is_client in
          let same : client ≡ l = cc in
          subst (Now i) same (record {
            lists = lists1 w n m credits client server ends;
            is_node = ap (slice_get (nodes1 w n m credits client server ends)) at
                ∙ set-here w.nodes n client (lists1 w n m credits client server ends) ends.is_client;
            life = refl;
            servers = refl;
            clients = λ s c h. add-keeps client.clients _ s c h;
          })
      by false e =
          record {
            lists = l;
            is_node = set-other w.nodes n i (lists1 w n m credits client server ends) (eqb-false i n e) ∙ is;
            life = refl;
            servers = refl;
            clients = λ s c h. h;
          }

  -- and they are there now
  ends-now : (i s : ℕ) (l : Lists) (x : Client) (j t : ℕ) (other : Lists) (v : Server)
      → AreEndsOf w i s l x j t other v
      → (now : Lists) × ((then : Lists) × AreEndsOf between i s now x j t then v)
  ends-now i s l x j t other v e =
      let a = now-of i l e.is_client in
      let b = now-of j other e.is_server in (
        a.lists,
        (
          b.lists,
          record {
            is_client = ap (λ (ns : List Lists). slice_get ns i) nodes-one ∙ a.is_node;
            client_there = a.clients s x e.client_there;
            is_server = ap (λ (ns : List Lists). slice_get ns j) nodes-one ∙ b.is_node;
            server_there = ap (find (is_server t)) b.servers ∙ e.server_there;
            peer = e.peer;
            other = e.other;
            peer_life = e.peer_life ∙ sym b.life;
            home = e.home;
            number = e.number;
            home_life = e.home_life ∙ sym a.life;
          },
        ),
      )

  open-now : (to : ℕ) (bytes : List ℕ) → IsOpen w to bytes → IsOpen between to bytes
  open-now to bytes o =
      let e = ends-now o.home o.number o.client o.session o.node o.other o.server o.end o.ends in
      record {
        header = o.header;
        reads = o.reads;
        home = o.home;
        number = o.number;
        client = e.0;
        session = o.session;
        node = o.node;
        other = o.other;
        server = e.1.0;
        end = o.end;
        ends = e.1.1;
        connected = o.connected;
        comes = o.comes;
        unanswered = o.unanswered;
      }

  open-at-now : (asks : Bool) (i number r k : ℕ) → IsOpenAt w asks i number r k → IsOpenAt between asks i number r k
  open-at-now asks i number r k o =
      let e = ends-now o.home o.session o.client o.item o.node o.other o.server o.end o.ends in
      record {
        home = o.home;
        session = o.session;
        client = e.0;
        item = o.item;
        node = o.node;
        other = o.other;
        server = e.1.0;
        end = o.end;
        ends = e.1.1;
        connected = o.connected;
        here = o.here;
        unanswered = o.unanswered;
      }

  owner-now : (i : ℕ) (o : Owner) (k : ℕ) → IsOpenOwner w i o k → IsOpenOwner between i o k
  owner-now i (Ask s r) k h = open-at-now true i s r k h
  owner-now i (Reply t r) k h = open-at-now false i t r k h
  owner-now i Control k h = tt

  pub between-tidy : AllRight w → IsTidy w → IsTidy between
  between-tidy right h = record {
    once = λ i s now x j t other v e r k.
        let a = was-of i now (ap (λ (ns : List Lists). slice_get ns i) (sym nodes-one) ∙ e.is_client) in
        let b = was-of j other (ap (λ (ns : List Lists). slice_get ns j) (sym nodes-one) ∙ e.is_server) in
        let old = h.once i s a.lists x j t b.lists v (ends-were right i s now x j t other v e a b) r k in
        let same = places-were i s now j t other a b r k in
        record {
          once = rw same (old.once);
          unanswered = λ some. old.unanswered (rw (← same) some);
        };
    flight = all-map _ _ w.flight (λ c k message. open-now c.to c.bytes (k message)) h.flight;
    rings = λ i now is.
        let a = was-of i now (ap (λ (ns : List Lists). slice_get ns i) (sym nodes-one) ∙ is) in
        rw (a.ring) (all-map _ _ a.lists.ring (λ z k. open-now i z.bytes k) (h.rings i a.lists a.is_node));
    queued = λ i now is.
        let a = was-of i now (ap (λ (ns : List Lists). slice_get ns i) (sym nodes-one) ∙ is) in
        subst (λ (qs : List Queued). AllByRecursion (λ q. IsOpenOwner between i q.owner q.number) qs) (sym a.queued)
        (all-map _ _ a.lists.queued (λ q k. owner-now i q.owner q.number k) (h.queued i a.lists a.is_node));
    jobs = λ i now is.
        let a = was-of i now (ap (λ (ns : List Lists). slice_get ns i) (sym nodes-one) ∙ is) in
        rw (a.jobs) (all-map _ _ a.lists.jobs.out (λ z k. open-at-now false i z.session z.request
        (packet_count (length z.ask) - 1) k) (h.jobs i a.lists a.is_node));
  }

-- all of it at a calm moment
pub record Tidy (w : Moment) : Type 0 where
  pub met : Met w
  pub pairs : Pairs met.good.known w
  pub replies : AllRepliesStand w

pub tidy-net : (w : Moment) (f : Fact) → f.who ≡ Net → no_repeat f.event ≡ true → Tidy w → Tidy (moved w f)
tidy-net w f who calm t =
    let z = met-net w f who calm t.met in
    record {
      met = z.met;
      pairs = λ x fits r k. pair-net w f x r k who calm (t.pairs x (z.fits x fits) r k);
      replies = replies-net w f who t.replies;
    }

pub tidy-made : (w : Moment) (limits : Limits) → Tidy w → Tidy (made_at w limits)
tidy-made w limits t =
    let z = met-made w limits t.met in
    record {
      met = z.met;
      pairs = λ x fits r k. pair-made w limits x r k (t.pairs x (z.fits x fits) r k);
      replies = replies-made w limits t.replies;
    }

pub tidy-node : (w : Moment) (n : ℕ) (l : Lists) (f : Fact) → AtNode w n l f → AllRight w → AllValid w
    → no_roll f.event ≡ true → Tidy w → Tidy (moved w f)
tidy-node w n l f a i v calm t =
    let z = met-node w n l f a i v calm t.met in
    record {
      met = z.met;
      pairs = λ x fits r k. pair-node w n l f x r k a t.met.good t.met.lives (i n l a.is_node) (v n l a.is_node)
          (t.met.calm n l a.is_node) calm (z.fits x fits) (t.pairs x (z.fits x fits) r k);
      replies = replies-node w n l f a v t.replies;
    }

pub tidy-pair : (w : Moment) (n m credits : ℕ) (client server : Lists)
    → Ends w n m credits client server → AllRight w → AllValid w → Tidy w
    → Tidy (paired w n m credits client server)
tidy-pair w n m credits client server e i v t =
    let z = met-pair w n m credits client server e i v t.met in
    record {
      met = z.met;
      pairs = pairs-pair w n m credits client server e t.met z t.pairs;
      replies = replies-pair w n m credits client server e v t.replies;
    }

pub tidy-once : (w : Moment) → AllValid w → Tidy w → IsTidy w
tidy-once w v t = is-tidy w t.met v t.pairs t.replies

pub course-pairs : (w : Moment) (h : List Fact) (u : Moment) → Course false w h u → AllRight w
    → AllValid w → (Calm w.past → Tidy w) → Always (λ w. Calm w.past → IsTidy w) w h
course-pairs _ _ _ (over w) i v t = λ calm. tidy-once w v (t calm)
course-pairs _ _ _ (made_as w limits h u is c) i v t = absurd (cc)
course-pairs _ _ _ (resets w clock h u is c) i v t = absurd (cc)
course-pairs _ _ _ (in_net w f h u who c) i v t = (
  λ calm. tidy-once w v (t calm),
  course-pairs (moved w f) h u c (right-net w f who i) (valid-net w f who v)
      (λ calm. let parts = calm-parts w.past f calm in
      tidy-net w f who (rough-repeat f.event parts.0) (t parts.1)),
)
course-pairs _ _ _ (made w ring h u c) i v t = (
  λ calm. tidy-once w v (t calm),
  course-pairs _ h u c (right-made w (with_ring ring) i) (valid-made w (with_ring ring) v)
      (λ calm. let parts = calm-parts w.past (plain (length w.nodes) (Made ring)) calm in
      tidy-made w (with_ring ring) (t parts.1)),
)
course-pairs _ _ _ (restarts w n l h u is me life c) i v t = (
  λ calm. tidy-once w v (t calm),
  course-pairs _ h u c (right-restart w n l is i) (valid-restart w n l is v)
      (λ calm. absurd (no-restart n (l.life + 1) w.past calm)),
)
course-pairs _ _ _ (at_node w n l f h u a c) i v t = (
  λ calm. tidy-once w v (t calm),
  course-pairs (moved w f) h u c (right-noted w n l f a i) (valid-node w n l f a v)
      (λ calm. let parts = calm-parts w.past f calm in
      tidy-node w n l f a i v (rough-roll f.event parts.0) (t parts.1)),
)
course-pairs _ _ _ (pairs w n m credits client server h u e c) i v t = (
  λ calm. tidy-once w v (t calm),
  (
    λ calm. let parts = calm-parts w.past (client_fact n m credits client server) calm in
        between-tidy w n m credits client server e i (tidy-once w v (t parts.1)),
    course-pairs (paired w n m credits client server) h u c
        (right-paired w n m credits client server e i)
        (valid-pair w n m credits client server e v)
        (λ calm. let parts = calm-parts (told w.past (client_fact n m credits client server) ∷ w.past)
        (server_fact n m credits client server) calm in
        let before = t (calm-parts w.past (client_fact n m credits client server) parts.1).1 in
        tidy-pair w n m credits client server e i v before),
  ),
)

-- before the first fact
pub first-tidy : Tidy first_moment
first-tidy = record {
  met = first-met;
  pairs = λ x fits r k. (omega arith, λ some. absurd (omega arith));
  replies = replies-first;
}
