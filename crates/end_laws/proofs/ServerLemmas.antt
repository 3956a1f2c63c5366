-- The requests of a node's server sessions stay those of calls that began, by each fact but a pairing.
use Rattle.std.proofs.Common.{◌≡◌, ◌<◌, ◌≤◌, ◌+◌, ◌*◌, ◌||◌, ℕ, Bool, true, false, not, cond, List}
use Rattle.std.proofs.Common.{[], ◌++◌, length, take, Option, Some, None, refl, sym, ap}
use Rattle.std.proofs.Common.{◌∙◌, subst, arith, append-nil}
use Rattle.std.specs.Prelude.{is_none}
use Rattle.std.specs.List.{find, list_any, AllByRecursion}
use Rattle.std.proofs.lemmas.Bool.{eqb-true}
use Rattle.packet_header.specs.Parts.{packet_count, part}
use Rattle.packet_header.specs.declared.packet.Kind.{Kind}
use Rattle.packet_header.specs.declared.packet.Kind.TheVariants.{Request, Rfr, Cr, Response}
use Rattle.packet_header.specs.declared.packet.MessageHeader.{MessageHeader}
use Rattle.packet_header.proofs.PartsLemmas.{part-front, front-whole}
use Rattle.rpc_base.specs.Tables.{at_first, without_first}
use Rattle.rpc_base.proofs.TakingLemmas.{find-passes}
use Rattle.rpc_base.specs.declared.event.Event.{Event}
use Rattle.rpc_base.specs.declared.event.Event.TheVariants.{Accepted, Ended, PairedServer, Took, Given, Ran}
use Rattle.rpc_base.specs.declared.owner.Owner.TheVariants.{Ask, Reply, Control}
use Rattle.rpc_laws.specs.declared.tables.InFlight.{InFlight}
use Rattle.rpc_laws.specs.declared.tables.Lists.{Lists}
use Rattle.rpc_laws.specs.declared.tables.Served.{Served}
use Rattle.rpc_laws.specs.declared.tables.Server.{Server}
use Rattle.rpc_laws.specs.declared.tables.Way.{Way}
use Rattle.rpc_laws.specs.Front.{front_header, front_body}
use Rattle.rpc_laws.specs.Requests.{is_server, is_request, in_slot_of, first_packet, next_packet}
use Rattle.rpc_laws.specs.Requests.{took_packet, given, servers_after}
use Rattle.end_laws.specs.TwoEnds.{is_away, peer_of}
use Rattle.end_laws.proofs.Allowed.{GoesOn, TakesOf, May}
use Rattle.end_laws.proofs.ClientLemmas.{is_quiet, front-says}
use Rattle.end_laws.proofs.Known.{Known, Later, Begin, End, SaysRequest, Says, Speaks}
use Rattle.end_laws.proofs.Known.{GoodServed, GoodServer}
use Rattle.end_laws.proofs.KnownLemmas.{served-later, server-later, servers-later, session-later}
use Rattle.end_laws.proofs.ListLemmas.{all-first, all-map, all-add}
use Rattle.end_laws.proofs.ListLemmas.{all-without, all-found}
use Rattle.node_laws.proofs.TakenRights.{TakenRight}
use Rattle.end_laws.proofs.Rights.{SlotRight, SlotsRight, Readable, front-right}
use Rattle.end_laws.proofs.SlotLemmas.{any-find}
use Rattle.rpc_laws.specs.Endpoints.{Endpoint}

end-same : (a b : End) → Some a ≡ Some b → a.client ≡ b.client
end-same a b e = let same : a ≡ b = cc in ap (λ (x : End). x.client) same

module _ (k : Known) (n : Endpoint) where
  -- the server session that is found has the number
  pub server-at : (xs : List Server) (t : ℕ) (v : Server) → AllByRecursion (GoodServer k n) xs
      → find (is_server t) xs ≡ Some v → GoodServer k n v × (v.way.number ≡ t)
  server-at xs t v g f = (
    all-found (GoodServer k n) (is_server t) xs v g f,
    eqb-true v.way.number t (find-passes (is_server t) xs v f),
  )

  -- the call of a packet that is taken
  pub record OfCall (way : Way) (h : MessageHeader) (body : List ℕ) : Type 0 where
    pub start : Begin
    pub begun : k.starts (peer_of way) way.other h.request ≡ Some start
    pub way_is : start.way
        ≡ record { number = way.other; peer = n.node; other = way.number; life = n.life }
    pub req_type : h.req_type ≡ start.what.req_type
    pub size : h.size ≡ length start.what.ask
    pub piece : body ≡ part start.what.ask h.number

  ends-same : (a b : End) → Some a ≡ Some b → (a.home ≡ b.home) × (a.client ≡ b.client)
  ends-same a b e = let same : a ≡ b = cc in
      (ap (λ (x : End). x.home) same, ap (λ (x : End). x.client) same)

  of-call : (way : Way) (credits : ℕ) (h : MessageHeader) (from : ℕ) (body : List ℕ) → from
      ≡ way.peer
      → way.number ≡ h.session → h.to_life ≡ n.life
      → k.ends n way.number 0 ≡ Some (record {
        home = peer_of way;
        client = way.other;
        credits = credits;
      })
      → SaysRequest k from n.node h body → OfCall way h body
  of-call way credits h from body peer number life end s =
      let us : record { node = n.node; life = h.to_life } ≡ n =
      ap (λ (w : ℕ). record { node = n.node; life = w }) life in
      let mine : k.ends n h.session 0 ≡ Some
      (record { home = peer_of way; client = way.other; credits = credits }) =
      subst (λ (t : ℕ). k.ends n t 0 ≡ Some
      (record { home = peer_of way; client = way.other; credits = credits })) number end in
      let sender : Endpoint = record { node = from; life = s.life } in
      let there : End = record { home = sender; client = s.session; credits = s.credits } in
      let told : k.ends n h.session 0 ≡ Some there =
      subst (λ (m : Endpoint). k.ends m h.session 0 ≡ Some there) us s.end in
      let both = ends-same there
      (record { home = peer_of way; client = way.other; credits = credits }) (sym told ∙ mine) in
      let same : s.session ≡ way.other = both.1 in
      record {
        start = s.start;
        begun = subst (λ (m : Endpoint). k.starts m way.other h.request ≡ Some s.start) both.0
            (subst (λ (c : ℕ). k.starts sender c h.request ≡ Some s.start) same s.begun);
        way_is = s.way ∙ (ap (λ (c : ℕ). record {
          number = c;
          peer = n.node;
          other = h.session;
          life = h.to_life;
        }) same ∙ (ap (λ (t : ℕ). record {
          number = way.other;
          peer = n.node;
          other = t;
          life = h.to_life;
        }) (sym number) ∙ ap (λ (w : ℕ). record {
          number = way.other;
          peer = n.node;
          other = way.number;
          life = w;
        }) life));
        req_type = s.req_type;
        size = s.size;
        piece = s.piece;
      }

  first-good : (way : Way) (h : MessageHeader) (body : List ℕ) → h.number ≡ 0 → OfCall way h body
      → GoodServed k n way (first_packet h.request h body)
  first-good way h body zero s =
      let first : body ≡ part s.start.what.ask 0 = s.piece ∙ ap (part s.start.what.ask) zero in
      record {
        start = s.start;
        begun = s.begun;
        way_is = s.way_is;
        req_type = s.req_type;
        size = s.size;
        ask = first ∙ part-front s.start.what.ask 0;
        answer = tt;
      }

  -- the bytes went away only from a whole request
  away-by : (working : Bool) (answer : Option (List ℕ)) (q : Served) → q.working ≡ working
      → q.answer ≡ answer → SlotRight q → (working || not (is_none answer)) ≡ true
      → packet_count q.size ≤ q.taken
  away-by true answer q e f s h = (s.working e).0
  away-by false None q e f s h = cc
  away-by false (Some a) q e f s h = (subst (λ (o : Option (List ℕ)). TakenRight q.taken q.size o) f s.taken).0

  here-by : (q : Served) (b : Bool) → is_away q ≡ b → SlotRight q → q.taken < packet_count q.size → b ≡ false
  here-by q true e s lt = let le = away-by q.working q.answer q refl refl s e in absurd (omega arith)
  here-by q false e s lt = refl

  next-request : (way : Way) (h : MessageHeader) (body : List ℕ) (q : Served) → q.number ≡ h.request
      → h.number ≡ q.taken → is_away q ≡ false → OfCall way h body → GoodServed k n way q
      → GoodServed k n way (next_packet body q)
  next-request way h body q number taken here s g =
      let mine = g.begun in
      let told : k.starts (peer_of way) way.other q.number ≡ Some s.start =
      subst (λ (r : ℕ). k.starts (peer_of way) way.other r ≡ Some s.start)
      (sym number) s.begun in
      let same : s.start ≡ g.start = cc in
      let piece : body ≡ part g.start.what.ask q.taken =
      s.piece ∙ (ap (λ (b : Begin). part b.what.ask h.number) same
      ∙ ap (part g.start.what.ask) taken) in
      let was : q.ask ≡ take (1024 * q.taken) g.start.what.ask =
      g.ask ∙ ap (λ (b : Bool). cond b [] (take (1024 * q.taken) g.start.what.ask)) here in
      let joined : q.ask ++ body ≡ take (1024 * q.taken) g.start.what.ask ++ part g.start.what.ask
      q.taken = ap (λ (x : List ℕ). x ++ body) was
      ∙ ap (λ (y : List ℕ). take (1024 * q.taken) g.start.what.ask ++ y) piece in
      let now : q.ask ++ body ≡ cond (is_away q) [] (take (1024 * (q.taken + 1)) g.start.what.ask) =
      joined ∙ (part-front g.start.what.ask q.taken
      ∙ sym (ap (λ (b : Bool). cond b [] (take (1024 * (q.taken + 1)) g.start.what.ask))
      here)) in
      record {
        start = g.start;
        begun = g.begun;
        way_is = g.way_is;
        req_type = g.req_type;
        size = g.size;
        ask = now;
        answer = g.answer;
      }

  next-rfr : (way : Way) (body : List ℕ) (q : Served) → body ≡ [] → packet_count q.size ≤ q.taken
      → GoodServed k n way q → GoodServed k n way (next_packet body q)
  next-rfr way body q none past g =
      let count : packet_count (length g.start.what.ask) ≤ q.taken =
      subst (λ (s : ℕ). packet_count s ≤ q.taken) g.size past in
      let more : packet_count (length g.start.what.ask) ≤ q.taken + 1 = omega arith in
      let whole : take (1024 * q.taken) g.start.what.ask
      ≡ take (1024 * (q.taken + 1)) g.start.what.ask =
      front-whole g.start.what.ask q.taken count
      ∙ sym (front-whole g.start.what.ask (q.taken + 1) more) in
      let joined : q.ask ++ body ≡ q.ask = ap (λ (y : List ℕ). q.ask ++ y) none ∙ append-nil q.ask in
      record {
        start = g.start;
        begun = g.begun;
        way_is = g.way_is;
        req_type = g.req_type;
        size = g.size;
        ask =
            joined ∙ (g.ask ∙ ap (λ (x : List ℕ). cond (is_away q) [] x) whole);
        answer = g.answer;
      }

  -- what is known where a packet is taken
  pub record Taken (way : Way) (credits : ℕ) (h : MessageHeader) (from : ℕ)
      (body : List ℕ) : Type 0 where
    pub peer : from ≡ way.peer
    pub number : way.number ≡ h.session
    pub life : h.to_life ≡ n.life
    pub end : k.ends n way.number 0 ≡ Some
        (record { home = peer_of way; client = way.other; credits = credits })
    pub says : Says h.kind k from n.node h body
    pub reads : Readable h body

  next-good : (kind : Kind) (way : Way) (credits : ℕ) (h : MessageHeader) (from : ℕ) (body : List ℕ)
      (q : Served)
      → h.kind ≡ kind → from ≡ way.peer → way.number ≡ h.session → h.to_life ≡ n.life
      → k.ends n way.number 0 ≡ Some (record {
        home = peer_of way;
        client = way.other;
        credits = credits;
      })
      → Says kind k from n.node h body → (h.kind ≡ Rfr → body ≡ []) → q.number ≡ h.request
      → h.number ≡ q.taken → GoesOn kind q h → (kind ≡ Request → h.number < packet_count h.size)
      → SlotRight q → GoodServed k n way q → GoodServed k n way (next_packet body q)
  next-good Request way credits h from body q is peer number life end s none of_request taken goes
      low right g =
      let lt = low refl in
      let size : packet_count h.size ≡ packet_count q.size = ap packet_count goes.1 in
      let less : q.taken < packet_count q.size = omega arith in
      next-request way h body q of_request taken (here-by q _ refl right less)
      (of-call way credits h from body peer number life end s) g
  next-good Rfr way credits h from body q is peer number life end s none of_request taken goes low
      right g =
      let low = goes.0 in
      let past : packet_count q.size ≤ q.taken = omega arith in
      next-rfr way body q (none is) past g
  next-good Cr way credits h from body q is peer number life end s none of_request taken goes low
      right g = absurd goes
  next-good Response way credits h from body q is peer number life end s none of_request taken goes
      low right g = absurd goes

  request-says : (kind : Kind) (from : ℕ) (h : MessageHeader) (body : List ℕ) → kind ≡ Request
      → Says kind k from n.node h body → SaysRequest k from n.node h body
  request-says Request from h body e s = s
  request-says Rfr from h body e s = cc
  request-says Cr from h body e s = cc
  request-says Response from h body e s = cc

  took-good : (going : Option Served) (way : Way) (credits : ℕ) (slots : List Served)
      (h : MessageHeader)
      (from : ℕ) (body : List ℕ) → Taken way credits h from body → TakesOf going slots h
      → AllByRecursion SlotRight slots → AllByRecursion (GoodServed k n way) slots
      → AllByRecursion (GoodServed k n way) (took_packet h.request (Some h) body slots)
  took-good None way credits slots h from body t m right g =
      let none : list_any (is_request h.request) slots ≡ false = m.2 in
      let first = first-good way h body m.1 (of-call way credits h from body t.peer t.number t.life t.end
      (request-says h.kind from h body m.0 t.says)) in
      rw none (all-add (GoodServed k n way) (without_first (in_slot_of h.request) slots)
      (first_packet h.request h body) (all-without (GoodServed k n way)
      (in_slot_of h.request) slots g) first)
  took-good (Some q) way credits slots h from body t m right g =
      let any : list_any (is_request h.request) slots ≡ true = any-find (is_request h.request) slots q m.0 in
      let number = eqb-true q.number h.request (find-passes (is_request h.request) slots q m.0) in
      rw any (all-first (GoodServed k n way) (GoodServed k n way) (is_request h.request)
      (next_packet body) slots (λ z z_good. z_good)
      (λ z is z_good. let found = m.0 in
      let same : q ≡ z = cc in
      subst (λ (y : Served). GoodServed k n way y → GoodServed k n way (next_packet body y)) same
      (next-good h.kind way credits h from body q refl t.peer t.number t.life t.end t.says
      t.reads.none number
      m.1 m.2 t.reads.low (all-found SlotRight (is_request h.request) slots q right m.0))
      z_good) g)

-- what is known becomes more
module _ (j k : Known) (n : Endpoint) (later : Later j k) where
  -- a request becomes a job
  given-good : (way : Way) (q : Served) → GoodServed j n way q → GoodServed j n way (given q)
  given-good way q g = record {
    start = g.start;
    begun = g.begun;
    way_is = g.way_is;
    req_type = g.req_type;
    size = g.size;
    ask = refl;
    answer = g.answer;
  }

  -- the session that is found changes its slots
  pub slots-first : (t : ℕ) (change : List Served → List Served) (xs : List Server) (v : Server)
      → find (is_server t) xs ≡ Some v
      → (AllByRecursion (GoodServed j n v.way) v.slots
      → AllByRecursion (GoodServed k n v.way) (change v.slots)) → AllByRecursion (GoodServer j n) xs
      → AllByRecursion (GoodServer k n) (at_first (is_server t)
      (λ v. record v { slots = change v.slots }) xs)
  slots-first t change xs v found f g =
      all-first (GoodServer j n) (GoodServer k n) (is_server t)
      (λ v. record v { slots = change v.slots }) xs (server-later j k later n)
      (λ z is h. let same : v ≡ z = cc in
      let slots : AllByRecursion (GoodServed k n z.way) (change z.slots) =
      subst (λ (y : Server). AllByRecursion (GoodServed j n y.way) y.slots
      → AllByRecursion (GoodServed k n y.way) (change y.slots)) same f h.slots in
      record {
        session = session-later j k later n z.way.number (peer_of z.way) z.way.other z.credits h.session;
        slots = slots;
      }) g

  pub servers-quiet : (hand : Option InFlight) (l : Lists) (e : Event) (first second : List ℕ)
      → is_quiet e ≡ true → l.life ≡ n.life → May hand l e first second → SlotsRight l.servers
      → AllByRecursion (λ a. Speaks j a.peer n.node a.bytes) l.ring
      → AllByRecursion (GoodServer j n) l.servers
      → AllByRecursion (GoodServer k n) (servers_after e second (front_header l.ring)
      (front_body l.ring) l.servers)
  servers-quiet hand l (PairedServer t peer s credits life) first second quiet life_is m right ring g =
      absurd (cc)
  servers-quiet hand l (Accepted t peer s credits life) first second quiet life_is m right ring g = absurd (cc)
  servers-quiet hand l (Ended t) first second quiet life_is m right ring g =
      all-without (GoodServer k n) (is_server t) l.servers (servers-later j k later n l.servers g)
  servers-quiet hand l (Took (Ask s r) i) first second quiet life_is m right ring g =
      servers-later j k later n l.servers g
  servers-quiet hand l (Took Control i) first second quiet life_is m right ring g =
      servers-later j k later n l.servers g
  servers-quiet hand l (Took (Reply t r) i) first second quiet life_is m right ring g =
      let v = m.server in
      let at = server-at j n l.servers t v g m.found in
      let good = at.0 in
      let here : AllByRecursion SlotRight v.slots =
      all-found (λ v. AllByRecursion SlotRight v.slots)
      (is_server t) l.servers v right m.found in
      let taken : Taken j n v.way v.credits m.header m.front.peer (front_body l.ring) = record {
        peer = m.of_peer;
        number = at.1 ∙ m.of_session;
        life = m.is_front.for_us ∙ life_is;
        end = good.session.end;
        says = front-says j n l m.front m.header m.is_front ring;
        reads = front-right l m.header m.is_front.reads;
      } in
      slots-first t (took_packet r (front_header l.ring) (front_body l.ring)) l.servers v m.found
      (λ slots. rw (m.is_front.reads, m.of_request)
      (all-map _ _ _ (served-later j k later n v.way)
      (took-good j n m.going v.way v.credits v.slots m.header m.front.peer (front_body l.ring) taken
      m.takes here slots))) g
  servers-quiet hand l (Given t r) first second quiet life_is m right ring g =
      let w = m.has in
      let v = w.server in
      slots-first t (at_first (is_request r) given) l.servers v w.found
      (λ slots. all-first (GoodServed j n v.way) (GoodServed k n v.way)
      (is_request r) given v.slots (served-later j k later n v.way)
      (λ z is z_good. served-later j k later n v.way (given z) (given-good v.way z z_good)) slots) g
  servers-quiet hand l (Ran t r y) first second quiet life_is m right ring g = absurd (cc)
  servers-quiet hand l _ first second quiet life_is m right ring g = servers-later j k later n l.servers g
