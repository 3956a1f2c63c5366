-- Each datagram that is in flight or in a ring is of an unanswered packet.
use Rattle.std.proofs.Common.{None, false, true, Bool}
use Rattle.std.proofs.Common.{sym}
use Rattle.std.proofs.Common.{find}
use Rattle.std.proofs.Common.{inl, is_some}
use Rattle.std.proofs.Common.{◌≡◌, ◌+◌, ◌≤◌, ◌==◌, ◌&&◌, ℕ, zero, suc, Bool, true, false, not, cond}
use Rattle.std.proofs.Common.{List, [], ◌∷◌, Option, Some, slice_get, refl, ap, ◌∙◌, subst, arith}
use Rattle.std.proofs.Common.{eq-eqb, length, ◌-◌}
use Rattle.std.specs.Prelude.{count_by}
use Rattle.std.specs.Bool.{MatchBool}
use Rattle.std.proofs.lemmas.Bool.{and_from}
use Rattle.std.proofs.lemmas.List.Sums.{sum_by-cons}
use Rattle.packet_header.specs.Reading.{message_of}
use Rattle.packet_header.specs.declared.packet.MessageHeader.{MessageHeader}
use Rattle.rpc_laws.specs.declared.tables.Arrival.{Arrival}
use Rattle.rpc_laws.specs.declared.tables.Client.{Client}
use Rattle.rpc_laws.specs.declared.tables.InFlight.{InFlight}
use Rattle.rpc_laws.specs.declared.tables.Job.{Job}
use Rattle.rpc_laws.specs.declared.tables.Lists.{Lists}
use Rattle.rpc_laws.specs.declared.tables.Server.{Server}
use Rattle.packet_header.specs.Parts.{packet_count}
use Rattle.rpc_base.specs.declared.owner.Owner.{Owner}
use Rattle.rpc_base.specs.declared.owner.Owner.TheVariants.{Ask, Reply, Control}
use Rattle.rpc_laws.specs.Lives.{first_life}
use Rattle.rpc_laws.specs.Queues.{is_queued}
use Rattle.end_laws.specs.Kinds.{is_ask}
use Rattle.end_laws.specs.Moments.{Moment}
use Rattle.end_laws.specs.TwoEnds.{here}
use Rattle.end_laws.proofs.TwoEndsLaw.{placed-all}
use Rattle.ring_laws.specs.PairsOnce.{is_asking, is_replying, is_job_of, AreEndsOf, IsOpen}
use Rattle.ring_laws.specs.PairsOnce.{IsOpenAt, IsOpenOwner, IsOpenJob, IsTidy}
use Rattle.rpc_laws.specs.declared.tables.Call.{Call}
use Rattle.rpc_laws.specs.declared.tables.Way.{Way}
use Rattle.rpc_laws.specs.declared.tables.Queued.{Queued}
use Rattle.rpc_laws.specs.Calls.{is_active}
use Rattle.rpc_laws.specs.Front.{is_message}
use Rattle.rpc_laws.specs.Requests.{is_request}
use Rattle.rpc_laws.specs.Sessions.{is_client, is_connected}
use Rattle.rpc_base.proofs.BasicLemmas.{false-true}
use Rattle.rpc_base.proofs.PlaceLemmas.{all-at}
use Rattle.node_laws.specs.Valid.{client_no}
use Rattle.node_laws.specs.Windows.{InWindow, Inside, Stands}
use Rattle.node_laws.proofs.NumberLemmas.{numbered-get}
use Rattle.end_laws.proofs.Allowed.{is_packet}
use Rattle.end_laws.proofs.Known.{GoodJob, is_joined, IsUnjoined, Tied}
use Rattle.end_laws.proofs.Valids.{AllValid}
use Rattle.ring_laws.proofs.Counting.{value}
use Rattle.ring_laws.proofs.Coverage.{count-one, is-asking, joined-ends, Met, server-end}
use Rattle.ring_laws.proofs.Loads.{all, ask_to, asks, client_packets, Filter, load, own_ask, own_job, own_reply}
use Rattle.ring_laws.proofs.Loads.{replies, reply_to, server_packets}
use Rattle.ring_laws.proofs.QueuedReplies.{AllRepliesStand, replies-to}
use Rattle.ring_laws.proofs.FirstLives.{first, joined-first}
use Rattle.ring_laws.proofs.Standing.{Comes, EndOf, FitsIn, JoinedTo, slot-joined, started-at}
use Rattle.ring_laws.proofs.PairPlaces.{Pairs, StandsIn, stands-once}

count-cons : {A : Type 0} (p : A → Bool) (x : A) (xs : List A) → count_by p (x ∷ xs) ≡ cond (p x) 1 0 + count_by p xs
count-cons p x xs = sum_by-cons (λ x. cond (p x) 1 0) x xs

-- one that passes is counted
counted : {A : Type 0} (p : A → Bool) (xs : List A) (i : ℕ) (x : A) → slice_get xs i ≡ Some x
    → p x ≡ true → 1 ≤ count_by p xs
counted p [] i x is t = cc
counted p (y ∷ ys) zero x is t =
    let same : y ≡ x = cc in
    let one : cond {A = ℕ} (p y) 1 0 ≡ 1 = ap {B = ℕ} (λ (b : Bool). cond b 1 0) (ap p same ∙ t) in
    omega (arith, count-cons p y ys)
counted p (y ∷ ys) (suc i) x is t = omega (arith, count-cons p y ys, counted p ys i x is t)

-- the session of a datagram
pub record OfSession (u : Moment) (to : ℕ) (asks : Bool) (session : ℕ) : Type 0 where
  pub home : ℕ
  pub number : ℕ
  pub client : Lists
  pub item : Client
  pub node : ℕ
  pub other : ℕ
  pub server : Lists
  pub end : Server
  pub ends : AreEndsOf u home number client item node other server end
  pub connected : is_connected item.state ≡ true
  pub comes : MatchBool asks ((to ≡ node) × (session ≡ other)) ((to ≡ home) × (session ≡ number))

module _ (u : Moment) (met : Met u) (valid : AllValid u) (pairs : Pairs met.good.known u) where
  -- the session of what is on its way
  of-ask : (from to s t : ℕ) → JoinedTo u.nodes from s to t → 1 ≤ load all (joined-ends from s to t) u
      → OfSession u to true t
  of-ask from to s t j some =
      let state = is-asking u valid met from s to t j some in
      let e = server-end u met from s to t j state in
      record {
        home = from;
        number = s;
        client = j.lists;
        item = j.client;
        node = to;
        other = t;
        server = e.lists;
        end = e.server;
        ends = record {
          is_client = j.is_node;
          client_there = j.is_there;
          is_server = e.is_node;
          server_there = e.found;
          peer = j.peer;
          other = j.other;
          peer_life = j.life ∙ sym (met.lives.nodes to e.lists e.is_node);
          home = e.home;
          number = e.client;
          home_life = e.home_life ∙ sym (met.lives.nodes from j.lists j.is_node);
        };
        connected = state;
        comes = (refl, refl);
      }

  of-reply : (from to s t : ℕ) → JoinedTo u.nodes to s from t → 1 ≤ load all (joined-ends to s from t) u
      → OfSession u to false s
  of-reply from to s t j some =
      let state = is-asking u valid met to s from t j some in
      let e = server-end u met to s from t j state in
      record {
        home = to;
        number = s;
        client = j.lists;
        item = j.client;
        node = from;
        other = t;
        server = e.lists;
        end = e.server;
        ends = record {
          is_client = j.is_node;
          client_there = j.is_there;
          is_server = e.is_node;
          server_there = e.found;
          peer = j.peer;
          other = j.other;
          peer_life = j.life ∙ sym (met.lives.nodes from e.lists e.is_node);
          home = e.home;
          number = e.client;
          home_life = e.home_life ∙ sym (met.lives.nodes to j.lists j.is_node);
        };
        connected = state;
        comes = (refl, refl);
      }

  self : (n : ℕ) → (n == n) ≡ true
  self n = eq-eqb n n refl

  asking : (h : MessageHeader) (t : ℕ) → is_ask h.kind ≡ true → h.session ≡ t
      → is_asking t h.request h.number (Some h) ≡ true
  asking h t kind same =
      and_from (is_ask h.kind) _ kind (and_from (h.session == t) _ (eq-eqb h.session t same)
      (and_from (h.request == h.request) (h.number == h.number) (self h.request) (self h.number)))

  replying : (h : MessageHeader) (s : ℕ) → is_ask h.kind ≡ false → h.session ≡ s
      → is_replying s h.request h.number (Some h) ≡ true
  replying h s kind same =
      and_from (not (is_ask h.kind)) _ (ap not kind)
      (and_from (h.session == s) _ (eq-eqb h.session s same)
      (and_from (h.request == h.request) (h.number == h.number) (self h.request) (self h.number)))

  -- a copy in flight
  open-flight : (i : ℕ) (c : InFlight) (h : MessageHeader) (b : Bool)
      → slice_get u.flight i ≡ Some c → message_of c.bytes ≡ Some h → is_ask h.kind ≡ b
      → OfSession u c.to b h.session → IsOpen u c.to c.bytes
  open-flight i c h true is reads kind o =
      let to = o.comes.0 in
      let session = o.comes.1 in
      let once = stands-once u met.good met.lives met.comes valid pairs
      o.home o.number o.client o.item o.node o.other o.server
      o.end o.ends h.request h.number in
      let passes : (c.to == o.node && is_asking o.other h.request h.number (message_of c.bytes))
      ≡ true = and_from (c.to == o.node) _ (eq-eqb c.to o.node to)
      (ap (is_asking o.other h.request h.number) reads ∙ asking h o.other kind session) in
      let here = counted (λ (c : InFlight). c.to == o.node
      && is_asking o.other h.request h.number (message_of c.bytes)) u.flight i c is
      passes in
      record {
        header = h;
        reads = reads;
        home = o.home;
        number = o.number;
        client = o.client;
        session = o.item;
        node = o.node;
        other = o.other;
        server = o.server;
        end = o.end;
        ends =
            o.ends;
        connected = o.connected;
        comes = rw kind (to, session);
        unanswered = once.unanswered (omega arith);
      }
  open-flight i c h false is reads kind o =
      let to = o.comes.0 in
      let session = o.comes.1 in
      let once = stands-once u met.good met.lives met.comes valid pairs
      o.home o.number o.client o.item o.node o.other o.server
      o.end o.ends h.request h.number in
      let passes : (c.to == o.home && is_replying o.number h.request h.number
      (message_of c.bytes)) ≡ true = and_from (c.to == o.home) _ (eq-eqb c.to o.home to)
      (ap (is_replying o.number h.request h.number) reads
      ∙ replying h o.number kind session) in
      let here = counted (λ (c : InFlight). c.to == o.home
      && is_replying o.number h.request h.number (message_of c.bytes)) u.flight i c is
      passes in
      record {
        header = h;
        reads = reads;
        home = o.home;
        number = o.number;
        client = o.client;
        session = o.item;
        node = o.node;
        other = o.other;
        server = o.server;
        end = o.end;
        ends =
            o.ends;
        connected = o.connected;
        comes = rw kind (to, session);
        unanswered = once.unanswered (omega arith);
      }

  -- an arrival in a ring
  open-ring : (n : ℕ) (l : Lists) (i : ℕ) (a : Arrival) (h : MessageHeader) (b : Bool)
      → slice_get u.nodes n ≡ Some l → slice_get l.ring i ≡ Some a → message_of a.bytes ≡ Some h
      → is_ask h.kind ≡ b → OfSession u n b h.session → IsOpen u n a.bytes
  open-ring n l i a h true node is reads kind o =
      let to = o.comes.0 in
      let session = o.comes.1 in
      let once = stands-once u met.good met.lives met.comes valid pairs
      o.home o.number o.client o.item o.node o.other o.server
      o.end o.ends h.request h.number in
      let again : slice_get u.nodes n ≡ Some o.server = ap (slice_get u.nodes) to ∙ o.ends.is_server in
      let same : l ≡ o.server = cc in
      let at : slice_get o.server.ring i ≡ Some a = subst (λ (z : Lists). slice_get z.ring i ≡ Some a) same is in
      let here = counted (λ (a : Arrival). is_asking o.other h.request h.number
      (message_of a.bytes)) o.server.ring i a
      at (ap (is_asking o.other h.request h.number) reads
      ∙ asking h o.other kind session) in
      record {
        header = h;
        reads = reads;
        home = o.home;
        number = o.number;
        client = o.client;
        session = o.item;
        node = o.node;
        other = o.other;
        server = o.server;
        end = o.end;
        ends =
            o.ends;
        connected = o.connected;
        comes = rw kind (to, session);
        unanswered = once.unanswered (omega arith);
      }
  open-ring n l i a h false node is reads kind o =
      let to = o.comes.0 in
      let session = o.comes.1 in
      let once = stands-once u met.good met.lives met.comes valid pairs
      o.home o.number o.client o.item o.node o.other o.server
      o.end o.ends h.request h.number in
      let again : slice_get u.nodes n ≡ Some o.client = ap (slice_get u.nodes) to ∙ o.ends.is_client in
      let same : l ≡ o.client = cc in
      let at : slice_get o.client.ring i ≡ Some a = subst (λ (z : Lists). slice_get z.ring i ≡ Some a) same is in
      let here = counted (λ (a : Arrival). is_replying o.number h.request h.number
      (message_of a.bytes)) o.client.ring i a
      at (ap (is_replying o.number h.request h.number) reads
      ∙ replying h o.number kind session) in
      record {
        header = h;
        reads = reads;
        home = o.home;
        number = o.number;
        client = o.client;
        session = o.item;
        node = o.node;
        other = o.other;
        server = o.server;
        end = o.end;
        ends =
            o.ends;
        connected = o.connected;
        comes = rw kind (to, session);
        unanswered = once.unanswered (omega arith);
      }

  -- an entry of a queue
  open-ask : (n : ℕ) (l : Lists) (i s r k : ℕ) (due : Option ℕ) → slice_get u.nodes n ≡ Some l
      → slice_get l.queued i ≡ Some (record { owner = Ask s r; number = k; due = due })
      → OfSession u n false s → IsOpenAt u true n s r k
  open-ask n l i s r k due node is o =
      let to = o.comes.0 in
      let session = o.comes.1 in
      let once = stands-once u met.good met.lives met.comes valid pairs
      o.home o.number o.client o.item o.node o.other o.server
      o.end o.ends r k in
      let again : slice_get u.nodes n ≡ Some o.client = ap (slice_get u.nodes) to ∙ o.ends.is_client in
      let same : l ≡ o.client = cc in
      let at : slice_get o.client.queued i ≡ Some
      (record { owner = Ask s r; number = k; due = due }) =
      subst (λ (z : Lists). slice_get z.queued i
      ≡ Some (record { owner = Ask s r; number = k; due = due })) same is in
      let passes : is_queued (Ask o.number r) k
      (record { owner = Ask s r; number = k; due = due }) ≡ true =
      and_from (s == o.number && r == r) (k == k)
      (and_from (s == o.number) (r == r) (eq-eqb s o.number session) (self r)) (self k) in
      let here = counted (is_queued (Ask o.number r) k) o.client.queued i _ at passes in
      record {
        home = o.home;
        session = o.number;
        client = o.client;
        item = o.item;
        node = o.node;
        other = o.other;
        server = o.server;
        end = o.end;
        ends = o.ends;
        connected = o.connected;
        here =
            (to, session);
        unanswered = once.unanswered (omega arith);
      }

  open-reply : (n : ℕ) (l : Lists) (i t r k : ℕ) (due : Option ℕ) → slice_get u.nodes n ≡ Some l
      → slice_get l.queued i ≡ Some (record { owner = Reply t r; number = k; due = due })
      → OfSession u n true t → IsOpenAt u false n t r k
  open-reply n l i t r k due node is o =
      let to = o.comes.0 in
      let session = o.comes.1 in
      let once = stands-once u met.good met.lives met.comes valid pairs
      o.home o.number o.client o.item o.node o.other o.server
      o.end o.ends r k in
      let again : slice_get u.nodes n ≡ Some o.server = ap (slice_get u.nodes) to ∙ o.ends.is_server in
      let same : l ≡ o.server = cc in
      let at : slice_get o.server.queued i ≡ Some
      (record { owner = Reply t r; number = k; due = due }) =
      subst (λ (z : Lists). slice_get z.queued i
      ≡ Some (record { owner = Reply t r; number = k; due = due })) same is in
      let passes : is_queued (Reply o.other r) k
      (record { owner = Reply t r; number = k; due = due }) ≡ true =
      and_from (t == o.other && r == r) (k == k)
      (and_from (t == o.other) (r == r) (eq-eqb t o.other session) (self r)) (self k) in
      let here = counted (is_queued (Reply o.other r) k) o.server.queued i _ at passes in
      record {
        home = o.home;
        session = o.number;
        client = o.client;
        item = o.item;
        node = o.node;
        other = o.other;
        server = o.server;
        end = o.end;
        ends = o.ends;
        connected = o.connected;
        here =
            (to, session);
        unanswered = once.unanswered (omega arith);
      }

  -- a job
  open-job : (n : ℕ) (l : Lists) (i : ℕ) (j : Job) → slice_get u.nodes n ≡ Some l
      → slice_get l.jobs.out i ≡ Some j → OfSession u n true j.session → IsOpenJob u n j
  open-job n l i j node is o =
      let to = o.comes.0 in
      let session = o.comes.1 in
      let r = j.request in
      let k = packet_count (length j.ask) - 1 in
      let once = stands-once u met.good met.lives met.comes valid pairs
      o.home o.number o.client o.item o.node o.other o.server
      o.end o.ends r k in
      let again : slice_get u.nodes n ≡ Some o.server = ap (slice_get u.nodes) to ∙ o.ends.is_server in
      let same : l ≡ o.server = cc in
      let at : slice_get o.server.jobs.out i ≡ Some j =
      subst (λ (z : Lists). slice_get z.jobs.out i ≡ Some j) same is in
      let passes : is_job_of o.other r k j ≡ true =
      and_from (j.session == o.other) _ (eq-eqb j.session o.other session)
      (and_from (j.request == r) (packet_count (length j.ask) - 1 == k) (self r)
      (self k)) in
      let here = counted (is_job_of o.other r k) o.server.jobs.out i j at passes in
      record {
        home = o.home;
        session = o.number;
        client = o.client;
        item = o.item;
        node = o.node;
        other = o.other;
        server = o.server;
        end = o.end;
        ends = o.ends;
        connected = o.connected;
        here =
            (to, session);
        unanswered = once.unanswered (omega arith);
      }

  asks-all : (life t : ℕ) (bytes : List ℕ) (h : MessageHeader) → message_of bytes ≡ Some h
      → is_ask h.kind ≡ true → h.to_life ≡ life → h.session ≡ t
      → asks all life t (message_of bytes) ≡ true
  asks-all life t bytes h reads kind goes session =
      ap (asks all life t) reads ∙ and_from (is_ask h.kind) _ kind
      (and_from (h.to_life == life) _ (eq-eqb h.to_life life goes)
      (and_from (h.session == t) true (eq-eqb h.session t session) refl))

  replies-all : (life s : ℕ) (bytes : List ℕ) (h : MessageHeader) → message_of bytes ≡ Some h
      → is_ask h.kind ≡ false → h.to_life ≡ life → h.session ≡ s
      → replies all life s (message_of bytes) ≡ true
  replies-all life s bytes h reads kind goes session =
      ap (replies all life s) reads ∙ and_from (not (is_ask h.kind)) _ (ap not kind)
      (and_from (h.to_life == life) _ (eq-eqb h.to_life life goes)
      (and_from (h.session == s) true (eq-eqb h.session s session) refl))

  flight-session : (i : ℕ) (c : InFlight) (h : MessageHeader) (b : Bool) → slice_get u.flight i ≡ Some c
      → message_of c.bytes ≡ Some h → is_ask h.kind ≡ b → h.to_life ≡ first_life
      → EndOf u.nodes c.from c.to b h.session → OfSession u c.to b h.session
  flight-session i c h true is reads kind life end =
      let t = h.session in
      let passes : ask_to all c.to first_life t c ≡ true =
      and_from (c.to == c.to) _ (self c.to) (asks-all first_life t c.bytes h reads kind life refl) in
      let here = count-one (ask_to all c.to first_life t) u.flight i c is passes in
      of-ask c.from c.to end.0 t end.1 (omega arith)
  flight-session i c h false is reads kind life end =
      let s = h.session in
      let passes : reply_to all c.to first_life s c ≡ true =
      and_from (c.to == c.to) _ (self c.to)
      (replies-all first_life s c.bytes h reads kind life refl) in
      let here = count-one (reply_to all c.to first_life s) u.flight i c is passes in
      of-reply c.from c.to s end.0 end.1 (omega arith)

  ring-session : (n : ℕ) (l : Lists) (i : ℕ) (a : Arrival) (h : MessageHeader) (b : Bool)
      → slice_get u.nodes n ≡ Some l → slice_get l.ring i ≡ Some a → message_of a.bytes ≡ Some h
      → is_ask h.kind ≡ b → h.to_life ≡ l.life → EndOf u.nodes a.peer n b h.session
      → OfSession u n b h.session
  ring-session n l i a h true node is reads kind life end =
      let t = h.session in
      let here = count-one (λ (z : Arrival). asks all l.life t (message_of z.bytes)) l.ring i a is
      (asks-all l.life t a.bytes h reads kind life refl) in
      let part : value (server_packets all t) (slice_get u.nodes n) ≡ server_packets all t l =
      ap (value (server_packets all t)) node in
      of-ask a.peer n end.0 t end.1 (omega arith)
  ring-session n l i a h false node is reads kind life end =
      let s = h.session in
      let here = count-one (λ (z : Arrival). replies all l.life s (message_of z.bytes)) l.ring i a
      is (replies-all l.life s a.bytes h reads kind life refl) in
      let part : value (client_packets all s) (slice_get u.nodes n) ≡ client_packets all s l =
      ap (value (client_packets all s)) node in
      of-reply a.peer n s end.0 end.1 (omega arith)

  -- a client session with a packet queued is joined
  none-node : (s n : ℕ) → ((a b : ℕ) → JoinedTo u.nodes n s a b → ⊥)
      → FitsIn met.good.known u.nodes (joined-ends n s (length u.nodes) 0)
  none-node s n none_joined = record {
    server = λ e is. let none = met.good.unmade.ends (first (length u.nodes)) 0
        (inl (omega arith)) in absurd (cc);
    client = λ a b j. absurd (none_joined a b j);
    home_life = refl;
    node_life = refl;
  }

  queued-here : (n : ℕ) (l : Lists) (i s r k m t : ℕ) (due : Option ℕ) → slice_get u.nodes n ≡ Some l
      → slice_get l.queued i ≡ Some (record { owner = Ask s r; number = k; due = due }) → (p : Filter)
      → p r k ≡ true → 1 ≤ load p (joined-ends n s m t) u
  queued-here n l i s r k m t due node at p passes =
      let one : own_ask p s (Ask s r) k ≡ true = and_from (s == s) (p r k) (self s) passes in
      let here = count-one (λ (q : Queued). own_ask p s q.owner q.number) l.queued i _ at one in
      let part : value (client_packets p s) (slice_get u.nodes n) ≡ client_packets p s l =
      ap (value (client_packets p s)) node in
      omega arith

  window-of : (n : ℕ) (l : Lists) (i s r k : ℕ) (due : Option ℕ) → slice_get u.nodes n ≡ Some l
      → slice_get l.queued i ≡ Some (record { owner = Ask s r; number = k; due = due })
      → ((a b : ℕ) → JoinedTo u.nodes n s a b → ⊥) → InWindow l.clients (Ask s r) k
  window-of n l i s r k due node at none_joined =
      let x = joined-ends n s (length u.nodes) 0 in
      let own : is_packet r k r k ≡ true = and_from (r == r) (k == k) (self r) (self k) in
      let pair = pairs x (none-node s n none_joined) r k in
      let stands : StandsIn (slice_get u.nodes n) s r k =
      pair.1 (queued-here n l i s r k (length u.nodes) 0 due node at (is_packet r k) own) in
      subst (λ (o : Option Lists). StandsIn o s r k) node stands

  ask-by : (n : ℕ) (l : Lists) (i s r k : ℕ) (due : Option ℕ) (o : Option Client) → slice_get u.nodes n ≡ Some l
      → slice_get l.queued i ≡ Some (record { owner = Ask s r; number = k; due = due })
      → slice_get l.clients s ≡ o → (a : ℕ) × ((b : ℕ) × JoinedTo u.nodes n s a b)
  ask-by n l i s r k due None node at is =
      let inside = window-of n l i s r k due node at (λ a b j. let mine = j.is_node in
      let lists : j.lists ≡ l = cc in
      let there : slice_get l.clients s ≡ Some j.client =
      subst (λ (z : Lists). slice_get z.clients s ≡ Some j.client) lists j.is_there in
      none-client s l.clients j.client is there) in
      absurd (no-window s r k l.clients (sym (numbered-get client_no 0 s s l.clients (valid n l node).numbered (omega arith)) ∙ is) inside)
    where
      none-client : (s : ℕ) (xs : List Client) (c : Client) → slice_get xs s ≡ None → slice_get xs s ≡ Some c → ⊥
      none-client s xs c e f = cc

      no-window : (s r k : ℕ) (xs : List Client) → find (is_client s) xs ≡ None → InWindow xs (Ask s r) k → ⊥
      no-window s r k xs none inside = subst (λ (o : Option Client). Stands k r o) none inside
  ask-by n l i s r k due (Some c) node at is = by (is_joined c.state) refl
    where
      by : (b : Bool) → is_joined c.state ≡ b → (a : ℕ) × ((b : ℕ) × JoinedTo u.nodes n s a b)
      by true e = (
        c.way.peer,
        (
          c.way.other,
          record {
            lists = l;
            is_node = node;
            client = c;
            is_there = is;
            joined = e;
            peer = refl;
            other = refl;
            life = joined-first u met.good met.lives n s l c node is e;
          },
        ),
      )
      by false e =
          let inside = window-of n l i s r k due node at (λ a b j. let mine = j.is_node in
          let lists : j.lists ≡ l = cc in
          let there : slice_get l.clients s ≡ Some j.client =
          subst (λ (z : Lists). slice_get z.clients s ≡ Some j.client) lists j.is_there in
          let same : j.client ≡ c = cc in
          false-true (sym e ∙ (ap (λ (z : Client). is_joined z.state) (sym same) ∙ j.joined))) in
          let tied = ((met.good.nodes n l node).clients s c is).tied in
          let unjoined : IsUnjoined met.good.known (here n l) s c =
          subst (λ (b : Bool). Tied b met.good.known (here n l) s c) e tied in
          let found : find (is_client s) l.clients ≡ Some c =
          sym (numbered-get client_no 0 s s l.clients (valid n l node).numbered (omega arith)) ∙ is in
          let stands : Stands k r (Some c) = subst (λ (o : Option Client). Stands k r o) found inside in
          absurd (no-call r k c unjoined.idle stands)
        where
          no-call : (r k : ℕ) (c : Client) → c.calls ≡ [] → Inside k (find (is_active r) c.calls) → ⊥
          no-call r k c none inside =
              subst (λ (calls : List Call). Inside k (find (is_active r) calls)) none inside

  queued-ask : (n : ℕ) (l : Lists) (i s r k : ℕ) (due : Option ℕ) → slice_get u.nodes n ≡ Some l
      → slice_get l.queued i ≡ Some (record { owner = Ask s r; number = k; due = due })
      → OfSession u n false s
  queued-ask n l i s r k due node at =
      let j = ask-by n l i s r k due (slice_get l.clients s) node at refl in
      of-reply j.0 n s j.1.0 j.1.1 (queued-here n l i s r k j.0 j.1.0 due node at all refl)

  queued-reply : AllRepliesStand u → (n : ℕ) (l : Lists) (i t r k : ℕ) (due : Option ℕ)
      → slice_get u.nodes n ≡ Some l
      → slice_get l.queued i ≡ Some (record { owner = Reply t r; number = k; due = due })
      → OfSession u n true t
  queued-reply stand n l i t r k due node at =
      let to = replies-to l i t r k due (stand n l node) at in
      let j = slot-joined u met.good met.lives n l t (is_request r) to.server to.request node to.found to.is_there in
      let one : own_reply all t (Reply t r) k ≡ true = and_from (t == t) true (self t) refl in
      let here = count-one (λ (q : Queued). own_reply all t q.owner q.number) l.queued i _ at one in
      let part : value (server_packets all t) (slice_get u.nodes n) ≡ server_packets all t l =
      ap (value (server_packets all t)) node in
      of-ask to.server.way.peer n to.server.way.other t j (omega arith)

  job-session : (n : ℕ) (l : Lists) (i : ℕ) (j : Job) → slice_get u.nodes n ≡ Some l
      → slice_get l.jobs.out i ≡ Some j → OfSession u n true j.session
  job-session n l i j node at =
      let good = all-at (GoodJob met.good.known (here n l)) l.jobs.out i j
      (met.good.nodes n l node).jobs at in
      let home = good.end.home.node in
      let began = started-at u met.good met.lives good.end.home good.end.client j.request
      good.start good.begun in
      let peer : good.start.way.peer ≡ n = ap (λ (w : Way). w.peer) good.way_is in
      let other : good.start.way.other ≡ j.session = ap (λ (w : Way). w.other) good.way_is in
      let joined : JoinedTo u.nodes home good.end.client n j.session =
      subst (λ (a : ℕ). JoinedTo u.nodes home good.end.client a j.session) peer
      (subst (λ (a : ℕ). JoinedTo u.nodes home good.end.client good.start.way.peer a) other began) in
      let one : own_job all j.session j ≡ true = and_from (j.session == j.session) true (self j.session) refl in
      let here = count-one (own_job all j.session) l.jobs.out i j at one in
      let part : value (server_packets all j.session) (slice_get u.nodes n) ≡ server_packets all j.session l =
      ap (value (server_packets all j.session)) node in
      of-ask home n good.end.client j.session joined (omega arith)

  open-owner : AllRepliesStand u → (n : ℕ) (l : Lists) (i : ℕ) (o : Owner) (k : ℕ) (due : Option ℕ)
      → slice_get u.nodes n ≡ Some l
      → slice_get l.queued i ≡ Some (record { owner = o; number = k; due = due }) → IsOpenOwner u n o k
  open-owner stand n l i (Ask s r) k due node is = open-ask n l i s r k due node is (queued-ask n l i s r k due node is)
  open-owner stand n l i (Reply t r) k due node is =
      open-reply n l i t r k due node is (queued-reply stand n l i t r k due node is)
  open-owner stand n l i Control k due node is = tt

  header-of : (bytes : List ℕ) → is_message bytes ≡ true → (h : MessageHeader) × (message_of bytes ≡ Some h)
  header-of bytes e = by (message_of bytes) refl e
    where
      by : (o : Option MessageHeader) → message_of bytes ≡ o → is_some o ≡ true
          → (h : MessageHeader) × (message_of bytes ≡ Some h)
      by None same e = false-true e
      by (Some h) same e = (h, same)

  pub is-tidy : AllRepliesStand u → IsTidy u
  is-tidy stand = record {
    once = λ n s client x m i server v e r k.
        stands-once u met.good met.lives met.comes valid pairs
        n s client x m i server v e r k;
    flight = placed-all (λ i c. slice_get u.flight i ≡ Some c) _ u.flight (λ i c is message.
        let comes = all-at (λ (c : InFlight). Comes u.nodes c.from c.to c.bytes) u.flight i c met.comes.flight is in
        let h = header-of c.bytes message in
        open-flight i c h.0 (is_ask h.0.kind) is h.1 refl
        (flight-session i c h.0 (is_ask h.0.kind) is h.1 refl (comes h.0 h.1).0 (comes h.0 h.1).1))
        (λ i c is. is);
    rings = λ n l node. placed-all (λ i a. slice_get l.ring i ≡ Some a) (λ a. IsOpen u n a.bytes) l.ring (λ i a is.
        let comes = all-at (λ (a : Arrival). Comes u.nodes a.peer n a.bytes) l.ring i a (met.comes.rings n l node) is in
        let h = header-of a.bytes (all-at (λ (a : Arrival). is_message a.bytes ≡ true) l.ring i a (met.rings n l node) is) in
        open-ring n l i a h.0 (is_ask h.0.kind) node is h.1 refl
        (ring-session n l i a h.0 (is_ask h.0.kind) node is h.1 refl
        ((comes h.0 h.1).0 ∙ sym (met.lives.nodes n l node)) (comes h.0 h.1).1))
        (λ i a is. is);
    queued = λ n l node. placed-all (λ i q. slice_get l.queued i ≡ Some q)
        (λ q. IsOpenOwner u n q.owner q.number) l.queued (λ i q is.
        open-owner stand n l i q.owner q.number q.due node is) (λ i q is. is);
    jobs = λ n l node. placed-all (λ i j. slice_get l.jobs.out i ≡ Some j) (IsOpenJob u n) l.jobs.out (λ i j is.
        open-job n l i j node is (job-session n l i j node is)) (λ i j is. is);
  }
