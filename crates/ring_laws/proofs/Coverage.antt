-- Each message that is at a node or in hand for it counts for one of its sessions, so that its ring has room.
use Rattle.std.proofs.Common.{◌≡◌, ◌≤◌, ◌+◌, ◌==◌, ◌&&◌, ◌||◌, ◌⊎◌, inl, inr, not}
use Rattle.std.proofs.Common.{ℕ, zero, suc, Bool, true}
use Rattle.std.proofs.Common.{false, cond, List, [], ◌∷◌, ◌++◌, length, Option, Some, None}
use Rattle.std.proofs.Common.{slice_get, refl, sym}
use Rattle.std.proofs.Common.{ap, ◌∙◌, subst, arith}
use Rattle.std.specs.Prelude.{IfSome, is_some}
use Rattle.std.specs.List.{find, AllByRecursion}
use Rattle.std.proofs.lemmas.Bool.{eqb-true, eq-eqb, and_from, and_parts}
use Rattle.std.proofs.lemmas.List.{length-append}
use Rattle.packet_header.specs.Reading.{message_of}
use Rattle.packet_header.specs.declared.packet.MessageHeader.{MessageHeader}
use Rattle.rpc_base.proofs.BasicLemmas.{or-right}
use Rattle.rpc_base.proofs.TakingLemmas.{find-passes}
use Rattle.rpc_laws.specs.declared.tables.Arrival.{Arrival}
use Rattle.rpc_laws.specs.declared.tables.Client.{Client}
use Rattle.rpc_laws.specs.declared.tables.InFlight.{InFlight}
use Rattle.rpc_laws.specs.declared.tables.Lists.{Lists}
use Rattle.rpc_laws.specs.declared.tables.Server.{Server}
use Rattle.rpc_laws.specs.Front.{is_message}
use Rattle.rpc_laws.specs.Groups.{live_credits}
use Rattle.rpc_laws.specs.Lives.{first_life}
use Rattle.rpc_laws.specs.Requests.{is_server}
use Rattle.rpc_laws.specs.Sessions.{is_client, is_connected}
use Rattle.node_laws.proofs.NumberLemmas.{numbered-at, numbered-found}
use Rattle.node_laws.proofs.StateLemmas.{connected-live}
use Rattle.node_laws.specs.Valid.{client_no}
use Rattle.end_laws.specs.Genuine.{Travels}
use Rattle.end_laws.specs.Kinds.{is_ask}
use Rattle.end_laws.specs.Moments.{Moment}
use Rattle.end_laws.proofs.Allowed.{is_carried}
use Rattle.end_laws.proofs.Courses.{latest}
use Rattle.end_laws.specs.TwoEnds.{peer_of}
use Rattle.end_laws.proofs.Known.{End, Good}
use Rattle.end_laws.proofs.ListLemmas.{all-add, Placed}
use Rattle.end_laws.proofs.ServerLemmas.{server-at}
use Rattle.end_laws.proofs.TwoEndsLaw.{placed-all}
use Rattle.end_laws.proofs.Valids.{AllValid}
use Rattle.ring_laws.proofs.CalmSteps.{CalmNode}
use Rattle.std.specs.Prelude.{count_by}
use Rattle.rpc_base.proofs.FirstLemmas.{some-counted}
use Rattle.rpc_base.proofs.FirstLemmas.{counted-cons as counted-cons-by}
use Rattle.rpc_base.proofs.BasicLemmas.{not-true}
use Rattle.rpc_base.proofs.PlaceLemmas.{all-at}
use Rattle.end_laws.proofs.ListLemmas.{find-at}
use Rattle.ring_laws.proofs.Counting.{find-front, find-some}
use Rattle.ring_laws.proofs.Counting.{count, count-add, covered, some_of, total-le, total-sum_by}
use Rattle.ring_laws.proofs.Counting.{value}
use Rattle.ring_laws.proofs.Loads.{all, asks, carried, client_packets, Filter, limit, limit_in}
use Rattle.ring_laws.proofs.Loads.{limit_of, load}
use Rattle.ring_laws.proofs.Loads.{on_way, Pairing, replies, server_packets, Within}
use Rattle.ring_laws.proofs.FirstLives.{first, FirstLives, good-first}
use Rattle.ring_laws.proofs.Standing.{Alive, Comes, EndOf, FitsIn, GoneAt, joined-end, JoinedTo}
use Rattle.ring_laws.proofs.Standing.{LetsGoCopy, LivesIn}

-- a ring holds messages alone
abbrev pub AllMessages : List Arrival → Type 0
AllMessages ring = AllByRecursion (λ a. is_message a.bytes ≡ true) ring

-- what is so at each calm moment
pub record Met (w : Moment) : Type 0 where
  pub good : Good w
  pub lives : FirstLives w
  pub comes : Travels (Comes w.nodes) w
  pub leaves : Travels (LetsGoCopy w.nodes) w
  pub alive : Alive good.known w.nodes
  pub within : (x : Pairing) → FitsIn good.known w.nodes x → Within w x
  pub rings : Placed (λ n l. AllMessages l.ring) w.nodes
  pub calm : Placed (λ n l. CalmNode l) w.nodes

-- the two ends of a session that is joined
abbrev pub joined-ends : ℕ → ℕ → ℕ → ℕ → Pairing
joined-ends n s m t = record {
  home = n;
  home_life = first_life;
  client = s;
  node = m;
  node_life = first_life;
  session = t;
}

-- what is known where a client session is joined
pub record Joint (w : Moment) (g : Good w) (n s m t credits : ℕ) : Type 0 where
  pub end : g.known.ends (first m) t 0
      ≡ Some (record { home = first n; client = s; credits = credits })
  pub fits : FitsIn g.known w.nodes (joined-ends n s m t)

-- a session's limit is that of its client end, while it is connected
pub joint-of : (w : Moment) (g : Good w) → FirstLives w → (n s m t : ℕ)
    → (j : JoinedTo w.nodes n s m t) → Joint w g n s m t j.client.limit
joint-of w g lives n s m t j =
    let own : End = record { home = first n; client = s; credits = j.client.limit } in
    let end : g.known.ends (first m) t 0 ≡ Some own = joined-end w g lives n s m t j in
    record {
      end = end;
      fits = record {
        server = λ e is. let same : own ≡ e = cc in
            (ap (λ (z : End). z.home) (sym same), ap (λ (z : End). z.client) (sym same));
        client = λ a b h. same-ends a b h;
        home_life = refl;
        node_life = refl;
      };
    }
  where
    same-ends : (a b : ℕ) → JoinedTo w.nodes n s a b → (a ≡ m) × (b ≡ t)
    same-ends a b h =
        let node = h.is_node in
        let mine = j.is_node in
        let lists : h.lists ≡ j.lists = cc in
        let there : slice_get j.lists.clients s ≡ Some h.client =
        subst (λ (z : Lists). slice_get z.clients s ≡ Some h.client) lists h.is_there in
        let own = j.is_there in
        let client : h.client ≡ j.client = cc in (
          sym h.peer ∙ (ap (λ (z : Client). z.way.peer) client ∙ j.peer),
          sym h.other ∙ (ap (λ (z : Client). z.way.other) client ∙ j.other),
        )

-- the limit of a client session
pub limit-is : (w : Moment) (v : AllValid w) (n s m t : ℕ) (j : JoinedTo w.nodes n s m t)
    → limit (joined-ends n s m t) w.nodes ≡ limit_in j.client
limit-is w v n s m t j =
    let x = j.client in
    let valid = v n j.lists j.is_node in
    let own = numbered-found client_no 0 s j.lists.clients x valid.numbered j.is_there in
    let number : x.way.number ≡ 0 + s =
    numbered-at client_no 0 s j.lists.clients x valid.numbered j.is_there in
    let number_is : x.way.number ≡ s = omega arith in
    let found : find (is_client s) j.lists.clients ≡ Some x =
    subst (λ (i : ℕ). find (is_client i) j.lists.clients ≡ Some x) number_is own in
    ap (value (λ (l : Lists). limit_of s l.clients)) j.is_node ∙ ap (value limit_in) found

-- where something is on its way for a session, its client end is connected
on-way-by : (b : Bool) (limit : ℕ) → 1 ≤ cond b limit 0 → b ≡ true
on-way-by true limit h = refl
on-way-by false limit h = absurd (omega arith)

pub is-asking : (w : Moment) (v : AllValid w) (met : Met w) (n s m t : ℕ)
    (j : JoinedTo w.nodes n s m t)
    → 1 ≤ load all (joined-ends n s m t) w → is_connected j.client.state ≡ true
is-asking w v met n s m t j some =
    let x = joined-ends n s m t in
    let within = met.within x (joint-of w met.good met.lives n s m t j).fits in
    let lim = limit-is w v n s m t j in
    on-way-by (is_connected j.client.state) j.client.limit (omega arith)

-- and its server end is there
pub record ServerEnd (w : Moment) (n s m t credits : ℕ) : Type 0 where
  pub lists : Lists
  pub is_node : slice_get w.nodes m ≡ Some lists
  pub server : Server
  pub found : find (is_server t) lists.servers ≡ Some server
  pub home : server.way.peer ≡ n
  pub home_life : server.way.life ≡ first_life
  pub client : server.way.other ≡ s
  pub credits_are : server.credits ≡ credits

pub server-end : (w : Moment) (met : Met w) (n s m t : ℕ) (j : JoinedTo w.nodes n s m t)
    → is_connected j.client.state ≡ true → ServerEnd w n s m t j.client.limit
server-end w met n s m t j state = by (met.alive (first m) t _ joint.end)
  where
    joint : Joint w met.good n s m t j.client.limit
    joint = joint-of w met.good met.lives n s m t j

    by : LivesIn w.nodes (first m) t ⊎ GoneAt w.nodes (first n) s t first_life
        → ServerEnd w n s m t j.client.limit
    by (inl live) =
        let k = met.good.known in
        let lists = live.lists in
        let has = live.there (met.lives.nodes m lists live.is_node) in
        let v = has.0 in
        let at = server-at k (first m) lists.servers t v
        (good-first w met.good met.lives m lists live.is_node).servers has.1 in
        let e : End = record { home = peer_of v.way; client = v.way.other; credits = v.credits } in
        let own : k.ends (first m) t 0 ≡ Some e =
        subst (λ (i : ℕ). k.ends (first m) i 0 ≡ Some e) at.1 at.0.session.end in
        let end = joint.end in
        let same : e ≡ record { home = first n; client = s; credits = j.client.limit } = cc in
        record {
          lists = lists;
          is_node = live.is_node;
          server = v;
          found = has.1;
          home = ap (λ (z : End). z.home.node) same;
          home_life = ap (λ (z : End). z.home.life) same;
          client = ap (λ (z : End). z.client) same;
          credits_are = ap (λ (z : End). z.credits) same;
        }
    by (inr over) =
        let node = over.is_node in
        let mine = j.is_node in
        let lists : over.lists ≡ j.lists = cc in
        let gone = over.gone (met.lives.nodes n over.lists over.is_node) in
        let there : slice_get j.lists.clients s ≡ Some gone.client =
        subst (λ (z : Lists). slice_get z.clients s ≡ Some gone.client) lists gone.is_there in
        let own = j.is_there in
        let client : gone.client ≡ j.client = cc in
        let other = ap (λ (z : Client). z.way.other) client ∙ j.other in
        let life = ap (λ (z : Client). z.way.life) client ∙ j.life in
        absurd (gone.let_go.apart (ap (λ (z : Client). is_connected z.state) client ∙ state)
        (and_from (gone.client.way.other == t) (gone.client.way.life == first_life)
        (eq-eqb gone.client.way.other t other) (eq-eqb gone.client.way.life first_life life)))

some-at : {A : Type 0} (p : A → Bool) (xs : List A) (i : ℕ) (x : A) → slice_get xs i ≡ Some x
    → p x ≡ true → some_of p xs ≡ true
some-at p [] i x is t = cc
some-at p (y ∷ ys) zero x is t =
    let same : y ≡ x = cc in
    let passes : p y ≡ true = ap p same ∙ t in
    rw passes refl
some-at p (y ∷ ys) (suc i) x is t = or-right (p y) (some_of p ys) (some-at p ys i x is t)

some-found : {A : Type 0} (p q : A → Bool) (xs : List A) (x : A) → find q xs ≡ Some x → p x ≡ true
    → some_of p xs ≡ true
some-found p q xs x is t = let at = find-at q xs x is in some-at p xs at.0 x at.1 t

-- the one that stands alone is found
alone-cons : {A : Type 0} (p : A → Bool) (z x : A) (zs : List A) (i : ℕ) (b : Bool) → p z ≡ b
    → slice_get zs i ≡ Some x → p x ≡ true → count_by p (z ∷ zs) ≤ 1
    → (count_by p zs ≤ 1 → find p zs ≡ Some x) → find p (z ∷ zs) ≡ Some x
alone-cons p z x zs i true e is t few ih =
    let some = find-some p zs i x is t in
    let one = some-counted p p zs some.0 some.1 (find-passes p zs some.0 some.1) in
    let sum = counted-cons-by p z zs true e in
    absurd (omega arith)
alone-cons p z x zs i false e is t few ih =
    let sum = counted-cons-by p z zs false e in
    rw e (ih (omega arith))

alone-same : {A : Type 0} (p : A → Bool) (xs : List A) (i : ℕ) (x : A) → slice_get xs i ≡ Some x
    → p x ≡ true → count_by p xs ≤ 1 → find p xs ≡ Some x
alone-same p [] i x is t few = cc
alone-same p (z ∷ zs) zero x is t few = find-front p (z ∷ zs) x is t
alone-same p (z ∷ zs) (suc i) x is t few =
    alone-cons p z x zs i (p z) refl is t few (λ less. alone-same p zs i x is t less)

-- what is counted stands somewhere
counted-cons : {A : Type 0} (p : A → Bool) (x : A) (xs : List A) (b : Bool) → p x ≡ b
    → 1 ≤ cond b 1 0 + count p xs
    → (1 ≤ count p xs → (i : ℕ) × ((y : A) × ((slice_get xs i ≡ Some y) × (p y ≡ true))))
    → (i : ℕ) × ((y : A) × ((slice_get (x ∷ xs) i ≡ Some y) × (p y ≡ true)))
counted-cons p x xs true e h ih = (0, (x, (refl, e)))
counted-cons p x xs false e h ih = let r = ih (omega arith) in (suc r.0, (r.1.0, r.1.1))

counted-at : {A : Type 0} (p : A → Bool) (xs : List A) → 1 ≤ count p xs
    → (i : ℕ) × ((y : A) × ((slice_get xs i ≡ Some y) × (p y ≡ true)))
counted-at p [] h = absurd (omega arith)
counted-at p (x ∷ xs) h =
    counted-cons p x xs (p x) refl
    (subst (λ (b : Bool). 1 ≤ cond b 1 0 + count p xs) refl h) (counted-at p xs)

-- and counts
pub count-one : {A : Type 0} (p : A → Bool) (xs : List A) (i : ℕ) (x : A) → slice_get xs i ≡ Some x
    → p x ≡ true → 1 ≤ count p xs
count-one p [] i x is t = cc
count-one p (y ∷ ys) zero x is t =
    let same : y ≡ x = cc in
    let one : cond {A = ℕ} (p y) 1 0 ≡ 1 = ap {B = ℕ} (λ (b : Bool). cond b 1 0) (ap p same ∙ t) in
    omega arith
count-one p (y ∷ ys) (suc i) x is t = omega (arith, count-one p ys i x is t)

none-or : (n : ℕ) → (n ≡ 0) ⊎ (1 ≤ n)
none-or zero = inl refl
none-or (suc n) = inr (omega arith)

asks-session : (p : Filter) (life t : ℕ) (o : Option MessageHeader) (h : MessageHeader)
    → o ≡ Some h → asks p life t o ≡ true → (is_ask h.kind ≡ true) × (h.session ≡ t)
asks-session p life t None h e a = cc
asks-session p life t (Some g) h e a =
    let same : g ≡ h = cc in
    let parts = and_parts (is_ask g.kind) _ a in
    let lives = and_parts (g.to_life == life) _ parts.1 in
    let more = and_parts (g.session == t) _ lives.1 in (
      ap (λ (z : MessageHeader). is_ask z.kind) (sym same) ∙ parts.0,
      ap (λ (z : MessageHeader). z.session) (sym same) ∙ eqb-true g.session t more.0,
    )

asks-header : (p : Filter) (life t : ℕ) (o : Option MessageHeader) → asks p life t o ≡ true
    → (h : MessageHeader) × (o ≡ Some h)
asks-header p life t None a = cc
asks-header p life t (Some h) a = (h, refl)

module _ (w : Moment) (valid : AllValid w) (met : Met w) (n : ℕ) (l : Lists)
    (is : slice_get w.nodes n ≡ Some l)
    (peer : ℕ) (bytes : List ℕ) (hand : w.hand
    ≡ Some (record { from = peer; to = n; bytes = bytes }))
    (due : is_carried (latest w.past) ≡ true)
    (read : is_message bytes ≡ true) where
  abbrev coming : List Arrival
  coming = l.ring ++ record { peer = peer; bytes = bytes } ∷ []

  abbrev counts-ask : Server → Arrival → Bool
  counts-ask v a = asks all first_life v.way.number (message_of a.bytes)

  abbrev counts-reply : Client → Arrival → Bool
  counts-reply c a = replies all first_life c.way.number (message_of a.bytes)

  in-hand : Comes w.nodes peer n bytes
  in-hand = subst (λ (o : Option InFlight). IfSome o (λ c. Comes w.nodes c.from c.to c.bytes))
      hand met.comes.hand

  all-come : AllByRecursion (λ a. Comes w.nodes a.peer n a.bytes) coming
  all-come = all-add (λ a. Comes w.nodes a.peer n a.bytes) l.ring
      (record { peer = peer; bytes = bytes }) (met.comes.rings n l is) in-hand

  carried-is : carried w ≡ record { from = peer; to = n; bytes = bytes } ∷ []
  carried-is = rw (due, hand) refl

  life-here : l.life ≡ first_life
  life-here = met.lives.nodes n l is

  self-and : (b : Bool) → (n == n && b) ≡ b
  self-and b = ap (λ a. a && b) (eq-eqb n n refl)

  -- what comes counts for its session
  asks-load : (from s t : ℕ) → count (λ a. asks all first_life t (message_of a.bytes)) coming
      ≤ load all (joined-ends from s n t) w
  asks-load from s t =
      let x = joined-ends from s n t in
      let part : value (server_packets all t) (slice_get w.nodes n) ≡ server_packets all t l =
      ap (value (server_packets all t)) is in
      let way : on_way all x (carried w) ≡ on_way all x
      (record { from = peer; to = n; bytes = bytes } ∷ []) = ap (on_way all x) carried-is in
      let mine : cond {A = ℕ} (n == n && asks all first_life t (message_of bytes)) 1 0
      ≡ cond (asks all first_life t (message_of bytes)) 1 0 =
      ap {B = ℕ} (λ (b : Bool). cond b 1 0) (self-and (asks all first_life t (message_of bytes))) in
      let more = count-add (λ (a : Arrival). asks all first_life t (message_of a.bytes)) l.ring
      (record { peer = peer; bytes = bytes }) in
      let own : count (λ a. asks all l.life t (message_of a.bytes)) l.ring
      ≡ count (λ a. asks all first_life t (message_of a.bytes)) l.ring =
      ap (λ (life : ℕ). count (λ (a : Arrival). asks all life t (message_of a.bytes)) l.ring)
      life-here in
      omega arith

  replies-load : (s m t : ℕ) → count (λ a. replies all first_life s (message_of a.bytes)) coming
      ≤ load all (joined-ends n s m t) w
  replies-load s m t =
      let x = joined-ends n s m t in
      let part : value (client_packets all s) (slice_get w.nodes n) ≡ client_packets all s l =
      ap (value (client_packets all s)) is in
      let way : on_way all x (carried w) ≡ on_way all x
      (record { from = peer; to = n; bytes = bytes } ∷ []) = ap (on_way all x) carried-is in
      let mine : cond {A = ℕ} (n == n && replies all first_life s (message_of bytes)) 1 0
      ≡ cond (replies all first_life s (message_of bytes)) 1 0 =
      ap {B = ℕ} (λ (b : Bool). cond b 1 0)
      (self-and (replies all first_life s (message_of bytes))) in
      let more = count-add (λ (a : Arrival). replies all first_life s (message_of a.bytes)) l.ring
      (record { peer = peer; bytes = bytes }) in
      let own : count (λ a. replies all l.life s (message_of a.bytes)) l.ring
      ≡ count (λ a. replies all first_life s (message_of a.bytes)) l.ring =
      ap (λ (life : ℕ). count (λ (a : Arrival). replies all life s (message_of a.bytes)) l.ring)
      life-here in
      omega arith

  -- each counts for one session that is there
  counts-by : (i : ℕ) (a : Arrival) (h : MessageHeader) (b : Bool) → slice_get coming i ≡ Some a
      → is_ask h.kind ≡ b → message_of a.bytes ≡ Some h → h.to_life ≡ first_life
      → EndOf w.nodes a.peer n b h.session → (some_of (λ v. counts-ask v a) l.servers
      || some_of (λ c. counts-reply c a) l.clients)
      ≡ true
  counts-by i a h true at kind read life end =
      let s = end.0 in
      let t = h.session in
      let j = end.1 in
      let passes : asks all first_life t (message_of a.bytes) ≡ true =
      ap (asks all first_life t) read
      ∙ and_from (is_ask h.kind) (h.to_life == first_life && (h.session == t && true)) kind
      (and_from (h.to_life == first_life) (h.session == t && true)
      (eq-eqb h.to_life first_life life)
      (and_from (h.session == t) true (eq-eqb h.session t refl) refl)) in
      let here = count-one (λ (z : Arrival). asks all first_life t (message_of z.bytes))
      coming i a at passes in
      let few = asks-load a.peer s t in
      let state = is-asking w valid met a.peer s n t j (omega arith) in
      let e = server-end w met a.peer s n t j state in
      let node = e.is_node in
      let lists : e.lists ≡ l = cc in
      let found : find (is_server t) l.servers ≡ Some e.server =
      subst (λ (z : Lists). find (is_server t) z.servers ≡ Some e.server) lists e.found in
      let number : e.server.way.number ≡ t = eqb-true e.server.way.number t
      (find-passes (is_server t) l.servers e.server found) in
      let own : counts-ask e.server a ≡ true =
      ap (λ (k : ℕ). asks all first_life k (message_of a.bytes)) number ∙ passes in
      let some = some-found (λ v. counts-ask v a) (is_server t) l.servers e.server found own in
      rw some refl
  counts-by i a h false at kind read life end =
      let s = h.session in
      let m = a.peer in
      let j = end.1 in
      let node = j.is_node in
      let lists : j.lists ≡ l = cc in
      let there : slice_get l.clients s ≡ Some j.client =
      subst (λ (z : Lists). slice_get z.clients s ≡ Some j.client) lists j.is_there in
      let number : j.client.way.number ≡ 0 + s =
      numbered-at client_no 0 s l.clients j.client (valid n l is).numbered there in
      let number_is : j.client.way.number ≡ s = omega arith in
      let passes : counts-reply j.client a ≡ true =
      ap (replies all first_life j.client.way.number) read
      ∙ and_from (not (is_ask h.kind))
      (h.to_life == first_life && (h.session == j.client.way.number && true)) (ap not kind)
      (and_from (h.to_life == first_life) (h.session == j.client.way.number && true)
      (eq-eqb h.to_life first_life life)
      (and_from (h.session == j.client.way.number) true
      (eq-eqb h.session j.client.way.number (sym number_is)) refl)) in
      or-right (some_of (λ v. counts-ask v a) l.servers) _
      (some-at (λ c. counts-reply c a) l.clients s j.client there passes)

  reads : AllMessages coming
  reads = all-add (λ a. is_message a.bytes ≡ true) l.ring (record { peer = peer; bytes = bytes })
      (met.rings n l is) read

  all-count : AllByRecursion (λ a. (some_of (λ v. counts-ask v a) l.servers
      || some_of (λ c. counts-reply c a) l.clients) ≡ true) coming
  all-count =
      placed-all (λ i a. slice_get coming i ≡ Some a) _ coming
      (λ i a at. let come = all-at (λ a. Comes w.nodes a.peer n a.bytes) coming i a all-come at in
      let read = header-of (message_of a.bytes)
      (all-at (λ a. is_message a.bytes ≡ true) coming i a reads at) in
      let told = come read.0 read.1 in
      counts-by i a read.0 (is_ask read.0.kind) at refl read.1 told.0 told.1) (λ i a at. at)
    where
      header-of : (o : Option MessageHeader) → is_some o ≡ true → (h : MessageHeader) × (o ≡ Some h)
      header-of None e = cc
      header-of (Some h) e = (h, refl)

  -- no more of them count for a session than its credits
  server-few : (v : Server) → find (is_server v.way.number) l.servers ≡ Some v
      → count (counts-ask v) coming ≤ v.credits
  server-few v found = by (none-or (count (counts-ask v) coming))
    where
      by : (count (counts-ask v) coming ≡ 0) ⊎ (1 ≤ count (counts-ask v) coming)
          → count (counts-ask v) coming ≤ v.credits
      by (inl none) = omega arith
      by (inr some) =
          let one = counted-at (counts-ask v) coming some in
          let a = one.1.0 in
          let head = asks-header all first_life v.way.number (message_of a.bytes) one.1.1.1 in
          let of = asks-session all first_life v.way.number (message_of a.bytes) head.0 head.1
          one.1.1.1 in
          let come = all-at (λ a. Comes w.nodes a.peer n a.bytes)
          coming one.0 a all-come one.1.1.0 in
          let end = subst (λ (b : Bool). EndOf w.nodes a.peer n b head.0.session) of.0
          (come head.0 head.1).1 in
          let s = end.0 in
          let t = v.way.number in
          let j : JoinedTo w.nodes a.peer s n t =
          subst (λ (i : ℕ). JoinedTo w.nodes a.peer s n i) of.1 end.1 in
          let few = asks-load a.peer s t in
          let state = is-asking w valid met a.peer s n t j (omega arith) in
          let e = server-end w met a.peer s n t j state in
          let node = e.is_node in
          let lists : e.lists ≡ l = cc in
          let again : find (is_server t) l.servers ≡ Some e.server =
          subst (λ (z : Lists). find (is_server t) z.servers ≡ Some e.server) lists e.found in
          let same : e.server ≡ v = cc in
          let credits : v.credits ≡ j.client.limit = ap (λ (z : Server). z.credits) (sym same)
          ∙ e.credits_are in
          let within = met.within (joined-ends a.peer s n t)
          (joint-of w met.good met.lives a.peer s n t j).fits in
          let lim = limit-is w valid a.peer s n t j in
          let whole : limit_in j.client ≡ j.client.limit =
          ap (λ (b : Bool). cond b j.client.limit 0) state in
          omega arith

  -- a reply that counts for a session
  record IsReply (c : Client) (a : Arrival) : Type 0 where
    header : MessageHeader
    reads : message_of a.bytes ≡ Some header
    kind : is_ask header.kind ≡ false
    session : header.session ≡ c.way.number

  is-reply : (c : Client) (a : Arrival) → counts-reply c a ≡ true → IsReply c a
  is-reply c a = by (message_of a.bytes) refl
    where
      by : (o : Option MessageHeader) → message_of a.bytes ≡ o
          → replies all first_life c.way.number o ≡ true → IsReply c a
      by None reads e = cc
      by (Some h) reads e =
          let parts = and_parts (not (is_ask h.kind)) _ e in
          let lives = and_parts (h.to_life == first_life) _ parts.1 in
          let more = and_parts (h.session == c.way.number) _ lives.1 in
          record {
            header = h;
            reads = reads;
            kind = not-true (is_ask h.kind) parts.0;
            session = eqb-true h.session c.way.number more.0;
          }

  -- where some count, the session is joined with the node of one of them
  joined-of : (s : ℕ) (c : Client) → c.way.number ≡ s → 1 ≤ count (counts-reply c) coming
      → (m : ℕ) × ((t : ℕ) × JoinedTo w.nodes n s m t)
  joined-of s c number some =
      let one = counted-at (counts-reply c) coming some in
      let a = one.1.0 in
      let reply = is-reply c a one.1.1.1 in
      let h = reply.header in
      let come = all-at (λ a. Comes w.nodes a.peer n a.bytes) coming one.0 a all-come one.1.1.0 in
      let end : EndOf w.nodes a.peer n false h.session =
      subst (λ (b : Bool). EndOf w.nodes a.peer n b h.session) reply.kind
      (come h reply.reads).1 in (
        a.peer,
        (
          end.0,
          subst (λ (i : ℕ). JoinedTo w.nodes n i a.peer end.0) (reply.session ∙ number) end.1,
        ),
      )

  -- its limit is what may count for it
  joined-few : (s m t : ℕ) (c : Client) → slice_get l.clients s ≡ Some c → c.way.number ≡ s
      → JoinedTo w.nodes n s m t → 1 ≤ count (counts-reply c) coming
      → count (counts-reply c) coming ≤ live_credits c
  joined-few s m t c at number j some =
      let node = j.is_node in
      let lists : j.lists ≡ l = cc in
      let there : slice_get l.clients s ≡ Some j.client =
      subst (λ (z : Lists). slice_get z.clients s ≡ Some j.client) lists j.is_there in
      let same : j.client ≡ c = cc in
      let few = replies-load s m t in
      let counted : count (counts-reply c) coming
      ≡ count (λ a. replies all first_life s (message_of a.bytes)) coming =
      ap (λ (k : ℕ). count (λ (a : Arrival). replies all first_life k (message_of a.bytes)) coming)
      number in
      let state = is-asking w valid met n s m t j (omega arith) in
      let within = met.within (joined-ends n s m t)
      (joint-of w met.good met.lives n s m t j).fits in
      let lim = limit-is w valid n s m t j in
      let whole : limit_in j.client ≡ j.client.limit =
      ap (λ (b : Bool). cond b j.client.limit 0) state in
      let live : live_credits j.client ≡ j.client.limit =
      ap (λ (b : Bool). cond b j.client.limit 0) (connected-live j.client.state state) in
      let credits : live_credits c ≡ j.client.limit = ap live_credits (sym same) ∙ live in
      omega arith

  client-few : (s : ℕ) (c : Client) → slice_get l.clients s ≡ Some c
      → count (counts-reply c) coming ≤ live_credits c
  client-few s c at = by (none-or (count (counts-reply c) coming))
    where
      by : (count (counts-reply c) coming ≡ 0) ⊎ (1 ≤ count (counts-reply c) coming)
          → count (counts-reply c) coming ≤ live_credits c
      by (inl none) = omega arith
      by (inr some) =
          let number : c.way.number ≡ 0 + s =
          numbered-at client_no 0 s l.clients c (valid n l is).numbered at in
          let number_is : c.way.number ≡ s = omega arith in
          let j = joined-of s c number_is some in
          joined-few s j.0 j.1.0 c at number_is j.1.1 some

  own-found : (i : ℕ) (v : Server) → slice_get l.servers i ≡ Some v
      → find (is_server v.way.number) l.servers ≡ Some v
  own-found i v at =
      let few = (valid n l is).alone v.way.number in
      alone-same (is_server v.way.number) l.servers i v at (eq-eqb v.way.number v.way.number refl)
      (omega arith)

  -- so the ring isn't full
  pub has-place : l.room ≤ length l.ring → ⊥
  has-place full =
      let few = covered counts-ask counts-reply l.servers l.clients coming all-count in
      let servers = total-le (λ (v : Server). count (counts-ask v) coming) (λ v. v.credits)
      l.servers (placed-all (λ i v. slice_get l.servers i ≡ Some v) _ l.servers
      (λ i v at. server-few v (own-found i v at)) (λ i v at. at)) in
      let clients = total-le (λ (c : Client). count (counts-reply c) coming) live_credits
      l.clients (placed-all (λ s c. slice_get l.clients s ≡ Some c) _ l.clients client-few
      (λ s c at. at)) in
      let shared = (valid n l is).shared in
      let one = total-sum_by live_credits l.clients in
      let two = total-sum_by (λ (v : Server). v.credits) l.servers in
      let size : length coming ≡ length l.ring + 1 =
      length-append l.ring (record { peer = peer; bytes = bytes } ∷ []) in
      omega arith
