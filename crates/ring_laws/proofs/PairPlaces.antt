-- The places of a packet are counted among what is on its way for its session.
use Rattle.std.proofs.Common.{◌≡◌, ◌+◌, ◌≤◌, ◌==◌, ◌&&◌, ℕ, Bool, true, false, cond, List, [], ◌∷◌}
use Rattle.std.proofs.Common.{Option, Some, None, slice_get, refl, sym, ap, ◌∙◌, subst, arith}
use Rattle.std.specs.Prelude.{count_by}
use Rattle.std.specs.List.{find, AllByRecursion}
use Rattle.std.proofs.Common.{eq-eqb, not}
use Rattle.std.proofs.lemmas.List.Sums.{sum_by-cons}
use Rattle.packet_header.specs.Reading.{message_of}
use Rattle.packet_header.specs.declared.packet.MessageHeader.{MessageHeader}
use Rattle.rpc_base.specs.declared.owner.Owner.{Owner}
use Rattle.rpc_base.specs.declared.owner.Owner.TheVariants.{Ask, Reply, Control}
use Rattle.rpc_laws.specs.declared.tables.Arrival.{Arrival}
use Rattle.rpc_laws.specs.declared.tables.Call.{Call}
use Rattle.rpc_laws.specs.declared.tables.Client.{Client}
use Rattle.rpc_laws.specs.declared.tables.InFlight.{InFlight}
use Rattle.rpc_laws.specs.declared.tables.Lists.{Lists}
use Rattle.rpc_laws.specs.declared.tables.Progress.{Progress}
use Rattle.rpc_laws.specs.declared.tables.Queued.{Queued}
use Rattle.rpc_laws.specs.declared.tables.Server.{Server}
use Rattle.rpc_laws.specs.Calls.{is_active}
use Rattle.rpc_laws.specs.Lives.{first_life}
use Rattle.rpc_laws.specs.Queues.{is_queued}
use Rattle.rpc_laws.specs.Sessions.{is_client}
use Rattle.node_laws.proofs.NumberLemmas.{numbered-at, numbered-found}
use Rattle.node_laws.specs.Valid.{client_no}
use Rattle.node_laws.specs.Windows.{InsideOf, Inside, Stands, InWindow}
use Rattle.end_laws.specs.Genuine.{Travels}
use Rattle.end_laws.specs.Kinds.{is_ask}
use Rattle.end_laws.specs.Moments.{Moment}
use Rattle.end_laws.specs.TwoEnds.{peer_of}
use Rattle.end_laws.proofs.Allowed.{is_packet}
use Rattle.ring_laws.specs.PairsOnce.{IsUnanswered, is_asking, is_replying, is_job_of, places, AreEndsOf, StandsOnce}
use Rattle.ring_laws.proofs.Counting.{count, value}
use Rattle.ring_laws.proofs.Loads.{Pairing, asks, replies, own_ask, own_reply, own_job}
use Rattle.ring_laws.proofs.Loads.{client_packets, server_packets, ask_to, reply_to, load}
use Rattle.end_laws.proofs.Known.{End, Good, Known}
use Rattle.end_laws.proofs.ListLemmas.{all-map}
use Rattle.end_laws.proofs.ServerLemmas.{server-at}
use Rattle.end_laws.proofs.Valids.{AllValid}
use Rattle.ring_laws.proofs.Coverage.{joined-ends}
use Rattle.ring_laws.proofs.FirstLives.{first, first-is, FirstLives, good-first}
use Rattle.ring_laws.proofs.Standing.{Comes, FitsIn}

-- std's count
count-is : {A : Type 0} (p : A → Bool) (xs : List A) → count_by p xs ≡ count p xs
count-is p [] = refl
count-is p (x ∷ xs) = sum_by-cons (λ x. cond (p x) 1 0) x xs ∙ ap (λ n. cond (p x) 1 0 + n) (count-is p xs)

count-each : {A : Type 0} (p q : A → Bool) (P : A → Type 0) (xs : List A) → AllByRecursion P xs
    → ((x : A) → P x → p x ≡ q x) → count p xs ≡ count q xs
count-each p q P [] all same = refl
count-each p q P (x ∷ xs) all same =
    let one : cond {A = ℕ} (p x) 1 0 ≡ cond (q x) 1 0 =
    ap {B = ℕ} (λ (b : Bool). cond b 1 0) (same x all.0) in
    omega (arith, count-each p q P xs all.1 same)

count-same : {A : Type 0} (p q : A → Bool) (xs : List A) → ((x : A) → p x ≡ q x) → count p xs ≡ count q xs
count-same p q [] same = refl
count-same p q (x ∷ xs) same =
    let one : cond {A = ℕ} (p x) 1 0 ≡ cond (q x) 1 0 = ap {B = ℕ} (λ (b : Bool). cond b 1 0) (same x) in
    omega (arith, count-same p q xs same)

and-moves : (a b c : Bool) → ((a && b) && c) ≡ (a && (b && c))
and-moves true b c = refl
and-moves false b c = refl

ask-same : (s r k : ℕ) (o : Owner) (n : ℕ) (due : Option ℕ)
    → is_queued (Ask s r) k (record { owner = o; number = n; due = due })
    ≡ own_ask (is_packet r k) s o n
ask-same s r k (Ask a b) n due = and-moves (a == s) (b == r) (n == k)
ask-same s r k (Reply a b) n due = refl
ask-same s r k Control n due = refl

reply-same : (t r k : ℕ) (o : Owner) (n : ℕ) (due : Option ℕ)
    → is_queued (Reply t r) k (record { owner = o; number = n; due = due })
    ≡ own_reply (is_packet r k) t o n
reply-same t r k (Ask a b) n due = refl
reply-same t r k (Reply a b) n due = and-moves (a == t) (b == r) (n == k)
reply-same t r k Control n due = refl

-- a message goes to this life
abbrev GoesTo : ℕ → List ℕ → Type 0
GoesTo life bytes = (h : MessageHeader) → message_of bytes ≡ Some h → h.to_life ≡ life

with-life : (life to : ℕ) (a b : Bool) → to ≡ life → (a && (to == life && b)) ≡ (a && b)
with-life life to a b e = rw (eq-eqb to life e) refl

asking-same : (life t r k : ℕ) (o : Option MessageHeader)
    → ((h : MessageHeader) → o ≡ Some h → h.to_life ≡ life)
    → is_asking t r k o ≡ asks (is_packet r k) life t o
asking-same life t r k None goes = refl
asking-same life t r k (Some h) goes =
    sym (with-life life h.to_life (is_ask h.kind) _ (goes h refl))

replying-same : (life s r k : ℕ) (o : Option MessageHeader)
    → ((h : MessageHeader) → o ≡ Some h → h.to_life ≡ life)
    → is_replying s r k o ≡ replies (is_packet r k) life s o
replying-same life s r k None goes = refl
replying-same life s r k (Some h) goes =
    sym (with-life life h.to_life (not (is_ask h.kind)) _ (goes h refl))

-- an unanswered packet is within the window of its call
abbrev pub StandsIn : Option Lists → (s r k : ℕ) → Type 0
StandsIn None s r k = ⊥
StandsIn (Some l) s r k = InWindow l.clients (Ask s r) k

-- what is so of each packet of a session
abbrev pub PairAt : Moment → Pairing → (r k : ℕ) → Type 0
PairAt w x r k = (load (is_packet r k) x w ≤ 1)
    × (1 ≤ load (is_packet r k) x w → StandsIn (slice_get w.nodes x.home) x.client r k)

abbrev pub Pairs : Known → Moment → Type 0
Pairs known w = (x : Pairing) → FitsIn known w.nodes x → (r k : ℕ) → PairAt w x r k

open-progress : (x : Client) (r k : ℕ) (c : Call) (p : Option Progress)
    → find (is_active r) x.calls ≡ Some c → c.progress ≡ p → InsideOf k p → IsUnanswered x r k
open-progress x r k c None found is inside = absurd inside
open-progress x r k c (Some p) found is inside =
    record {
      call = c;
      active = found;
      progress = p;
      is_progress = is;
      taken = inside.0;
      posted = inside.1;
    }

open-call : (x : Client) (r k : ℕ) (c : Option Call) → find (is_active r) x.calls ≡ c → Inside k c
    → IsUnanswered x r k
open-call x r k None found inside = absurd inside
open-call x r k (Some c) found inside = open-progress x r k c c.progress found refl inside

module _ (w : Moment) (g : Good w) (lives : FirstLives w) (comes : Travels (Comes w.nodes) w)
    (valid : AllValid w) (pairs : Pairs g.known w) (n s : ℕ) (client : Lists) (x : Client)
    (m t : ℕ) (server : Lists) (v : Server) (e : AreEndsOf w n s client x m t server v)
    (r k : ℕ) where
  abbrev session : Pairing
  session = joined-ends n s m t

  session-fits : FitsIn g.known w.nodes session
  session-fits = record {
    server = λ u is.
        let at = server-at g.known (first m) server.servers t v
        (good-first w g lives m server e.is_server).servers e.server_there in
        let end : End = record {
          home = peer_of v.way;
          client = v.way.other;
          credits = v.credits;
        } in
        let own : g.known.ends (first m) t 0 ≡ Some end =
        subst (λ (i : ℕ). g.known.ends (first m) i 0 ≡ Some end) at.1 at.0.session.end in
        let same : end ≡ u = cc in
        let home_life : v.way.life ≡ first_life =
        e.home_life ∙ lives.nodes n client e.is_client in (
          ap (λ (z : End). z.home) (sym same)
              ∙ (first-is (peer_of v.way) home_life ∙ ap first e.home),
          ap (λ (z : End). z.client) (sym same) ∙ e.number,
        );
    client = λ a b j.
        let node = j.is_node in
        let mine = e.is_client in
        let lists : j.lists ≡ client = cc in
        let there : slice_get client.clients s ≡ Some j.client =
        subst (λ (z : Lists). slice_get z.clients s ≡ Some j.client) lists j.is_there in
        let own = e.client_there in
        let same : j.client ≡ x = cc in (
          sym j.peer ∙ (ap (λ (z : Client). z.way.peer) same ∙ e.peer),
          sym j.other ∙ (ap (λ (z : Client). z.way.other) same ∙ e.other),
        );
    home_life = refl;
    node_life = refl;
  }

  -- each message on its way goes to the first life of its node
  in-flight : AllByRecursion (λ c. GoesTo first_life c.bytes) w.flight
  in-flight = all-map (λ c. Comes w.nodes c.from c.to c.bytes)
      (λ c. GoesTo first_life c.bytes) w.flight (λ c k h reads. (k h reads).0) comes.flight

  in-ring : (j : ℕ) (l : Lists) → slice_get w.nodes j ≡ Some l
      → AllByRecursion (λ a. GoesTo l.life a.bytes) l.ring
  in-ring j l is = all-map (λ a. Comes w.nodes a.peer j a.bytes)
      (λ a. GoesTo l.life a.bytes) l.ring
      (λ a k h reads. (k h reads).0 ∙ sym (lives.nodes j l is)) (comes.rings j l is)

  places-counted : places w.flight n s client m t server r k ≤ load (is_packet r k) session w
  places-counted =
      let p = is_packet r k in
      let one : value (client_packets p s) (slice_get w.nodes n) ≡ client_packets p s client =
      ap (value (client_packets p s)) e.is_client in
      let two : value (server_packets p t) (slice_get w.nodes m) ≡ server_packets p t server =
      ap (value (server_packets p t)) e.is_server in
      let a : count_by (is_queued (Ask s r) k) client.queued
      ≡ count (λ (q : Queued). own_ask p s q.owner q.number) client.queued =
      count-is (is_queued (Ask s r) k) client.queued
      ∙ count-same (is_queued (Ask s r) k) _ client.queued
      (λ q. ask-same s r k q.owner q.number q.due) in
      let b : count_by (λ c. c.to == m && is_asking t r k (message_of c.bytes)) w.flight
      ≡ count (ask_to p m first_life t) w.flight =
      count-is (λ (c : InFlight). c.to == m && is_asking t r k (message_of c.bytes))
      w.flight ∙ count-each (λ (c : InFlight). c.to == m
      && is_asking t r k (message_of c.bytes)) _ (λ c. GoesTo first_life c.bytes) w.flight
      in-flight (λ c goes. ap (λ z. c.to == m && z)
      (asking-same first_life t r k (message_of c.bytes) goes)) in
      let c : count_by (λ a. is_asking t r k (message_of a.bytes)) server.ring
      ≡ count (λ (a : Arrival). asks p server.life t (message_of a.bytes)) server.ring =
      count-is (λ (a : Arrival). is_asking t r k (message_of a.bytes)) server.ring
      ∙ count-each (λ (a : Arrival). is_asking t r k (message_of a.bytes)) _
      (λ a. GoesTo server.life a.bytes) server.ring (in-ring m server e.is_server)
      (λ a goes. asking-same server.life t r k (message_of a.bytes) goes) in
      let d : count_by (is_job_of t r k) server.jobs.out ≡ count (own_job p t) server.jobs.out =
      count-is (is_job_of t r k) server.jobs.out in
      let g : count_by (is_queued (Reply t r) k) server.queued
      ≡ count (λ (q : Queued). own_reply p t q.owner q.number) server.queued =
      count-is (is_queued (Reply t r) k) server.queued
      ∙ count-same (is_queued (Reply t r) k) _ server.queued
      (λ q. reply-same t r k q.owner q.number q.due) in
      let h : count_by (λ c. c.to == n && is_replying s r k (message_of c.bytes)) w.flight
      ≡ count (reply_to p n first_life s) w.flight =
      count-is (λ (c : InFlight). c.to == n && is_replying s r k (message_of c.bytes))
      w.flight ∙ count-each (λ (c : InFlight). c.to == n
      && is_replying s r k (message_of c.bytes)) _ (λ c. GoesTo first_life c.bytes) w.flight
      in-flight (λ c goes. ap (λ z. c.to == n && z)
      (replying-same first_life s r k (message_of c.bytes) goes)) in
      let i : count_by (λ a. is_replying s r k (message_of a.bytes)) client.ring
      ≡ count (λ (a : Arrival). replies p client.life s (message_of a.bytes)) client.ring =
      count-is (λ (a : Arrival). is_replying s r k (message_of a.bytes)) client.ring
      ∙ count-each (λ (a : Arrival). is_replying s r k (message_of a.bytes)) _
      (λ a. GoesTo client.life a.bytes) client.ring (in-ring n client e.is_client)
      (λ a goes. replying-same client.life s r k (message_of a.bytes) goes) in
      omega arith

  client-is : find (is_client s) client.clients ≡ Some x
  client-is =
      let v0 = valid n client e.is_client in
      let number : client_no x ≡ 0 + s = numbered-at client_no 0 s client.clients x v0.numbered e.client_there in
      let number_is : x.way.number ≡ s = omega arith in
      subst (λ (i : ℕ). find (is_client i) client.clients ≡ Some x) number_is
      (numbered-found client_no 0 s client.clients x v0.numbered e.client_there)

  pub stands-once : StandsOnce w n s client x m t server r k
  stands-once =
      let pair = pairs session session-fits r k in
      let few = places-counted in
      let most = pair.0 in
      record {
        once = omega arith;
        unanswered = λ some.
            let stands : StandsIn (Some client) s r k =
            subst (λ (o : Option Lists). StandsIn o s r k) e.is_client
            (pair.1 (omega arith)) in
            let inside : Inside k (find (is_active r) x.calls) =
            subst (λ (o : Option Client). Stands k r o) client-is stands in
            open-call x r k (find (is_active r) x.calls) refl inside;
      }
