-- What is sent spells the packet of its owner.
use Rattle.rpc_base.specs.declared.limits.Limits.{Limits}
use Rattle.std.proofs.Common.{◌≡◌, ◌<◌, ◌+◌, ℕ, List, [], ◌∷◌}
use Rattle.std.proofs.Common.{◌++◌, length, Option, Some, None, slice_get, refl, sym, ap, ◌∙◌}
use Rattle.std.proofs.Common.{subst, arith, ◌⊎◌, inl, inr, leb}
use Rattle.std.specs.List.{find, slice_set, AllByRecursion}
use Rattle.std.proofs.lemmas.Bool.{eqb-true}
use Rattle.packet_header.specs.declared.packet.ControlHeader.{ControlHeader}
use Rattle.packet_header.proofs.Heads.{spells-append}
use Rattle.rpc_base.proofs.TakingLemmas.{find-passes}
use Rattle.rpc_base.specs.declared.event.Event.{Event}
use Rattle.rpc_base.specs.declared.event.Event.TheVariants.{Sent}
use Rattle.rpc_base.specs.declared.fact.Fact.{Fact}
use Rattle.rpc_base.specs.declared.fact.Who.{Who}
use Rattle.rpc_base.specs.declared.fact.Who.TheVariants.{Net}
use Rattle.rpc_base.specs.declared.owner.Owner.{Owner}
use Rattle.rpc_base.specs.declared.owner.Owner.TheVariants.{Ask, Reply, Control}
use Rattle.rpc_base.proofs.PlaceLemmas.{all-at, set-other}
use Rattle.rpc_base.proofs.BasicLemmas.{at-most-one}
use Rattle.rpc_laws.specs.declared.tables.InFlight.{InFlight}
use Rattle.rpc_laws.specs.declared.tables.Lists.{Lists}
use Rattle.rpc_laws.specs.declared.tables.Outgoing.{Outgoing}
use Rattle.rpc_laws.specs.declared.tables.Served.{Served}
use Rattle.rpc_laws.specs.declared.tables.Server.{Server}
use Rattle.rpc_laws.specs.BufferSafety.{OwnControl, SpellsOwn, SentRight}
use Rattle.rpc_laws.specs.BufferSafety.{changed, nodes_at}
use Rattle.rpc_laws.specs.Front.{front_header, front_body}
use Rattle.rpc_laws.specs.Lives.{first_life}
use Rattle.rpc_laws.specs.NodeLists.{after, new_lists}
use Rattle.rpc_laws.specs.Pacing.{due_of}
use Rattle.rpc_laws.specs.Packets.{request_packet, reply_packet, owner_packet}
use Rattle.rpc_laws.specs.Requests.{server_end, is_server, is_request, in_slot_of}
use Rattle.rpc_laws.specs.Sessions.{is_client}
use Rattle.end_laws.specs.Moments.{Moment, moved}
use Rattle.node_laws.specs.Valid.{Valid, client_no}
use Rattle.node_laws.proofs.LengthLemmas.{ask-length, HasBody, reply-length}
use Rattle.node_laws.proofs.NumberLemmas.{numbered-found}
use Rattle.node_laws.proofs.TimerLemmas.{own-names}
use Rattle.end_laws.proofs.Allowed.{AsksAt, May, MaySend}
use Rattle.end_laws.proofs.Courses.{AtNode, Ends}
use Rattle.end_laws.proofs.Courses.{client_fact, server_fact, paired, noted_at, moved-node}
use Rattle.end_laws.proofs.JobLemmas.{jobs-right, jobs-added}
use Rattle.end_laws.proofs.ListLemmas.{Placed, all-found, all-map, all-add}
use Rattle.end_laws.proofs.ListLemmas.{set-placed, add-placed}
use Rattle.end_laws.proofs.QueueLemmas.{Stood, QueueRight, RightNode, slots-right, queue-after}
use Rattle.end_laws.proofs.QueueLemmas.{queued-right, stood-added}
use Rattle.end_laws.proofs.Rights.{SlotRight}
use Rattle.end_laws.proofs.SessionLemmas.{Over, alone-after, made-alone, over-added}
use Rattle.end_laws.proofs.SlotLemmas.{Apart, sound-stays, slot-of-request}
use Rattle.end_laws.proofs.Walks.{Stays}
use Rattle.rpc_base.specs.declared.limits.Limits.{Limits}
use Rattle.rpc_base.specs.declared.event.Event.TheVariants.{Restarted}
use Rattle.rpc_laws.specs.BufferSafety.{anew}
use Rattle.rpc_laws.specs.NodeLists.{limits_of, restarted_lists}
use Rattle.rpc_laws.specs.Facts.{plain}

request-length : (l : Lists) (t r k : ℕ) (v : Server) (q : Option Served) (out : Outgoing)
    → RightNode l → Stood l.servers t r k → find (is_server t) l.servers ≡ Some v
    → find (is_request r) v.slots ≡ q → request_packet v.way k q ≡ Some out → HasBody out
request-length l t r k v None out i s is at h = cc
request-length l t r k v (Some q) out i s is at h =
    let apart : Apart v.slots = all-found (λ v. Apart v.slots) (is_server t) l.servers v i.sound is in
    let slots : AllByRecursion SlotRight v.slots =
    all-found (λ v. AllByRecursion SlotRight v.slots)
    (is_server t) l.servers v i.slots is in
    let found = s.found in
    let same : s.server ≡ v = cc in
    let in_slot : find (in_slot_of r) v.slots ≡ Some s.request =
    subst (λ (z : Server). find (in_slot_of r) z.slots ≡ Some s.request) same s.in_slot in
    let also = slot-of-request r v.slots q apart at in
    let same_request : s.request ≡ q = cc in
    let number : r ≡ s.request.number =
    sym (eqb-true q.number r (find-passes (is_request r) v.slots q at))
    ∙ ap (λ (z : Served). z.number) (sym same_request) in
    let lt : k < q.taken = subst (λ (z : Served). k < z.taken) same_request (s.was_taken number) in
    reply-length v.way q k out lt (all-found SlotRight (is_request r) v.slots q slots at).taken h

server-length : (l : Lists) (t r k : ℕ) (v : Option Server) (out : Outgoing) → RightNode l
    → Over l.servers l.server_numbers t ⊎ Stood l.servers t r k
    → find (is_server t) l.servers ≡ v → reply_packet r k v ≡ Some out → HasBody out
server-length l t r k None out i s is h = cc
server-length l t r k (Some v) out i (inl o) is h = let gone = o.gone in cc
server-length l t r k (Some v) out i (inr s) is h = request-length l t r k v _ out i s is refl h

pub owner-length : (l : Lists) (o : Owner) (k : ℕ) (out : Outgoing) → RightNode l
    → QueueRight l.servers l.server_numbers o k → owner_packet l o k ≡ Some out → HasBody out
owner-length l (Ask s r) k out i q h = ask-length r k (find (is_client s) l.clients) out h
owner-length l (Reply t r) k out i q h = server-length l t r k _ out i q refl h
owner-length l Control k out i q h = cc

spells-own : (nodes : List Lists) (n : ℕ) (l : Lists) (peer : ℕ) (o : Owner) (k : ℕ)
    (head body : List ℕ) → slice_get nodes n ≡ Some l → RightNode l → MaySend l peer o k head body
    → SpellsOwn nodes n peer o k head body
spells-own nodes n l peer o k head body is i m =
    let right = all-at (λ q. QueueRight l.servers l.server_numbers q.owner q.number)
    l.queued 0 _ i.queue m.is_front in
    let long = owner-length l o k m.out i right m.own in
    record {
      lists = l;
      is_node = is;
      out = m.out;
      own = m.own;
      to_peer = m.to_peer;
      long = m.long;
      bytes = m.bytes;
      spells = rw m.whole (spells-append m.out.packet head m.out.body m.in_range m.has_head m.long long);
      whole = m.whole;
    }

-- a session's own request names it, and its session is found by that number
own-control : (l : Lists) (peer : ℕ) (h : ControlHeader) → Valid l
    → AsksAt l peer h ⊎ OwnControl l peer h → OwnControl l peer h
own-control l peer h v (inl a) =
    let x = a.client in
    let number = own-names l.life x.state x.way x.limit h a.own in
    let found = numbered-found client_no 0 a.place l.clients x v.numbered a.is_there in
    OwnControl.asks x (record {
      found = ap (λ (n : ℕ). find (is_client n) l.clients) number ∙ found;
      to_peer = a.to_peer;
    }) a.own
own-control l peer h v (inr o) = o

pub sent-right : (nodes : List Lists) (n : ℕ) (hand : Option InFlight) (l : Lists) (e : Event)
    (first second : List ℕ) → slice_get nodes n ≡ Some l → RightNode l → Valid l
    → May hand l e first second → SentRight nodes n e first second
sent-right nodes n hand l (Sent peer (Ask s r) k) first second is i v m =
    spells-own nodes n l peer (Ask s r) k first second is i m
sent-right nodes n hand l (Sent peer (Reply t r) k) first second is i v m =
    spells-own nodes n l peer (Reply t r) k first second is i m
sent-right nodes n hand l (Sent peer Control k) first second is i v m = record {
  lists = l;
  is_node = is;
  header = m.header;
  own = own-control l peer m.header v m.own;
  no_number = m.no_number;
  bytes = m.bytes;
  spells = m.spells;
  whole = m.whole;
}
sent-right nodes n hand l _ first second is i v m = tt

-- a node stays right by its own facts
pub right-stays : Stays RightNode
right-stays hand clock l f a i = record {
  sound = sound-stays clock l f i.sound;
  slots = slots-right hand l f.event f.first f.second i.jobs a.may i.slots;
  queue = all-map _ _ _ (λ q. queue-after hand l f.event f.first f.second q.owner q.number i.sound
      i.alone a.may) (queued-right hand l f.event f.first f.second
      (due_of clock f.event l.paces) a.may
      i.queue);
  jobs = jobs-right hand l f.event f.first f.second i a.may;
  alone = λ t. alone-after t hand l f.event f.first f.second (front_header l.ring)
      (front_body l.ring) a.may (i.alone t);
}

server-added : (n peer c credits life used : ℕ) (xs : List Server) (o : Owner) (k : ℕ) → n ≡ used
    → QueueRight xs used o k
    → QueueRight (xs ++ server_end n peer c credits life ∷ []) (used + 1) o k
server-added n peer c credits life used xs (Ask s r) k e h = tt
server-added n peer c credits life used xs Control k e h = tt
server-added n peer c credits life used xs (Reply t r) k e (inl o) =
    inl (over-added t n peer c credits life used xs e o)
server-added n peer c credits life used xs (Reply t r) k e (inr h) =
    inr (stood-added xs (server_end n peer c credits life) t r k h)

-- so it does by a pairing
pub right-client : (clock n m credits : ℕ) (client server : Lists) → RightNode client
    → RightNode (after clock client (client_fact n m credits client server))
right-client clock n m credits client server i =
    record { sound = i.sound; slots = i.slots; queue = i.queue; jobs = i.jobs; alone = i.alone }

pub right-served : (clock m n credits : ℕ) (client server : Lists) → RightNode server
    → RightNode (after clock server (server_fact n m credits client server))
right-served clock m n credits client server i = record {
  sound = sound-stays clock server (server_fact n m credits client server) i.sound;
  slots = all-add (λ v. AllByRecursion SlotRight v.slots) server.servers _ i.slots tt;
  queue = all-map _ _ _ (λ q. server-added server.server_numbers n (length client.clients) credits client.life
      server.server_numbers server.servers q.owner q.number refl) i.queue;
  jobs = jobs-added server.server_numbers n (length client.clients) credits client.life server.server_numbers
      server.servers server.jobs refl i.jobs;
  alone = λ t. made-alone t server.server_numbers n (length client.clients) credits client.life
      server.server_numbers server.servers refl (i.alone t);
}

abbrev pub AllRight : Moment → Type 0
AllRight w = Placed (λ n l. RightNode l) w.nodes

pub right-noted : (w : Moment) (n : ℕ) (l : Lists) (f : Fact) → AtNode w n l f → AllRight w → AllRight (moved w f)
right-noted w n l f a i =
    let k : AllRight (noted_at w n l f) =
    set-placed (λ n l. RightNode l) w.nodes n l (after w.clock l f) a.is_node
    (right-stays w.hand w.clock l f a.allowed (i n l a.is_node)) (λ j z ne is. i j z is) in
    subst AllRight (sym (moved-node w n l f a)) k

pub right-net : (w : Moment) (f : Fact) → f.who ≡ Net → AllRight w → AllRight (moved w f)
right-net w f who i = subst (λ (p : Who). Placed (λ n l. RightNode l) (nodes_at w.clock p w.nodes f)) (sym who) i

pub right-new : (me life : ℕ) (limits : Limits) → RightNode (new_lists me life limits)
right-new me life limits = record {
  sound = tt;
  slots = tt;
  queue = tt;
  jobs = record { out = tt; once = λ t r. omega arith };
  alone = λ t. at-most-one (leb 0 t);
}

pub right-made : (w : Moment) (limits : Limits) → AllRight w
    → Placed (λ n l. RightNode l) (w.nodes ++ new_lists (length w.nodes) first_life limits ∷ [])
right-made w limits i =
    add-placed (λ n l. RightNode l) w.nodes (new_lists (length w.nodes) first_life limits)
    (right-new (length w.nodes) first_life limits) i

pub right-paired : (w : Moment) (n m credits : ℕ) (client server : Lists)
    → Ends w n m credits client server → AllRight w → AllRight (paired w n m credits client server)
right-paired w n m credits client server e i =
    let one : Fact = client_fact n m credits client server in
    let other : Fact = server_fact n m credits client server in
    let nodes1 : List Lists = slice_set w.nodes n (after w.clock client one) in
    let was = i n client e.is_client in
    let placed1 : Placed (λ n l. RightNode l) nodes1 =
    set-placed (λ n l. RightNode l) w.nodes n client (after w.clock client one) e.is_client
    (right-client w.clock n m credits client server was) (λ j z ne is. i j z is) in
    let at : slice_get nodes1 m ≡ Some server =
    set-other w.nodes n m (after w.clock client one) (λ k. e.two (sym k)) ∙ e.is_server in
    let placed2 = set-placed (λ n l. RightNode l) nodes1 m server (after w.clock server other)
    at (right-served w.clock m n credits client server (placed1 m server at))
    (λ j z ne is. placed1 j z is) in
    let first : changed w.clock (slice_get w.nodes n) n w.nodes one ≡ nodes1 =
    ap (λ (o : Option Lists). changed w.clock o n w.nodes one) e.is_client in
    let all : (paired w n m credits client server).nodes
    ≡ slice_set nodes1 m (after w.clock server other) =
    ap (λ (ns : List Lists). changed w.clock (slice_get ns m) m ns other) first
    ∙ ap (λ (o : Option Lists). changed w.clock o m nodes1 other) at in
    subst (λ (ns : List Lists). Placed (λ n l. RightNode l) ns) (sym all) placed2

-- by a restart
pub right-restart : (w : Moment) (n : ℕ) (l : Lists) → slice_get w.nodes n ≡ Some l → AllRight w
    → AllRight (moved w (plain n (Restarted (l.life + 1))))
right-restart w n l is i =
    subst (λ (o : Option Lists). Placed (λ n l. RightNode l) (anew o n w.nodes)) (sym is)
    (set-placed (λ n l. RightNode l) w.nodes n l (restarted_lists l) is
    (right-new l.me (l.life + 1) (limits_of l)) (λ j z ne at. i j z at))
