-- No message finds a full ring in a calm history.
use Rattle.rpc_base.specs.declared.limits.Limits.{Limits}
use Rattle.std.proofs.Common.{append-nil}
use Rattle.std.proofs.Common.{◌≡◌, ◌<◌, ◌≤◌, ◌+◌, ◌==◌, ◌⊎◌, inl, inr, ℕ, Bool, true, false, cond}
use Rattle.std.proofs.Common.{List, [], nat_lt, ltb-true, ltb-false}
use Rattle.std.proofs.Common.{◌∷◌, ◌++◌}
use Rattle.std.proofs.Common.{length, Option, Some, None, slice_get, refl, sym, ap, ◌∙◌, subst}
use Rattle.std.proofs.Common.{arith}
use Rattle.std.specs.Prelude.{Result, Ok, Err, drop, IfSome}
use Rattle.std.specs.List.{find, list_any, slice_set, AllByRecursion}
use Rattle.std.proofs.lemmas.Bool.{eqb-true, eqb-false}
use Rattle.packet_header.specs.Reading.{decoded, message_in, message_of}
use Rattle.packet_header.specs.declared.packet.BadPacket.{BadPacket}
use Rattle.packet_header.specs.declared.packet.ControlHeader.{ControlHeader}
use Rattle.packet_header.specs.declared.packet.MessageHeader.{MessageHeader}
use Rattle.packet_header.specs.declared.packet.Packet.{Packet}
use Rattle.packet_header.specs.declared.packet.Packet.TheVariants.{Message}
use Rattle.packet_header.specs.declared.packet.Packet.TheVariants.{Control as ControlPacket}
use Rattle.packet_header.proofs.Readings.{spells-decoded}
use Rattle.rpc_base.specs.declared.event.Event.{Event}
use Rattle.rpc_base.specs.declared.event.Event.TheVariants.{Accepted, Again, Arrived, Dropped}
use Rattle.rpc_base.specs.declared.event.Event.TheVariants.{Ended}
use Rattle.rpc_base.specs.declared.event.Event.TheVariants.{Given, Made, Overflowed, PairedServer}
use Rattle.rpc_base.specs.declared.event.Event.TheVariants.{Ran}
use Rattle.rpc_base.specs.declared.event.Event.TheVariants.{Repeated, Restarted, Rolled, Sent, Took}
use Rattle.rpc_base.specs.declared.fact.Fact.{Fact}
use Rattle.rpc_base.specs.declared.fact.Who.{Who}
use Rattle.rpc_base.specs.declared.fact.Who.TheVariants.{Net}
use Rattle.rpc_base.specs.declared.owner.Owner.{Owner}
use Rattle.rpc_base.specs.declared.owner.Owner.TheVariants.{Ask, Control, Reply}
use Rattle.rpc_base.proofs.BasicLemmas.{false-true, or-false}
use Rattle.rpc_laws.specs.declared.tables.Arrival.{Arrival}
use Rattle.rpc_laws.specs.declared.tables.InFlight.{InFlight}
use Rattle.rpc_laws.specs.declared.tables.Lists.{Lists}
use Rattle.rpc_laws.specs.declared.tables.Server.{Server}
use Rattle.rpc_base.specs.declared.state.SessionState.{SessionState}
use Rattle.rpc_base.specs.declared.state.SessionState.TheVariants.{Unknown, Connecting, Connected}
use Rattle.rpc_base.specs.declared.state.SessionState.TheVariants.{Closing, Closed, Failed, Broken}
use Rattle.rpc_base.specs.declared.state.SessionState.TheVariants.{Spent}
use Rattle.rpc_laws.specs.declared.tables.Way.{Way}
use Rattle.rpc_laws.specs.BufferSafety.{OwnControl}
use Rattle.rpc_laws.specs.ControlSteps.{request_by}
use Rattle.rpc_laws.specs.Endpoints.{Endpoint, Lived, told}
use Rattle.rpc_laws.specs.Facts.{plain}
use Rattle.rpc_laws.specs.Front.{control_in, control_of, front_body, front_header, is_message}
use Rattle.rpc_laws.specs.Lives.{first_life}
use Rattle.rpc_laws.specs.NodeLists.{after, new_lists}
use Rattle.rpc_laws.specs.OwnAnswer.{AtEach}
use Rattle.rpc_laws.specs.Queues.{ring_after}
use Rattle.rpc_laws.specs.Requests.{answered, given, is_request, is_server, server_end}
use Rattle.rpc_laws.specs.Requests.{servers_after, took_packet}
use Rattle.rpc_laws.specs.UsualLimits.{with_ring}
use Rattle.rpc_base.specs.Tables.{at_first}
use Rattle.rpc_base.proofs.PlaceLemmas.{set-here, set-other}
use Rattle.node_laws.specs.Valid.{Valid}
use Rattle.end_laws.specs.Genuine.{Travels}
use Rattle.end_laws.specs.Kinds.{is_ask}
use Rattle.end_laws.specs.Moments.{first_moment, Moment, moved}
use Rattle.end_laws.specs.TwoEnds.{here, peer_of}
use Rattle.end_laws.proofs.Allowed.{AsksAt, Linked, May, MayLeave, MayOutdate}
use Rattle.end_laws.proofs.OwnLaw.{good-clocked}
use Rattle.end_laws.proofs.Courses.{made_as, made_at, resets, clocked, at_node, AtNode, client_fact, Course, Ends, in_net, latest}
use Rattle.end_laws.proofs.Courses.{made, moved-node}
use Rattle.end_laws.proofs.Courses.{over, paired, pairs, restarts, server_fact}
use Rattle.end_laws.proofs.GoodStart.{first-good}
use Rattle.end_laws.proofs.GoodSteps.{NewEnds, next-made, next-net, next-node}
use Rattle.end_laws.proofs.Known.{End, Good, IsAhead, Known, LiveAt, Unmade}
use Rattle.end_laws.proofs.LetGoSteps.{clients-kin, GoneFrom, kin-added, kin-same, sent-gone}
use Rattle.end_laws.proofs.ListLemmas.{add-keeps, add-placed, all-add, find-add, Placed}
use Rattle.end_laws.proofs.ListLemmas.{set-placed}
use Rattle.end_laws.proofs.OwnLaw.{next-paired}
use Rattle.end_laws.proofs.QueueLemmas.{found-ended, is_end, RightNode, server-after}
use Rattle.end_laws.proofs.SendsLaw.{AllRight, right-made, right-net, right-noted, right-paired}
use Rattle.end_laws.proofs.SendsLaw.{right-restart}
use Rattle.end_laws.proofs.ServerLemmas.{server-at}
use Rattle.end_laws.proofs.TravelLemmas.{inboxes-made, rings-made, SentGives, travels-map}
use Rattle.end_laws.proofs.TravelLemmas.{travels-net, travels-node}
use Rattle.end_laws.proofs.TravelLemmas.{travels-paired}
use Rattle.end_laws.proofs.Valids.{AllValid, valid-made, valid-net, valid-node, valid-pair}
use Rattle.end_laws.proofs.Valids.{valid-restart}
use Rattle.ring_laws.specs.CalmRing.{Calm, Fits, FitsAt, is_rough}
use Rattle.ring_laws.proofs.CalmSteps.{calm-step, CalmClient, CalmNode, no-break}
use Rattle.ring_laws.proofs.ClientSteps.{no_roll}
use Rattle.ring_laws.proofs.Coverage.{AllMessages, has-place, Met}
use Rattle.ring_laws.proofs.Loads.{Pairing}
use Rattle.ring_laws.proofs.SentReads.{Reads, sent-reads}
use Rattle.ring_laws.proofs.FirstLives.{first-lives, FirstLives}
use Rattle.ring_laws.proofs.FirstSteps.{first-made, first-net, first-node, first-pair}
use Rattle.ring_laws.proofs.Standing.{Alive, client-first, client-to, Comes, comes-kin, copies-kin, EndOf, FitsIn}
use Rattle.ring_laws.proofs.Standing.{fits-before}
use Rattle.ring_laws.proofs.Standing.{gone-at-kin, GoneAt, JoinedTo, kin-more, kin-self, kin-set}
use Rattle.ring_laws.proofs.Standing.{kin-then}
use Rattle.ring_laws.proofs.Standing.{LetsGoCopy, LivesIn, NodesKin, slot-first, slot-joined}
use Rattle.ring_laws.proofs.WithinSteps.{no_repeat, nodes1, nodes-net, paired-nodes, is_server1}
use Rattle.ring_laws.proofs.WithinSteps.{lists1, lists2}
use Rattle.ring_laws.proofs.WithinSteps.{within-made, within-net, within-node, within-pair}
use Rattle.ring_laws.proofs.WorldSteps.{said-none}

-- what is sent comes to the other end
comes-by : (w : Moment) (g : Good w) → FirstLives w → (n : ℕ) (l : Lists) (peer : ℕ) (o : Owner)
    (k : ℕ) (bytes : List ℕ)
    → slice_get w.nodes n ≡ Some l → Reads l peer o k bytes → Comes w.nodes n peer bytes
comes-by w g lives n l peer (Ask s r) k bytes is r0 = λ h reads.
    let from = r0.from in
    let head = from.goes.header in
    let c = from.client in
    let own = r0.read head from.goes.is_message in
    let same : head ≡ h = cc in
    let j = client-to w g lives n l s r c from.call is from.found from.active in
    let life = client-first w g lives n l s r c from.call is from.found from.active in
    let to_peer : c.way.peer ≡ peer = sym (r0.to_peer ∙ from.goes.peer) in
    let there : JoinedTo w.nodes n s peer head.session =
    subst (λ (i : ℕ). JoinedTo w.nodes n s i head.session) to_peer
    (subst (λ (i : ℕ). JoinedTo w.nodes n s c.way.peer i) (sym from.goes.to) j) in
    let end : EndOf w.nodes n peer (is_ask head.kind) head.session =
    subst (λ (b : Bool). EndOf w.nodes n peer b head.session) (sym from.goes.asks) (s, there) in
    subst (λ (z : MessageHeader). (z.to_life ≡ first_life)
    × EndOf w.nodes n peer (is_ask z.kind) z.session) same (from.goes.life ∙ life, end)
comes-by w g lives n l peer (Reply t r) k bytes is r0 = λ h reads.
    let from = r0.from in
    let head = from.goes.header in
    let v = from.server in
    let own = r0.read head from.goes.is_message in
    let same : head ≡ h = cc in
    let j = slot-joined w g lives n l t (is_request r) v from.request is from.found
    from.is_there in
    let life = slot-first w g lives n l t (is_request r) v from.request is from.found
    from.is_there in
    let to_peer : v.way.peer ≡ peer = sym (r0.to_peer ∙ from.goes.peer) in
    let there : JoinedTo w.nodes peer head.session n t =
    subst (λ (i : ℕ). JoinedTo w.nodes i head.session n t) to_peer
    (subst (λ (i : ℕ). JoinedTo w.nodes v.way.peer i n t) (sym from.goes.to) j) in
    let end : EndOf w.nodes n peer (is_ask head.kind) head.session =
    subst (λ (b : Bool). EndOf w.nodes n peer b head.session) (sym from.goes.asks) (t, there) in
    subst (λ (z : MessageHeader). (z.to_life ≡ first_life)
    × EndOf w.nodes n peer (is_ask z.kind) z.session) same (from.goes.life ∙ life, end)
comes-by w g lives n l peer Control k bytes is r0 = absurd r0.from

none-some : {A B : Type 0} (o : Option A) (x : A) → o ≡ None → o ≡ Some x → B
none-some o x e f = cc

sent-comes : (w : Moment) (g : Good w) → FirstLives w → (n : ℕ) (l : Lists) (e : Event)
    (first second : List ℕ)
    → slice_get w.nodes n ≡ Some l → RightNode l → May w.hand l e first second
    → SentGives (Comes w.nodes) n e first second
sent-comes w g lives n l (Sent peer (Ask s r) k) first second is i may =
    comes-by w g lives n l peer (Ask s r) k (first ++ second) is
    (sent-reads l peer (Ask s r) k first second i may)
sent-comes w g lives n l (Sent peer (Reply t r) k) first second is i may =
    comes-by w g lives n l peer (Reply t r) k (first ++ second) is
    (sent-reads l peer (Reply t r) k first second i may)
sent-comes w g lives n l (Sent peer Control k) first second is i may = λ h reads.
    none-some (message_of (first ++ second)) h (said-none l peer k first second may) reads
sent-comes w g lives n l _ first second is i may = tt

-- a message is no control packet
message-alone : (r : Result Packet BadPacket) (h : MessageHeader) → message_in r ≡ Some h
    → control_in r ≡ None
message-alone (Ok (Message m)) h e = refl
message-alone (Ok (ControlPacket c)) h e = cc
message-alone (Err bad) h e = cc

owner-leaves : (w : Moment) (n : ℕ) (l : Lists) (peer : ℕ) (o : Owner) (k : ℕ) (bytes : List ℕ)
    → Reads l peer o k bytes → LetsGoCopy w.nodes n peer bytes
owner-leaves w n l peer (Ask s r) k bytes r0 = λ h reads.
    none-some (control_of bytes) h (message-alone (decoded bytes) r0.from.goes.header
    (r0.read r0.from.goes.header r0.from.goes.is_message)) reads
owner-leaves w n l peer (Reply t r) k bytes r0 = λ h reads.
    none-some (control_of bytes) h (message-alone (decoded bytes) r0.from.goes.header
    (r0.read r0.from.goes.header r0.from.goes.is_message)) reads
owner-leaves w n l peer Control k bytes r0 = absurd r0.from

-- a control packet tells the life of the node that says it
request-life : (own : ℕ) (state : SessionState) (way : Way) (credits : ℕ) (h : ControlHeader)
    → request_by own state way credits ≡ Some h → h.from_life ≡ own
request-life own Connecting way credits h e = cc
request-life own Closing way credits h e = cc
request-life own Unknown way credits h e = cc
request-life own Connected way credits h e = cc
request-life own Closed way credits h e = cc
request-life own Failed way credits h e = cc
request-life own Broken way credits h e = cc
request-life own Spent way credits h e = cc

said-life : (l : Lists) (peer : ℕ) (h : ControlHeader) → AsksAt l peer h ⊎ OwnControl l peer h
    → h.from_life ≡ l.life
said-life l peer h (inl a) =
    request-life l.life a.client.state a.client.way a.client.limit h a.own
said-life l peer h (inr (OwnControl.asks x opened own)) =
    request-life l.life x.state x.way x.limit h own
said-life l peer h (inr (OwnControl.confirms to u w e found ends)) =
    ap (λ (c : ControlHeader). c.from_life) e
said-life l peer h (inr (OwnControl.declines to e none)) =
    ap (λ (c : ControlHeader). c.from_life) e
said-life l peer h (inr (OwnControl.disowns to x opened e row)) =
    ap (λ (c : ControlHeader). c.from_life) e
said-life l peer h (inr (OwnControl.ends to e none)) =
    ap (λ (c : ControlHeader). c.from_life) e
said-life l peer h (inr (OwnControl.misses to e none)) =
    ap (λ (c : ControlHeader). c.from_life) e

pub sent-leaves : (w : Moment) (n : ℕ) (l : Lists) (e : Event) (first second : List ℕ)
    → slice_get w.nodes n ≡ Some l → RightNode l → Valid l → May w.hand l e first second
    → SentGives (LetsGoCopy w.nodes) n e first second
sent-leaves w n l (Sent peer (Ask s r) k) first second is i v may =
    owner-leaves w n l peer (Ask s r) k (first ++ second)
    (sent-reads l peer (Ask s r) k first second i may)
sent-leaves w n l (Sent peer (Reply t r) k) first second is i v may =
    owner-leaves w n l peer (Reply t r) k (first ++ second)
    (sent-reads l peer (Reply t r) k first second i may)
sent-leaves w n l (Sent peer Control k) first second is i v may = λ h reads.
    let whole : first ++ second ≡ first = ap (λ (b : List ℕ). first ++ b) may.whole
    ∙ append-nil first in
    let mine : control_of first ≡ Some may.header =
    ap control_in (spells-decoded (ControlPacket may.header) first may.spells) in
    let told : control_of first ≡ Some h = ap control_of (sym whole) ∙ reads in
    let same : may.header ≡ h = cc in
    let life : h.from_life ≡ l.life =
    ap (λ (c : ControlHeader). c.from_life) (sym same) ∙ said-life l peer may.header may.own in (
      record { lists = l; is_node = is; reached = omega arith },
      λ kind t life_is names goes. record {
        lists = l;
        is_node = is;
        reached = omega arith;
        gone = λ e. subst (λ (c : ControlHeader). GoneFrom l.clients c.client t life_is) same
            (sent-gone l v peer t life_is may.header may.own
            (ap (λ (c : ControlHeader). c.kind) same ∙ kind)
            (ap (λ (c : ControlHeader). c.server) same ∙ names)
            (ap (λ (c : ControlHeader). c.to_life) same ∙ goes));
      },
    )
sent-leaves w n l _ first second is i v may = tt

-- the server sessions that are there, after another fact
abbrev pub StaysAlive : Known → List Lists → List Lists → Type 0
StaysAlive j nodes others =
    (m : Endpoint) (t : ℕ) (e : End) → j.ends m t 0 ≡ Some e → LivesIn nodes m t
    → LivesIn others m t ⊎ GoneAt others e.home e.client t m.life

-- one that is known has been made
new-lives : (k : Known) (nodes : List Lists) → Unmade k nodes → (m : Endpoint) (t : ℕ) (e : End)
    → k.ends m t 0 ≡ Some e → LiveAt nodes m.node t → LivesIn nodes m t
new-lives k nodes unmade m t e is live = by (nat_lt live.lists.life m.life) refl
  where
    by : (b : Bool) → nat_lt live.lists.life m.life ≡ b → LivesIn nodes m t
    by true less =
        let ahead : IsAhead nodes m =
        inr (live.lists, live.is_node, ltb-true live.lists.life m.life less) in
        let none = unmade.ends m t ahead in
        absurd (cc)
    by false less =
        record {
          lists = live.lists;
          is_node = live.is_node;
          reached = ltb-false live.lists.life m.life less;
          there = λ same. (live.server, live.found);
        }

pub alive-next : (j k : Known) (nodes others : List Lists) → NewEnds others j k
    → Unmade k others
    → ((n : Endpoint) (s t life : ℕ) → GoneAt nodes n s t life → GoneAt others n s t life)
    → StaysAlive j nodes others → Alive j nodes → Alive k others
alive-next j k nodes others ends unmade goes stays alive m t e is =
    elim (ends m t e is) [
      | inl old ↦ elim (alive m t e old) [
        | inl live ↦ stays m t e old live
        | inr gone ↦ inr (goes e.home e.client t m.life gone)
      ]
      | inr new ↦ inl (new-lives k others unmade m t e is new)
    ]

-- a server session stays by each fact but its end
server-stays : (hand : Option InFlight) (l : Lists) (e : Event) (first second : List ℕ) (t : ℕ)
    (v : Server)
    → is_end e ≡ false → May hand l e first second → find (is_server t) l.servers ≡ Some v
    → (u : Server) × (find (is_server t)
    (servers_after e second (front_header l.ring) (front_body l.ring) l.servers) ≡ Some u)
server-stays hand l (PairedServer n p c k life) first second t v live m is = absurd m
server-stays hand l (Accepted n p c k life) first second t v live m is =
    (v, find-add (is_server t) l.servers (server_end n p c k life) v is)
server-stays hand l (Ended n) first second t v live m is = false-true (sym live)
server-stays hand l (Took (Reply n r) k) first second t v live m is =
    elim (server-after t n (took_packet r (front_header l.ring) (front_body l.ring)) l.servers v
    is) [
      | inl e ↦ (v, e)
      | inr c ↦ (_, c.is)
    ]
server-stays hand l (Took (Ask n r) k) first second t v live m is = (v, is)
server-stays hand l (Took Control k) first second t v live m is = (v, is)
server-stays hand l (Given n r) first second t v live m is =
    elim (server-after t n (at_first (is_request r) given) l.servers v is) [
      | inl e ↦ (v, e)
      | inr c ↦ (_, c.is)
    ]
server-stays hand l (Ran n r y) first second t v live m is =
    elim (server-after t n (at_first (is_request r) (answered second)) l.servers v is) [
      | inl e ↦ (v, e)
      | inr c ↦ (_, c.is)
    ]
server-stays hand l _ first second t v live m is = (v, is)

abbrev ServersNow : Lists → Event → List ℕ → List Server
ServersNow l e second = servers_after e second (front_header l.ring) (front_body l.ring) l.servers

-- a session that ends was let go of
module _ (w : Moment) (g : Good w) (leaves : Travels (LetsGoCopy w.nodes) w) (n : ℕ) (l : Lists)
    (is : slice_get w.nodes n ≡ Some l) where
  in-hand : (o : Option InFlight) (c : InFlight) → o ≡ Some c
      → IfSome o (λ c. LetsGoCopy w.nodes c.from c.to c.bytes)
      → LetsGoCopy w.nodes c.from c.to c.bytes
  in-hand None c e h = cc
  in-hand (Some d) c e h = let same : d ≡ c =
      cc in subst (λ (z : InFlight). LetsGoCopy w.nodes z.from z.to z.bytes) same h

  ended-end : (t : ℕ) (e : End) (v : Server) → g.known.ends (here n l) t 0 ≡ Some e
      → find (is_server t) l.servers ≡ Some v
      → e ≡ record { home = peer_of v.way; client = v.way.other; credits = v.credits }
  ended-end t e v known found =
      let at = server-at g.known (here n l) l.servers t v (g.nodes n l is).servers found in
      let mine : End = record { home = peer_of v.way; client = v.way.other; credits = v.credits } in
      let own : g.known.ends (here n l) t 0 ≡ Some mine =
      subst (λ (i : ℕ). g.known.ends (here n l) i 0 ≡ Some mine) at.1 at.0.session.end in
      cc

  pub ended-gone : (t : ℕ) (e : End) → g.known.ends (here n l) t 0 ≡ Some e
      → MayLeave w.hand l t ⊎ MayOutdate w.hand l t → GoneAt w.nodes e.home e.client t l.life
  ended-gone t e known (inl m) =
      let h = m.hears in
      let copy = in-hand w.hand (record { from = h.peer; to = l.me; bytes = h.bytes })
      h.in_hand leaves.hand in
      let gone = (copy h.header h.reads).1 h.of_kind t l.life m.names m.for_us in
      let same = ended-end t e m.server known m.found in
      let home : record { node = h.peer; life = h.header.from_life } ≡ e.home =
      ap (λ (i : ℕ). record { node = i; life = h.header.from_life }) (sym m.of_peer)
      ∙ (ap (λ (i : ℕ). record { node = m.server.way.peer; life = i }) (sym m.of_life)
      ∙ ap (λ (z : End). z.home) (sym same)) in
      let client : h.header.client ≡ e.client =
      sym m.of_client ∙ ap (λ (z : End). z.client) (sym same) in
      subst (λ (a : Endpoint). GoneAt w.nodes a e.client t l.life) home
      (subst (λ (i : ℕ). GoneAt w.nodes (record { node = h.peer; life = h.header.from_life }) i t
      l.life) client gone)
  ended-gone t e known (inr m) =
      let h = m.hears in
      let copy = in-hand w.hand (record { from = h.peer; to = l.me; bytes = h.bytes })
      h.in_hand leaves.hand in
      let far = (copy h.header h.reads).0 in
      let same = ended-end t e m.server known m.found in
      let home : e.home ≡ peer_of m.server.way = ap (λ (z : End). z.home) same in
      let older = m.older in
      let reached = far.reached in
      let less : m.server.way.life < far.lists.life = omega arith in
      let node : slice_get w.nodes m.server.way.peer ≡ Some far.lists =
      ap (slice_get w.nodes) m.of_peer ∙ far.is_node in
      subst (λ (a : Endpoint). GoneAt w.nodes a e.client t l.life) (sym home)
      (record {
        lists = far.lists;
        is_node = node;
        reached = omega arith;
        gone = λ now. absurd (omega arith);
      })

  live-here : (e : Event) (first second : List ℕ) (t : ℕ) (v : Server) (end : End)
      → May w.hand l e first second → find (is_server t) l.servers ≡ Some v
      → g.known.ends (here n l) t 0 ≡ Some end
      → ((u : Server) × (find (is_server t) (ServersNow l e second) ≡ Some u))
      ⊎ GoneAt w.nodes end.home end.client t l.life
  live-here (Ended d) first second t v end m found known = by (d == t) refl
    where
      by : (b : Bool) → (d == t) ≡ b
          → ((u : Server) × (find (is_server t) (ServersNow l (Ended d) second) ≡ Some u))
          ⊎ GoneAt w.nodes end.home end.client t l.life
      by true e =
          let same = eqb-true d t e in
          inr (ended-gone t end known
          (subst (λ (i : ℕ). MayLeave w.hand l i ⊎ MayOutdate w.hand l i) same m))
      by false e = inl (v, found-ended d t l.servers v e found)
  live-here e first second t v end m found known =
      inl (server-stays w.hand l e first second t v refl m found)

pub live-node : (w : Moment) (g : Good w) (leaves : Travels (LetsGoCopy w.nodes) w) (n : ℕ)
    (l : Lists)
    (f : Fact) → AtNode w n l f → NodesKin w.nodes (slice_set w.nodes n (after w.clock l f))
    → StaysAlive g.known w.nodes (slice_set w.nodes n (after w.clock l f))
live-node w g leaves n l f a kin m t e known live = by (m.node == n) refl
  where
    set : List Lists
    set = slice_set w.nodes n (after w.clock l f)

    by : (b : Bool) → (m.node == n) ≡ b
        → LivesIn set m t ⊎ GoneAt set e.home e.client t m.life
    by false q =
        inl (record {
          lists = live.lists;
          is_node = set-other w.nodes n m.node (after w.clock l f) (eqb-false m.node n q)
              ∙ live.is_node;
          reached = live.reached;
          there = live.there;
        })
    by true q =
        let at = eqb-true m.node n q in
        let mine : slice_get w.nodes n ≡ Some live.lists = ap (slice_get w.nodes) (sym at)
        ∙ live.is_node in
        let node = a.is_node in
        let lists : live.lists ≡ l = cc in
        let reached : m.life ≤ l.life =
        subst (λ (z : Lists). m.life ≤ z.life) lists live.reached in
        let now : slice_get set m.node ≡ Some (after w.clock l f) =
        ap (slice_get set) at ∙ set-here w.nodes n l (after w.clock l f) a.is_node in
        pick at lists reached now (l.life == m.life) refl
      where
        pick : m.node ≡ n → live.lists ≡ l → m.life ≤ l.life
            → slice_get set m.node ≡ Some (after w.clock l f) → (b : Bool) → (l.life == m.life) ≡ b
            → LivesIn set m t ⊎ GoneAt set e.home e.client t m.life
        pick at lists reached now false apart =
            inl (record {
              lists = after w.clock l f;
              is_node = now;
              reached = reached;
              there = λ same. absurd (eqb-false l.life m.life apart same);
            })
        pick at lists reached now true same =
            let life = eqb-true l.life m.life same in
            let has = live.there (ap (λ (z : Lists). z.life) lists ∙ life) in
            let found : find (is_server t) l.servers ≡ Some has.0 =
            subst (λ (z : Lists). find (is_server t) z.servers ≡ Some has.0) lists has.1 in
            let one : m ≡ here n l =
            ap (λ (i : ℕ). record { node = i; life = m.life }) at
            ∙ ap (λ (i : ℕ). record { node = n; life = i }) (sym life) in
            let own : g.known.ends (here n l) t 0 ≡ Some e =
            ap (λ (i : Endpoint). g.known.ends i t 0) (sym one) ∙ known in
            elim (live-here w g leaves n l a.is_node f.event f.first f.second t has.0 e
            a.allowed.may found own) [
              | inl new ↦ inl (record {
                lists = after w.clock l f;
                is_node = now;
                reached = reached;
                there = λ here. new;
              })
              | inr gone ↦ inr (subst (λ (i : ℕ). GoneAt set e.home e.client t i) life
                  (gone-at-kin w.nodes set e.home e.client t l.life kin gone))
            ]

-- a ring gets messages alone
drop-all : (P : Arrival → Type 0) (ring : List Arrival) → AllByRecursion P ring
    → AllByRecursion P (drop 1 ring)
drop-all P [] h = tt
drop-all P (a ∷ ring) h = h.1

arrived-all : (b : Bool) (a : Arrival) (ring : List Arrival) → is_message a.bytes ≡ b
    → AllMessages ring
    → AllMessages (cond b (ring ++ a ∷ []) ring)
arrived-all true a ring e h = all-add (λ a. is_message a.bytes ≡ true) ring a h e
arrived-all false a ring e h = h

ring-all : (e : Event) (first : List ℕ) (ring : List Arrival) → AllMessages ring
    → AllMessages (ring_after e first ring)
ring-all (Arrived peer) first ring h =
    arrived-all (is_message first) (record { peer = peer; bytes = first }) ring refl h
ring-all (Took owner k) first ring h = drop-all (λ a. is_message a.bytes ≡ true) ring h
ring-all (Again owner k) first ring h = drop-all (λ a. is_message a.bytes ≡ true) ring h
ring-all (Dropped why) first ring h = drop-all (λ a. is_message a.bytes ≡ true) ring h
ring-all _ first ring h = h

-- what is so at another moment, and how what is known goes on
pub record MetNext (w u : Moment) (m : Met w) : Type 0 where
  pub met : Met u
  pub fits : (x : Pairing) → FitsIn met.good.known u.nodes x → FitsIn m.good.known w.nodes x

-- a fact of the network
pub met-net : (w : Moment) (f : Fact) → f.who ≡ Net → no_repeat f.event ≡ true → (m : Met w)
    → MetNext w (moved w f) m
met-net w f who calm m =
    let u = moved w f in
    let n = next-net w f who m.good in
    let same : u.nodes ≡ w.nodes = nodes-net w f who in
    let kin : NodesKin w.nodes u.nodes = subst (NodesKin w.nodes) (sym same) (kin-self w.nodes) in
    let before : (x : Pairing) → FitsIn n.good.known u.nodes x → FitsIn m.good.known w.nodes x =
    λ x fits. fits-before m.good.known n.good.known w.nodes u.nodes n.later kin x fits in
    record {
      met = record {
        good = n.good;
        lives = first-net w f who m.lives;
        comes = travels-map (Comes w.nodes) (Comes u.nodes) u (comes-kin w.nodes u.nodes kin)
            (travels-net (Comes w.nodes) w f who m.comes);
        leaves = travels-map (LetsGoCopy w.nodes) (LetsGoCopy u.nodes) u
            (copies-kin w.nodes u.nodes kin)
            (travels-net (LetsGoCopy w.nodes) w f who m.leaves);
        alive = alive-next m.good.known n.good.known w.nodes u.nodes n.ends n.good.unmade
            (λ a s t life gone. gone-at-kin w.nodes u.nodes a s t life kin gone)
            (λ i t e is live. inl (subst (λ (ns : List Lists). LivesIn ns i t) (sym same) live))
            m.alive;
        within = λ x fits. within-net w f x who calm (m.within x (before x fits));
        rings = subst (λ (ns : List Lists). Placed (λ n l. AllMessages l.ring) ns)
            (sym same) m.rings;
        calm = subst (λ (ns : List Lists). Placed (λ n l. CalmNode l) ns) (sym same) m.calm;
      };
      fits = before;
    }

pub met-node : (w : Moment) (n : ℕ) (l : Lists) (f : Fact) → AtNode w n l f → AllRight w
    → AllValid w
    → no_roll f.event ≡ true → (m : Met w) → MetNext w (moved w f) m
met-node w n l f a i v calm m =
    let u = moved w f in
    let g = next-node w n l f a i v m.good in
    let set : List Lists = slice_set w.nodes n (after w.clock l f) in
    let nodes_are : u.nodes ≡ set = ap (λ (z : Moment). z.nodes) (moved-node w n l f a) in
    let kin_set : NodesKin w.nodes set =
    kin-set w.nodes n l (after w.clock l f) a.is_node refl
    (clients-kin w.clock l f.event f.first (front_header l.ring) (front_body l.ring)
    (v n l a.is_node) a.lawful) in
    let kin : NodesKin w.nodes u.nodes = subst (NodesKin w.nodes) (sym nodes_are) kin_set in
    let stays : StaysAlive m.good.known w.nodes u.nodes =
    subst (λ (ns : List Lists). StaysAlive m.good.known w.nodes ns) (sym nodes_are)
    (live-node w m.good m.leaves n l f a kin_set) in
    let before : (x : Pairing) → FitsIn g.good.known u.nodes x → FitsIn m.good.known w.nodes x =
    λ x fits. fits-before m.good.known g.good.known w.nodes u.nodes g.later kin x fits in
    let quiet : Placed (λ n l. CalmNode l) set =
    set-placed (λ n l. CalmNode l) w.nodes n l (after w.clock l f) a.is_node
    (calm-step w.clock w.hand l f.event f.first f.second a.lawful calm a.allowed.may
    (m.calm n l a.is_node)) (λ j z ne is. m.calm j z is) in
    let rings : Placed (λ n l. AllMessages l.ring) set =
    set-placed (λ n l. AllMessages l.ring) w.nodes n l (after w.clock l f) a.is_node
    (ring-all f.event f.first l.ring (m.rings n l a.is_node)) (λ j z ne is. m.rings j z is) in
    record {
      met = record {
        good = g.good;
        lives = first-node w n l f a m.lives;
        comes = travels-map (Comes w.nodes) (Comes u.nodes) u (comes-kin w.nodes u.nodes kin)
            (travels-node (Comes w.nodes) w n l f a
            (sent-comes w m.good m.lives n l f.event f.first f.second
            a.is_node (i n l a.is_node) a.allowed.may) m.comes);
        leaves = travels-map (LetsGoCopy w.nodes) (LetsGoCopy u.nodes) u
            (copies-kin w.nodes u.nodes kin)
            (travels-node (LetsGoCopy w.nodes) w n l f a (sent-leaves w n l f.event f.first f.second
            a.is_node (i n l a.is_node) (v n l a.is_node) a.allowed.may) m.leaves);
        alive = alive-next m.good.known g.good.known w.nodes u.nodes g.ends g.good.unmade
            (λ b s t life gone. gone-at-kin w.nodes u.nodes b s t life kin gone) stays m.alive;
        within = λ x fits. within-node w n l f x a m.good m.lives (i n l a.is_node) (v n l a.is_node) calm
            (λ s e. no-break l s (subst
            (λ (z : Event). May w.hand l z f.first f.second) e a.allowed.may)
            (m.calm n l a.is_node)) (before x fits) (m.within x (before x fits));
        rings = subst (λ (ns : List Lists). Placed (λ n l. AllMessages l.ring) ns)
            (sym nodes_are) rings;
        calm = subst (λ (ns : List Lists). Placed (λ n l. CalmNode l) ns) (sym nodes_are) quiet;
      };
      fits = before;
    }

pub live-more : (nodes : List Lists) (new : Lists) (m : Endpoint) (t : ℕ) → LivesIn nodes m t
    → LivesIn (nodes ++ new ∷ []) m t
live-more nodes new m t live = record {
  lists = live.lists;
  is_node = add-keeps nodes new m.node live.lists live.is_node;
  reached = live.reached;
  there = live.there;
}

pub met-made : (w : Moment) (limits : Limits) → (m : Met w)
    → MetNext w (made_at w limits) m
met-made w limits m =
    let new = new_lists (length w.nodes) first_life limits in
    let u = made_at w limits in
    let g = next-made w limits m.good in
    let kin : NodesKin w.nodes u.nodes = kin-more w.nodes new in
    let comes = travels-map (Comes w.nodes) (Comes u.nodes) w
    (comes-kin w.nodes u.nodes kin) m.comes in
    let leaves = travels-map (LetsGoCopy w.nodes) (LetsGoCopy u.nodes) w
    (copies-kin w.nodes u.nodes kin) m.leaves in
    let before : (x : Pairing) → FitsIn g.good.known u.nodes x → FitsIn m.good.known w.nodes x =
    λ x fits. fits-before m.good.known g.good.known w.nodes u.nodes g.later kin x fits in
    record {
      met = record {
        good = g.good;
        lives = first-made w limits m.lives;
        comes = record {
          flight = comes.flight;
          hand = comes.hand;
          rings = rings-made (Comes u.nodes) w limits comes;
          inboxes = inboxes-made (Comes u.nodes) w limits comes;
        };
        leaves = record {
          flight = leaves.flight;
          hand = leaves.hand;
          rings = rings-made (LetsGoCopy u.nodes) w limits leaves;
          inboxes = inboxes-made (LetsGoCopy u.nodes) w limits leaves;
        };
        alive = alive-next m.good.known g.good.known w.nodes u.nodes g.ends g.good.unmade
            (λ a s t life gone. gone-at-kin w.nodes u.nodes a s t life kin gone)
            (λ i t e is live. inl (live-more w.nodes new i t live)) m.alive;
        within = λ x fits. within-made w limits x (m.within x (before x fits));
        rings = add-placed (λ n l. AllMessages l.ring) w.nodes new tt m.rings;
        calm = add-placed (λ n l. CalmNode l) w.nodes new tt m.calm;
      };
      fits = before;
    }

module _ (w : Moment) (n m credits : ℕ) (client server : Lists) (ends : Ends w n m credits client server) where
  abbrev first-nodes : List Lists
  first-nodes = nodes1 w n m credits client server ends

  abbrev pair-nodes : List Lists
  pair-nodes = slice_set first-nodes m (lists2 w n m credits client server ends)

  pub kin-one : NodesKin w.nodes first-nodes
  kin-one = kin-set w.nodes n client (lists1 w n m credits client server ends) ends.is_client
      refl (kin-added client.clients _)

  kin-two : NodesKin first-nodes pair-nodes
  kin-two = kin-set first-nodes m server (lists2 w n m credits client server ends)
      (is_server1 w n m credits client server ends) refl (kin-same server.clients)

  pub kin-pair : NodesKin w.nodes (paired w n m credits client server).nodes
  kin-pair = subst (NodesKin w.nodes) (sym (paired-nodes w n m credits client server ends))
      (kin-then w.nodes first-nodes pair-nodes kin-one kin-two)

  live-set : (nodes : List Lists) (i : ℕ) (l now : Lists) → slice_get nodes i ≡ Some l
      → now.life ≡ l.life
      → ((t : ℕ) (v : Server) → find (is_server t) l.servers ≡ Some v
      → find (is_server t) now.servers ≡ Some v) → (j : Endpoint) (t : ℕ) → LivesIn nodes j t
      → LivesIn (slice_set nodes i now) j t
  live-set nodes i l now is same keep j t live = by (j.node == i) refl
    where
      by : (b : Bool) → (j.node == i) ≡ b → LivesIn (slice_set nodes i now) j t
      by true e =
          let at = eqb-true j.node i e in
          let mine : slice_get nodes i ≡ Some live.lists = ap (slice_get nodes) (sym at)
          ∙ live.is_node in
          let lists : live.lists ≡ l = cc in
          let life : live.lists.life ≡ now.life = ap (λ (z : Lists). z.life) lists ∙ sym same in
          let reached = live.reached in
          record {
            lists = now;
            is_node = ap (slice_get (slice_set nodes i now)) at ∙ set-here nodes i l now is;
            reached = omega arith;
            there = λ here. let has = live.there (life ∙ here) in (
              has.0,
              keep t has.0 (subst (λ (z : Lists). find (is_server t) z.servers
                  ≡ Some has.0) lists has.1),
            );
          }
      by false e =
          record {
            lists = live.lists;
            is_node = set-other nodes i j.node now (eqb-false j.node i e) ∙ live.is_node;
            reached = live.reached;
            there = live.there;
          }

  pub live-pair : (j : Endpoint) (t : ℕ) → LivesIn w.nodes j t
      → LivesIn (paired w n m credits client server).nodes j t
  live-pair j t live =
      subst (λ (ns : List Lists). LivesIn ns j t)
      (sym (paired-nodes w n m credits client server ends))
      (live-set first-nodes m server (lists2 w n m credits client server ends)
      (is_server1 w n m credits client server ends) refl
      (λ t v is. find-add (is_server t) server.servers _ v is) j t
      (live-set w.nodes n client (lists1 w n m credits client server ends) ends.is_client refl
      (λ t v is. is) j t live))

  pub met-pair : AllRight w → AllValid w → (h : Met w)
      → MetNext w (paired w n m credits client server) h
  met-pair i v h =
      let u = paired w n m credits client server in
      let g = next-paired w n m credits client server ends i v h.good in
      let kin = kin-pair in
      let before : (x : Pairing) → FitsIn g.good.known u.nodes x → FitsIn h.good.known w.nodes x =
      λ x fits. fits-before h.good.known g.good.known w.nodes u.nodes g.later kin x fits in
      let calm1 : Placed (λ n l. CalmNode l) first-nodes =
      set-placed (λ n l. CalmNode l) w.nodes n client
      (lists1 w n m credits client server ends) ends.is_client
      (all-add CalmClient client.clients _ (h.calm n client ends.is_client)
      (record { idle = λ e. refl; calls = tt }))
      (λ j z ne is. h.calm j z is) in
      let calm2 : Placed (λ n l. CalmNode l) pair-nodes =
      set-placed (λ n l. CalmNode l) first-nodes m server (lists2 w n m credits client server ends)
      (is_server1 w n m credits client server ends) (h.calm m server ends.is_server)
      (λ j z ne is. calm1 j z is) in
      let rings1 : Placed (λ n l. AllMessages l.ring) first-nodes =
      set-placed (λ n l. AllMessages l.ring) w.nodes n client
      (lists1 w n m credits client server ends) ends.is_client
      (h.rings n client ends.is_client) (λ j z ne is. h.rings j z is) in
      let rings2 : Placed (λ n l. AllMessages l.ring) pair-nodes =
      set-placed (λ n l. AllMessages l.ring) first-nodes m server
      (lists2 w n m credits client server ends)
      (is_server1 w n m credits client server ends) (h.rings m server ends.is_server)
      (λ j z ne is. rings1 j z is) in
      record {
        met = record {
          good = g.good;
          lives = first-pair w n m credits client server ends h.lives;
          comes = travels-map (Comes w.nodes) (Comes u.nodes) u (comes-kin w.nodes u.nodes kin)
              (travels-paired (Comes w.nodes) w n m credits client server ends h.comes);
          leaves = travels-map (LetsGoCopy w.nodes) (LetsGoCopy u.nodes) u
              (copies-kin w.nodes u.nodes kin)
              (travels-paired (LetsGoCopy w.nodes) w n m credits client server ends h.leaves);
          alive = alive-next h.good.known g.good.known w.nodes u.nodes g.ends g.good.unmade
              (λ a s t life gone. gone-at-kin w.nodes u.nodes a s t life kin gone)
              (λ j t e is live. inl (live-pair j t live)) h.alive;
          within = λ x fits. within-pair w n m credits client server ends x
              (h.within x (before x fits));
          rings = subst (λ (ns : List Lists). Placed (λ n l. AllMessages l.ring) ns)
              (sym (paired-nodes w n m credits client server ends)) rings2;
          calm = subst (λ (ns : List Lists). Placed (λ n l. CalmNode l) ns)
              (sym (paired-nodes w n m credits client server ends)) calm2;
        };
        fits = before;
      }

-- a calm fact
pub rough-roll : (e : Event) → is_rough e ≡ false → no_roll e ≡ true
rough-roll (Rolled c posted got) h = cc
rough-roll _ h = refl

pub rough-repeat : (e : Event) → is_rough e ≡ false → no_repeat e ≡ true
rough-repeat (Repeated i) h = cc
rough-repeat _ h = refl

pub calm-parts : (past : List Lived) (f : Fact) → Calm (told past f ∷ past)
    → (is_rough f.event ≡ false) × Calm past
calm-parts past f h =
    or-false (is_rough f.event) (list_any (λ (g : Lived). is_rough g.fact.event) past) h

-- a restart is none
pub no-restart : (n life : ℕ) (past : List Lived)
    → Calm (told past (plain n (Restarted life)) ∷ past) → ⊥
no-restart n life past calm =
    let rough = (calm-parts past (plain n (Restarted life)) calm).0 in cc

-- at a fact of a node
fits-event : (w : Moment) (n : ℕ) (l : Lists) (e : Event) (first second : List ℕ)
    → slice_get w.nodes n ≡ Some l → l.me ≡ n → AllValid w → May w.hand l e first second
    → Linked (latest w.past) l e first → (Calm w.past → Met w) → Fits w.past e first
fits-event w n l (Overflowed peer) first second is me v may link met =
    λ read calm. has-place w v (met calm) n l is peer first
    (may.delivered.in_hand ∙ ap (λ (i : ℕ). Some
    (record { from = peer; to = i; bytes = first })) me) link read (may.full read)
fits-event w n l _ first second is me v may link met = tt

abbrev At : List Lived → Fact → Type 0
At past f = FitsAt past f.who f.event f.first

-- what is met doesn't read the clock
abbrev pub met-clocked : (w : Moment) (clock : ℕ) → Met w → Met (clocked w clock)
met-clocked w clock m = record {
  good = good-clocked w clock m.good;
  lives = record { past = m.lives.past; present = m.lives.present; nodes = m.lives.nodes };
  comes = record { flight = m.comes.flight; hand = m.comes.hand; rings = m.comes.rings; inboxes = m.comes.inboxes };
  leaves = record { flight = m.leaves.flight; hand = m.leaves.hand; rings = m.leaves.rings; inboxes = m.leaves.inboxes };
  alive = m.alive;
  within = m.within;
  rings = m.rings;
  calm = m.calm;
}

pub course-fits : {free : Bool} (w : Moment) (h : List Fact) (u : Moment) → Course free w h u → AllRight w → AllValid w
    → (Calm w.past → Met w) → AtEach At w.past h
course-fits _ _ _ (over w) i v met = tt
course-fits _ _ _ (made_as w limits h u is c) i v met = (
  tt,
  course-fits (made_at w limits) h u c (right-made w limits i) (valid-made w limits v)
      (λ calm. let parts = calm-parts w.past (plain (length w.nodes) (Made limits.ring)) calm in
      (met-made w limits (met parts.1)).met),
)
course-fits _ _ _ (resets w clock h u is c) i v met =
    course-fits (clocked w clock) h u c i v (λ calm. met-clocked w clock (met calm))
course-fits _ _ _ (in_net w f h u who c) i v met = (
  subst (λ (p : Who). FitsAt w.past p f.event f.first) (sym who) tt,
  course-fits (moved w f) h u c (right-net w f who i) (valid-net w f who v)
      (λ calm. let parts = calm-parts w.past f calm in
      (met-net w f who (rough-repeat f.event parts.0) (met parts.1)).met),
)
course-fits _ _ _ (made w ring h u c) i v met = (
  tt,
  course-fits _ h u c (right-made w (with_ring ring) i) (valid-made w (with_ring ring) v)
      (λ calm. let parts = calm-parts w.past (plain (length w.nodes) (Made ring)) calm in
      (met-made w (with_ring ring) (met parts.1)).met),
)
course-fits _ _ _ (restarts w n l h u is me life c) i v met = (
  tt,
  course-fits _ h u c (right-restart w n l is i) (valid-restart w n l is v)
      (λ calm. absurd (no-restart n (l.life + 1) w.past calm)),
)
course-fits _ _ _ (at_node w n l f h u a c) i v met = (
  subst (λ (p : Who). FitsAt w.past p f.event f.first) (sym a.allowed.who)
      (fits-event w n l f.event f.first f.second a.is_node a.me v a.allowed.may a.linked met),
  course-fits (moved w f) h u c (right-noted w n l f a i) (valid-node w n l f a v)
      (λ calm. let parts = calm-parts w.past f calm in
      (met-node w n l f a i v (rough-roll f.event parts.0) (met parts.1)).met),
)
course-fits _ _ _ (pairs w n m credits client server h u e c) i v met = (
  tt,
  (
    tt,
    course-fits (paired w n m credits client server) h u c (right-paired w n m credits client server e i)
        (valid-pair w n m credits client server e v)
        (λ calm. let parts = calm-parts (told w.past (client_fact n m credits client server) ∷ w.past)
        (server_fact n m credits client server) calm in
        (met-pair w n m credits client server e i v
        (met (calm-parts w.past (client_fact n m credits client server) parts.1).1)).met),
  ),
)

-- before the first fact
pub first-met : Met first_moment
first-met = record {
  good = first-good;
  lives = first-lives;
  comes = record { flight = tt; hand = tt; rings = λ n l is. absurd (cc); inboxes = λ n l is. absurd (cc) };
  leaves = record {
    flight = tt;
    hand = tt;
    rings = λ n l is. absurd (cc);
    inboxes = λ n l is. absurd (cc);
  };
  alive = λ m t e is. nothing-known m t e is;
  within = λ x f. omega arith;
  rings = λ n l is. absurd (cc);
  calm = λ n l is. absurd (cc);
}
  where
    nothing-known : (m : Endpoint) (t : ℕ) (e : End) → first-good.known.ends m t 0 ≡ Some e
        → LivesIn first_moment.nodes m t ⊎ GoneAt first_moment.nodes e.home e.client t m.life
    nothing-known m t e is =
        let none = first-good.unmade.ends m t (inl (omega arith)) in absurd (cc)
