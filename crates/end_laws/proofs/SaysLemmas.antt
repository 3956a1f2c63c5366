-- What is sent says what is so.
use Rattle.std.proofs.Common.{◌≡◌, ◌+◌, ◌-◌, ℕ, nat_lt, Bool, true, false, cond, List, [], ◌++◌}
use Rattle.std.proofs.Common.{length, Option, Some, None, refl, sym, ap, ◌∙◌, subst, arith, true}
use Rattle.std.proofs.Common.{◌==◌}
use Rattle.std.proofs.Common.{◌⊎◌, inl, inr, append-nil}
use Rattle.std.specs.Prelude.{Ok}
use Rattle.std.specs.Prelude.{IfSome, option_map}
use Rattle.std.specs.List.{find, AllByRecursion}
use Rattle.std.proofs.lemmas.Bool.{and_parts, eqb-true}
use Rattle.packet_header.specs.Header.{HasHead, HasLength, InRange}
use Rattle.packet_header.specs.Parts.{packet_count, part}
use Rattle.packet_header.specs.Reading.{decoded, message_in, message_of, body_of}
use Rattle.packet_header.specs.declared.packet.ControlHeader.{ControlHeader}
use Rattle.packet_header.specs.declared.packet.ControlKind.TheVariants.{ConnectRequest}
use Rattle.packet_header.specs.declared.packet.ControlKind.TheVariants.{DisconnectRequest}
use Rattle.packet_header.specs.declared.packet.Kind.TheVariants.{Request, Rfr, Cr, Response}
use Rattle.packet_header.specs.declared.packet.MessageHeader.{MessageHeader}
use Rattle.packet_header.specs.declared.packet.Packet.{Packet}
use Rattle.packet_header.specs.declared.packet.Packet.TheVariants.{Message, Control}
use Rattle.packet_header.proofs.Heads.{decoded-append, body_of-append}
use Rattle.packet_header.proofs.Readings.{spells-decoded}
use Rattle.rpc_base.proofs.TakingLemmas.{find-passes}
use Rattle.rpc_base.specs.declared.limits.TheConstants.{HEAD_BYTES}
use Rattle.rpc_base.specs.declared.owner.Owner.{Owner}
use Rattle.rpc_base.specs.declared.owner.Owner.TheVariants.{Ask, Reply, Control as OfControl}
use Rattle.rpc_base.specs.declared.state.SessionState.{SessionState}
use Rattle.rpc_base.specs.declared.state.SessionState.TheVariants.{Connecting, Closing}
use Rattle.rpc_laws.specs.declared.tables.Asking.{Asking}
use Rattle.rpc_laws.specs.declared.tables.Call.{Call}
use Rattle.rpc_laws.specs.declared.tables.Client.{Client}
use Rattle.rpc_laws.specs.declared.tables.Lists.{Lists}
use Rattle.rpc_laws.specs.declared.tables.Outgoing.{Outgoing}
use Rattle.rpc_laws.specs.declared.tables.Progress.{Progress}
use Rattle.rpc_laws.specs.declared.tables.Served.{Served}
use Rattle.rpc_laws.specs.declared.tables.Server.{Server}
use Rattle.rpc_laws.specs.declared.tables.Way.{Way}
use Rattle.rpc_laws.specs.Calls.{is_active, has_request, asked_packets}
use Rattle.rpc_laws.specs.Packets.{client_packet, call_packet, ask_packet, request_packet, reply_packet, owner_packet}
use Rattle.rpc_laws.specs.Requests.{is_server, is_request}
use Rattle.rpc_laws.specs.Sessions.{is_client}
use Rattle.rpc_laws.specs.BufferSafety.{OwnControl}
use Rattle.rpc_laws.specs.ControlSteps.{request_by}
use Rattle.rpc_laws.specs.ControlTable.{is_end_of}
use Rattle.rpc_laws.specs.Front.{control_in, control_of}
use Rattle.end_laws.proofs.Allowed.{AsksAt, MaySay, MaySend}
use Rattle.end_laws.proofs.ClientLemmas.{client-at, has-joined, is-joined}
use Rattle.end_laws.proofs.Known.{Known, HasRun, SaysResponse, Says, Speaks, GoodProgress, GoodCall}
use Rattle.end_laws.proofs.Known.{IsJoined, IsSession, Tells, GoodClient, GoodServed, GoodNode}
use Rattle.end_laws.proofs.ListLemmas.{all-found}
use Rattle.end_laws.proofs.ServerLemmas.{server-at}
use Rattle.rpc_laws.specs.Endpoints.{Endpoint}
use Rattle.rpc_laws.specs.Sessions.{is_with}
use Rattle.end_laws.specs.TwoEnds.{peer_of}

-- what a packet says
abbrev pub PacketSays : Known → (from to : ℕ) → Packet → List ℕ → Type 0
PacketSays k from to (Message m) body = Says m.kind k from to m body
PacketSays k from to (Control c) body = Tells c.kind k from to c

module _ (k : Known) (n : Endpoint) where
  abbrev OutSays : Outgoing → Type 0
  OutSays out = PacketSays k n.node out.peer out.packet out.body

  some-says : (a b : Outgoing) → Some a ≡ Some b → OutSays a → OutSays b
  some-says a b e h = let same : a ≡ b = cc in subst OutSays same h

  client-says : (b : Bool) (i : ℕ) (x : Client) (c : Call) (r j : ℕ) → GoodClient k n i x
      → IsJoined k n i x → k.starts n x.way.number r ≡ Some (record { way = x.way; what = c.what })
      → OutSays (cond b (record {
        peer = x.way.peer;
        packet = Message (record {
          kind = Request;
          req_type = c.what.req_type;
          size = length c.what.ask;
          session = x.way.other;
          number = j;
          request = r;
          to_life = x.way.life;
        });
        body = part
            c.what.ask j;
      }) (record {
        peer = x.way.peer;
        packet =
            Message (record {
              kind = Rfr;
              req_type = 0;
              size = 0;
              session = x.way.other;
              number = j;
              request = r;
              to_life = x.way.life;
            });
        body = [];
      }))
  client-says true i x c r j g joined begun = record {
    life = n.life;
    session = x.way.number;
    start = record { way = x.way; what = c.what };
    begun = begun;
    way = refl;
    credits = x.limit;
    end = joined.end ∙ ap (λ (s : ℕ). Some (record { home = n; client = s; credits = x.limit }))
        (sym g.number);
    req_type = refl;
    size = refl;
    piece = refl;
  }
  client-says false i x c r j g joined begun = record {
    life = n.life;
    session = x.way.number;
    credits = x.limit;
    end = joined.end ∙ ap (λ (s : ℕ). Some (record { home = n; client = s; credits = x.limit }))
        (sym g.number);
  }

  call-begun : (way : Way) (a : Asking) (p : Option Progress) (r : ℕ) → has_request r p ≡ true
      → IfSome p (GoodProgress k n way a)
      → k.starts n way.number r ≡ Some (record { way = way; what = a })
  call-begun way a None r t h = cc
  call-begun way a (Some p) r t h =
      subst (λ (q : ℕ). k.starts n way.number q ≡ Some (record { way = way; what = a }))
      (eqb-true p.request r t) h.begun

  call-says : (i : ℕ) (x : Client) (r j : ℕ) (c : Option Call) (out : Outgoing) → GoodClient k n i x
      → find (is_active r) x.calls ≡ c → call_packet x.way r j c ≡ Some out → OutSays out
  call-says i x r j None out g is h = cc
  call-says i x r j (Some c) out g is h =
      let call = all-found (GoodCall k n x.way) (is_active r) x.calls c g.calls is in
      some-says (client_packet x.way c.what r j) out h
      (client-says (nat_lt j (asked_packets c.what)) i x c r j g
      (is-joined k n i x (has-joined k n i x (is_active r) c g is) g)
      (call-begun x.way c.what c.progress r (find-passes (is_active r) x.calls c is)
      call.progress))

  ask-says : (l : Lists) (s r j : ℕ) (x : Option Client) (out : Outgoing) → GoodNode k n l
      → find (is_client s) l.clients ≡ x → ask_packet r j x ≡ Some out → OutSays out
  ask-says l s r j None out g is h = cc
  ask-says l s r j (Some x) out g is h =
      call-says s x r j _ out (g.clients s x ((client-at k n l.clients s x g.clients is).0)) refl h

  -- a Response is of the answer of its run
  answer-says : (way : Way) (q : Served) (j : ℕ) (answer : List ℕ) → (g : GoodServed k n way q)
      → HasRun k n way.number q.number g.start.what answer
      → SaysResponse k n.node way.peer (record {
        kind = Response;
        req_type = q.req_type;
        size = length answer;
        session = way.other;
        number = j;
        request = q.number;
        to_life = way.life;
      })
      (part answer (j + 1 - packet_count q.size))
  answer-says way q j answer g run =
      let a = g.start.what in
      record {
        start = g.start;
        begun = g.begun;
        peer = sym (ap (λ (w : Way). w.peer) g.way_is);
        answer = answer;
        ran = subst (λ (w : Way). HasRun k (peer_of w) w.other q.number a answer) (sym g.way_is) run;
        size = refl;
        piece = ap (λ (s : ℕ). part answer (j + 1 - packet_count s)) g.size;
      }

  some-run : (way : Way) (q : Served) (answer : Option (List ℕ)) (a : List ℕ) (what : Asking)
      → q.answer ≡ answer → answer ≡ Some a → IfSome q.answer (HasRun k n way.number q.number what)
      → HasRun k n way.number q.number what a
  some-run way q answer a what e f h =
      subst (λ (o : Option (List ℕ)). IfSome o (HasRun k n way.number q.number what)) (e ∙ f) h

  server-says : (b : Bool) (way : Way) (q : Served) (j : ℕ) (answer : Option (List ℕ))
      (out : Outgoing) → q.answer ≡ answer → GoodServed k n way q
      → cond b (Some (record {
        peer = way.peer;
        packet = Message (record {
          kind = Cr;
          req_type = 0;
          size = 0;
          session = way.other;
          number = j;
          request = q.number;
          to_life = way.life;
        });
        body = [];
      })) (option_map
      (λ answer. record {
        peer = way.peer;
        packet = Message
            (record {
              kind = Response;
              req_type = q.req_type;
              size = length answer;
              session = way.other;
              number = j;
              request = q.number;
              to_life = way.life;
            });
        body = part answer (j + 1 - packet_count q.size);
      }) answer)
      ≡ Some out → OutSays out
  server-says true way q j answer out e g h =
      some-says (record {
        peer = way.peer;
        packet = Message (record {
          kind = Cr;
          req_type = 0;
          size = 0;
          session = way.other;
          number = j;
          request = q.number;
          to_life = way.life;
        });
        body = [];
      }) out h (record {
        start = g.start;
        begun = g.begun;
        peer = sym (ap (λ (w : Way). w.peer) g.way_is);
      })
  server-says false way q j None out e g h = cc
  server-says false way q j (Some a) out e g h =
      some-says _ out h (answer-says way q j a g (some-run way q (Some a) a g.start.what e refl g.answer))

  request-says : (way : Way) (slots : List Served) (r j : ℕ) (q : Option Served) (out : Outgoing)
      → AllByRecursion (GoodServed k n way) slots → find (is_request r) slots ≡ q
      → request_packet way j q ≡ Some out → OutSays out
  request-says way slots r j None out g is h = cc
  request-says way slots r j (Some q) out g is h =
      server-says (nat_lt (j + 1) (packet_count q.size)) way q j q.answer out refl
      (all-found (GoodServed k n way) (is_request r) slots q g is) h

  reply-says : (l : Lists) (t r j : ℕ) (v : Option Server) (out : Outgoing) → GoodNode k n l
      → find (is_server t) l.servers ≡ v → reply_packet r j v ≡ Some out → OutSays out
  reply-says l t r j None out g is h = cc
  reply-says l t r j (Some v) out g is h =
      let server = (server-at k n l.servers t v g.servers is).0 in
      request-says v.way v.slots r j _ out server.slots refl h

  owner-says : (l : Lists) (o : Owner) (j : ℕ) (out : Outgoing) → GoodNode k n l
      → owner_packet l o j ≡ Some out → OutSays out
  owner-says l (Ask s r) j out g h = ask-says l s r j _ out g refl h
  owner-says l (Reply t r) j out g h = reply-says l t r j _ out g refl h
  owner-says l OfControl j out g h = cc

  control-speaks : (c : ControlHeader) (to : ℕ) (bytes : List ℕ) → decoded bytes ≡ Ok (Control c)
      → Tells c.kind k n.node to c → Speaks k n.node to bytes
  control-speaks c to bytes e s = (
    subst (λ (o : Option MessageHeader). IfSome o
        (λ h. Says h.kind k n.node to h (body_of bytes))) (sym (ap message_in e)) tt,
    subst (λ (o : Option ControlHeader). IfSome o (λ h. Tells h.kind k n.node to h))
        (sym (ap control_in e)) s,
  )

  -- read back
  packet-speaks : (p : Packet) (to : ℕ) (head body : List ℕ) → InRange p → HasHead p head
      → length head ≡ HEAD_BYTES → HasLength p (HEAD_BYTES + length body) → PacketSays k n.node to p body
      → Speaks k n.node to (head ++ body)
  packet-speaks (Message m) to head body range has long len s =
      let reads : message_of (head ++ body) ≡ Some m =
      ap message_in (decoded-append (Message m) head body range has long len) in
      let now : Says m.kind k n.node to m (body_of (head ++ body)) =
      subst (λ (b : List ℕ). Says m.kind k n.node to m b)
      (sym (body_of-append head body long)) s in
      let none : control_of (head ++ body) ≡ None =
      ap control_in (decoded-append (Message m) head body range has long len) in (
        subst (λ (o : Option MessageHeader). IfSome o
            (λ h. Says h.kind k n.node to h (body_of (head ++ body)))) (sym reads) now,
        subst (λ (o : Option ControlHeader). IfSome o (λ h. Tells h.kind k n.node to h)) (sym none) tt,
      )
  packet-speaks (Control c) to head body range has long len s =
      control-speaks c to (head ++ body) (decoded-append (Control c) head body range has long len) s

  pub sent-speaks : (l : Lists) (peer : ℕ) (o : Owner) (j : ℕ) (head body : List ℕ) → GoodNode k n l
      → (m : MaySend l peer o j head body) → HasLength m.out.packet (HEAD_BYTES + length m.out.body)
      → Speaks k n.node peer (head ++ body)
  sent-speaks l peer o j head body g m len =
      let says = owner-says l o j m.out g m.own in
      let now = packet-speaks m.out.packet m.out.peer head m.out.body m.in_range m.has_head m.long len says in
      subst (λ (p : ℕ). Speaks k n.node p (head ++ body)) (sym m.to_peer)
      (subst (λ (b : List ℕ). Speaks k n.node m.out.peer (head ++ b)) (sym m.whole) now)

  -- a session's own request says nothing of a session
  request-tells : (own : ℕ) (state : SessionState) (way : Way) (credits to : ℕ) (h : ControlHeader)
      → request_by own state way credits ≡ Some h → Tells h.kind k n.node to h
  request-tells own Connecting way credits to h e =
      let same : record {
        kind = ConnectRequest;
        client = way.number;
        server = None;
        credits = credits;
        status = 0;
        from_life = own;
        to_life = None;
      }
      ≡ h = cc in subst (λ (c : ControlHeader). Tells c.kind k n.node to c) same tt
  request-tells own Closing way credits to h e =
      let same : record {
        kind = DisconnectRequest;
        client = way.number;
        server = Some way.other;
        credits = 0;
        status = 0;
        from_life = own;
        to_life = Some way.life;
      }
      ≡ h = cc in subst (λ (c : ControlHeader). Tells c.kind k n.node to c) same tt
  request-tells own _ way credits to h e = cc

  confirm-tells : (l : Lists) (peer to t : ℕ) (h : ControlHeader) (v : Server) → GoodNode k n l
      → find (is_server t) l.servers ≡ Some v → is_end_of peer h.client to v ≡ true
      → IsSession k n t (record { node = peer; life = to }) h.client v.credits
  confirm-tells l peer to t h v g found ends =
      let at = server-at k n l.servers t v g.servers found in
      let parts = and_parts (v.way.peer == peer) (is_with h.client to v.way) ends in
      let rest = and_parts (v.way.other == h.client) (v.way.life == to) parts.1 in
      rw (
        ← at.1,
        ← eqb-true v.way.peer peer parts.0,
        ← eqb-true v.way.other h.client rest.0,
        ← eqb-true v.way.life to rest.1,
      ) at.0.session

  own-tells : (l : Lists) (peer : ℕ) (h : ControlHeader) → l.life ≡ n.life → GoodNode k n l
      → OwnControl l peer h → Tells h.kind k n.node peer h
  own-tells l peer h now g (OwnControl.asks x opened own) =
      request-tells l.life x.state x.way x.limit peer h own
  own-tells l peer h now g (OwnControl.confirms to t v e found ends) =
      subst (λ (c : ControlHeader). Tells c.kind k n.node peer c) (sym e)
      (subst (λ (w : ℕ). IsSession k (record { node = n.node; life = w }) t
      (record { node = peer; life = to }) h.client v.credits) (sym now)
      (confirm-tells l peer to t h v g found ends))
  own-tells l peer h now g (OwnControl.declines to e none) =
      subst (λ (c : ControlHeader). Tells c.kind k n.node peer c) (sym e) (λ one. absurd (omega arith))
  own-tells l peer h now g (OwnControl.disowns to x opened e row) =
      subst (λ (c : ControlHeader). Tells c.kind k n.node peer c) (sym e) tt
  own-tells l peer h now g (OwnControl.ends to e none) =
      subst (λ (c : ControlHeader). Tells c.kind k n.node peer c) (sym e) tt
  own-tells l peer h now g (OwnControl.misses to e none) =
      subst (λ (c : ControlHeader). Tells c.kind k n.node peer c) (sym e) tt

  says-tells : (l : Lists) (peer : ℕ) (h : ControlHeader) → l.life ≡ n.life → GoodNode k n l
      → AsksAt l peer h ⊎ OwnControl l peer h → Tells h.kind k n.node peer h
  says-tells l peer h now g (inl a) =
      let x = a.client in request-tells l.life x.state x.way x.limit peer h a.own
  says-tells l peer h now g (inr o) = own-tells l peer h now g o

  -- a control packet that is sent says what is so
  pub said-speaks : (l : Lists) (peer j : ℕ) (head body : List ℕ) → l.life ≡ n.life → GoodNode k n l
      → MaySay l peer j head body → Speaks k n.node peer (head ++ body)
  said-speaks l peer j head body now g m =
      let whole : head ++ body ≡ head = ap (λ (b : List ℕ). head ++ b) m.whole ∙ append-nil head in
      rw whole (control-speaks m.header peer head (spells-decoded (Control m.header) head m.spells)
      (says-tells l peer m.header now g m.own))
