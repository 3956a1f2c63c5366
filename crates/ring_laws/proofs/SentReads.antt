-- What a node sends is read as a packet for the other end of a session.
use Rattle.std.proofs.Common.{◌≡◌, ◌+◌, ◌-◌, ℕ, nat_lt, Bool, true, false, cond, List, [], ◌++◌}
use Rattle.std.proofs.Common.{length, Option, Some, None, refl, sym, ap, ◌∙◌, subst}
use Rattle.std.specs.Prelude.{option_map}
use Rattle.std.specs.List.{find}
use Rattle.std.proofs.lemmas.Bool.{eqb-true}
use Rattle.packet_header.specs.Header.{HasHead, HasLength, InRange}
use Rattle.packet_header.specs.Parts.{packet_count, part}
use Rattle.packet_header.specs.Reading.{message_in, message_of}
use Rattle.packet_header.specs.declared.packet.Kind.TheVariants.{Request, Rfr, Cr, Response}
use Rattle.packet_header.specs.declared.packet.MessageHeader.{MessageHeader}
use Rattle.packet_header.specs.declared.packet.Packet.{Packet}
use Rattle.packet_header.specs.declared.packet.Packet.TheVariants.{Message}
use Rattle.packet_header.proofs.Heads.{decoded-append}
use Rattle.rpc_base.proofs.TakingLemmas.{find-passes}
use Rattle.rpc_base.specs.declared.limits.TheConstants.{HEAD_BYTES}
use Rattle.rpc_base.specs.declared.owner.Owner.{Owner}
use Rattle.rpc_base.specs.declared.owner.Owner.TheVariants.{Ask, Reply, Control}
use Rattle.rpc_base.proofs.PlaceLemmas.{all-at}
use Rattle.rpc_laws.specs.declared.tables.Asking.{Asking}
use Rattle.rpc_laws.specs.declared.tables.Call.{Call}
use Rattle.rpc_laws.specs.declared.tables.Client.{Client}
use Rattle.rpc_laws.specs.declared.tables.Lists.{Lists}
use Rattle.rpc_laws.specs.declared.tables.Outgoing.{Outgoing}
use Rattle.rpc_laws.specs.declared.tables.Served.{Served}
use Rattle.rpc_laws.specs.declared.tables.Server.{Server}
use Rattle.rpc_laws.specs.declared.tables.Way.{Way}
use Rattle.rpc_laws.specs.Calls.{is_active, asked_packets}
use Rattle.rpc_laws.specs.Packets.{client_packet, call_packet, ask_packet, request_packet, reply_packet, owner_packet}
use Rattle.rpc_laws.specs.Requests.{is_server, is_request}
use Rattle.rpc_laws.specs.Sessions.{is_client}
use Rattle.end_laws.specs.Kinds.{is_ask}
use Rattle.end_laws.proofs.Allowed.{MaySend}
use Rattle.end_laws.proofs.QueueLemmas.{QueueRight, RightNode}
use Rattle.end_laws.proofs.SendsLaw.{owner-length}

-- a packet for the other end of a way
pub record OutTo (way : Way) (kind : Bool) (r k : ℕ) (out : Outgoing) : Type 0 where
  pub header : MessageHeader
  pub is_message : out.packet ≡ Message header
  pub asks : is_ask header.kind ≡ kind
  pub to : header.session ≡ way.other
  pub request : header.request ≡ r
  pub number : header.number ≡ k
  pub peer : out.peer ≡ way.peer
  pub life : header.to_life ≡ way.life

some-out : (way : Way) (kind : Bool) (r k : ℕ) (a b : Outgoing) → Some a ≡ Some b
    → OutTo way kind r k a → OutTo way kind r k b
some-out way kind r k a b e h = let same : a ≡ b = cc in subst (OutTo way kind r k) same h

client-out : (b : Bool) (way : Way) (a : Asking) (r k : ℕ)
    → OutTo way true r k (cond b (record {
      peer = way.peer;
      packet = Message (record {
        kind = Request;
        req_type = a.req_type;
        size = length a.ask;
        session = way.other;
        number = k;
        request = r;
        to_life = way.life;
      });
      body = part a.ask k;
    })
    (record {
      peer = way.peer;
      packet = Message
          (record {
            kind = Rfr;
            req_type = 0;
            size = 0;
            session = way.other;
            number = k;
            request = r;
            to_life = way.life;
          });
      body = [];
    }))
client-out true way a r k =
    record {
      header = _;
      is_message = refl;
      asks = refl;
      to = refl;
      request = refl;
      number = refl;
      peer = refl;
      life = refl;
    }
client-out false way a r k =
    record {
      header = _;
      is_message = refl;
      asks = refl;
      to = refl;
      request = refl;
      number = refl;
      peer = refl;
      life = refl;
    }

-- it goes from this client session, and from this call of it
pub record FromClient (l : Lists) (s r k : ℕ) (out : Outgoing) : Type 0 where
  pub client : Client
  pub found : find (is_client s) l.clients ≡ Some client
  pub call : Call
  pub active : find (is_active r) client.calls ≡ Some call
  pub goes : OutTo client.way true r k out

call-out : (l : Lists) (s r k : ℕ) (x : Client) (c : Option Call) (out : Outgoing)
    → find (is_client s) l.clients ≡ Some x → find (is_active r) x.calls ≡ c
    → call_packet x.way r k c ≡ Some out → FromClient l s r k out
call-out l s r k x None out found is h = cc
call-out l s r k x (Some c) out found is h =
    record {
      client = x;
      found = found;
      call = c;
      active = is;
      goes = some-out x.way true r k (client_packet x.way c.what r k) out h
          (client-out (nat_lt k (asked_packets c.what)) x.way c.what r k);
    }

ask-out : (l : Lists) (s r k : ℕ) (x : Option Client) (out : Outgoing)
    → find (is_client s) l.clients ≡ x → ask_packet r k x ≡ Some out → FromClient l s r k out
ask-out l s r k None out is h = cc
ask-out l s r k (Some x) out is h = call-out l s r k x (find (is_active r) x.calls) out is refl h

server-out : (b : Bool) (way : Way) (q : Served) (k : ℕ) (answer : Option (List ℕ)) (out : Outgoing)
    → cond b (Some (record {
      peer = way.peer;
      packet = Message (record {
        kind = Cr;
        req_type = 0;
        size = 0;
        session = way.other;
        number = k;
        request = q.number;
        to_life = way.life;
      });
      body = [];
    })) (option_map
    (λ answer. record {
      peer = way.peer;
      packet = Message
          (record {
            kind = Response;
            req_type = q.req_type;
            size = length answer;
            session = way.other;
            number = k;
            request = q.number;
            to_life = way.life;
          });
      body = part answer (k + 1 - packet_count q.size);
    }) answer)
    ≡ Some out → OutTo way false q.number k out
server-out true way q k answer out h =
    some-out way false q.number k _ out h (record {
      header = _;
      is_message = refl;
      asks = refl;
      to = refl;
      request = refl;
      number = refl;
      peer = refl;
      life = refl;
    })
server-out false way q k None out h = cc
server-out false way q k (Some a) out h =
    some-out way false q.number k _ out h (record {
      header = _;
      is_message = refl;
      asks = refl;
      to = refl;
      request = refl;
      number = refl;
      peer = refl;
      life = refl;
    })

-- it goes from this server session, and from this request of it
pub record FromServer (l : Lists) (t r k : ℕ) (out : Outgoing) : Type 0 where
  pub server : Server
  pub found : find (is_server t) l.servers ≡ Some server
  pub request : Served
  pub is_there : find (is_request r) server.slots ≡ Some request
  pub goes : OutTo server.way false r k out

request-out : (l : Lists) (t r k : ℕ) (v : Server) (q : Option Served) (out : Outgoing)
    → find (is_server t) l.servers ≡ Some v → find (is_request r) v.slots ≡ q
    → request_packet v.way k q ≡ Some out → FromServer l t r k out
request-out l t r k v None out found is h = cc
request-out l t r k v (Some q) out found is h =
    let number : q.number ≡ r = eqb-true q.number r (find-passes (is_request r) v.slots q is) in
    record {
      server = v;
      found = found;
      request = q;
      is_there = is;
      goes = subst (λ (i : ℕ). OutTo v.way false i k out) number
          (server-out (nat_lt (k + 1) (packet_count q.size)) v.way q k q.answer out h);
    }

reply-out : (l : Lists) (t r k : ℕ) (v : Option Server) (out : Outgoing)
    → find (is_server t) l.servers ≡ v → reply_packet r k v ≡ Some out → FromServer l t r k out
reply-out l t r k None out is h = cc
reply-out l t r k (Some v) out is h =
    request-out l t r k v (find (is_request r) v.slots) out is refl h

abbrev pub FromOwner : Lists → Owner → ℕ → Outgoing → Type 0
FromOwner l (Ask s r) k out = FromClient l s r k out
FromOwner l (Reply t r) k out = FromServer l t r k out
FromOwner l Control k out = ⊥

owner-out : (l : Lists) (o : Owner) (k : ℕ) (out : Outgoing) → owner_packet l o k ≡ Some out → FromOwner l o k out
owner-out l (Ask s r) k out h = ask-out l s r k _ out refl h
owner-out l (Reply t r) k out h = reply-out l t r k _ out refl h
owner-out l Control k out h = cc

-- what is sent reads as that packet
pub record Reads (l : Lists) (peer : ℕ) (o : Owner) (k : ℕ) (bytes : List ℕ) : Type 0 where
  pub out : Outgoing
  pub from : FromOwner l o k out
  pub to_peer : peer ≡ out.peer
  pub read : (h : MessageHeader) → out.packet ≡ Message h → message_of bytes ≡ Some h

packet-read : (p : Packet) (head body : List ℕ) (h : MessageHeader) → InRange p → HasHead p head
    → length head ≡ HEAD_BYTES → HasLength p (HEAD_BYTES + length body) → p ≡ Message h
    → message_of (head ++ body) ≡ Some h
packet-read p head body h range has long len e =
    ap message_in (decoded-append p head body range has long len) ∙ rw e refl

pub sent-reads : (l : Lists) (peer : ℕ) (o : Owner) (k : ℕ) (head body : List ℕ) → RightNode l
    → MaySend l peer o k head body → Reads l peer o k (head ++ body)
sent-reads l peer o k head body i m =
    let right = all-at (λ q. QueueRight l.servers l.server_numbers q.owner q.number)
    l.queued 0 _ i.queue m.is_front in
    let long = owner-length l o k m.out i right m.own in
    record {
      out = m.out;
      from = owner-out l o k m.out m.own;
      to_peer = m.to_peer;
      read = λ h e. subst (λ (b : List ℕ). message_of (head ++ b) ≡ Some h) (sym m.whole)
          (packet-read m.out.packet head m.out.body h m.in_range m.has_head m.long long e);
    }
