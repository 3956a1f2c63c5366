-- Call packets: the packet that a queued entry stands for, with its body and its receiver.
use Rattle.std.specs.Prelude.{◌≡◌, ℕ, ◌+◌, ◌-◌, nat_lt, Option, Some, None, option_map, List, []}
use Rattle.std.specs.Prelude.{length, if◌then◌else◌}
use Rattle.std.specs.List.{find}
use Rattle.packet_header.specs.Header.{HasHead, InRange}
use Rattle.packet_header.specs.Parts.{packet_count, part}
use Rattle.packet_header.specs.declared.packet.Kind.TheVariants.{Request, Rfr, Cr, Response}
use Rattle.packet_header.specs.declared.packet.Packet.TheVariants.{Message}
use Rattle.rpc_base.specs.declared.owner.Owner.{Owner}
use Rattle.rpc_base.specs.declared.owner.Owner.TheVariants.{Ask, Reply, Control}
use Rattle.rpc_laws.specs.declared.tables.Asking.{Asking}
use Rattle.rpc_laws.specs.declared.tables.Call.{Call}
use Rattle.rpc_laws.specs.declared.tables.Client.{Client}
use Rattle.rpc_laws.specs.declared.tables.Lists.{Lists}
use Rattle.rpc_laws.specs.declared.tables.Outgoing.{Outgoing}
use Rattle.rpc_laws.specs.declared.tables.Queued.{Queued}
use Rattle.rpc_laws.specs.declared.tables.Served.{Served}
use Rattle.rpc_laws.specs.declared.tables.Server.{Server}
use Rattle.rpc_laws.specs.declared.tables.Way.{Way}
use Rattle.rpc_laws.specs.Calls.{is_active, asked_packets}
use Rattle.rpc_laws.specs.Requests.{is_server, is_request}
use Rattle.rpc_laws.specs.Sessions.{is_client}

-- client packet k of a call: part k of its bytes, and from then on requests for a response
abbrev pub client_packet : Way → Asking → ℕ → ℕ → Outgoing
client_packet way a r k =
    if nat_lt k (asked_packets a) then record {
      peer = way.peer;
      packet =
          Message (record {
            kind = Request;
            req_type = a.req_type;
            size = length a.ask;
            session = way.other;
            number = k;
            request = r;
            to_life = way.life;
          });
      body = part a.ask k;
    }
    else record {
      peer = way.peer;
      packet =
          Message (record {
            kind = Rfr;
            req_type = 0;
            size = 0;
            session = way.other;
            number = k;
            request = r;
            to_life = way.life;
          });
      body = [];
    }

-- server packet k of a request: a credit return before its last packet, and then the parts of the
-- answer
abbrev pub server_packet : Way → Served → ℕ → Option Outgoing
server_packet way q k =
    if nat_lt (k + 1) (packet_count q.size) then Some (record {
      peer = way.peer;
      packet =
          Message (record {
            kind = Cr;
            req_type = 0;
            size = 0;
            session = way.other;
            number = k;
            request = q.number;
            to_life = way.life;
          });
      body = [];
    })
    else option_map (λ answer. record {
      peer = way.peer;
      packet =
          Message (record {
            kind = Response;
            req_type = q.req_type;
            size = length answer;
            session = way.other;
            number = k;
            request = q.number;
            to_life = way.life;
          });
      body = part answer (k + 1 - packet_count q.size);
    }) q.answer

abbrev pub call_packet : Way → ℕ → ℕ → Option Call → Option Outgoing
call_packet way r k None = None
call_packet way r k (Some c) = Some (client_packet way c.what r k)

abbrev pub ask_packet : ℕ → ℕ → Option Client → Option Outgoing
ask_packet r k None = None
ask_packet r k (Some x) = call_packet x.way r k (find (is_active r) x.calls)

abbrev pub request_packet : Way → ℕ → Option Served → Option Outgoing
request_packet way k None = None
request_packet way k (Some q) = server_packet way q k

abbrev pub reply_packet : ℕ → ℕ → Option Server → Option Outgoing
reply_packet r k None = None
reply_packet r k (Some v) = request_packet v.way k (find (is_request r) v.slots)

-- None where the entry's owner has no such packet
abbrev pub owner_packet : Lists → Owner → ℕ → Option Outgoing
owner_packet s (Ask session r) k = ask_packet r k (find (is_client session) s.clients)
owner_packet s (Reply session r) k = reply_packet r k (find (is_server session) s.servers)
owner_packet s Control k = None

abbrev pub outgoing : Lists → Queued → Option Outgoing
outgoing s q = owner_packet s q.owner q.number

-- a packet, whose fields are in their ranges, is sent with this header and body
abbrev pub IsSpelled : Option Outgoing → (head body : List ℕ) → Type 0
IsSpelled None head body = ⊥
IsSpelled (Some o) head body = HasHead o.packet head × (body ≡ o.body) × InRange o.packet
