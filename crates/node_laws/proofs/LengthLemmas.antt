-- A packet that an owner has is as long as its header tells.
use Rattle.std.proofs.Common.{◌≡◌, ◌<◌, ◌+◌, ◌-◌, ℕ, nat_lt, Bool, true, false, cond, List, []}
use Rattle.std.proofs.Common.{length, Option, Some, None, refl, sym, ap, subst, arith}
use Rattle.std.specs.Prelude.{option_map}
use Rattle.std.specs.List.{find}
use Rattle.packet_header.specs.Header.{HasLength, MessageLength}
use Rattle.packet_header.specs.Parts.{packet_count, part}
use Rattle.packet_header.specs.declared.packet.Kind.TheVariants.{Request, Rfr, Cr, Response}
use Rattle.packet_header.specs.declared.packet.Packet.TheVariants.{Message}
use Rattle.packet_header.proofs.PartsLemmas.{length-part, packet_count_above, response_length}
use Rattle.rpc_laws.specs.declared.tables.Asking.{Asking}
use Rattle.rpc_laws.specs.declared.tables.Call.{Call}
use Rattle.rpc_laws.specs.declared.tables.Client.{Client}
use Rattle.rpc_laws.specs.declared.tables.Outgoing.{Outgoing}
use Rattle.rpc_laws.specs.declared.tables.Served.{Served}
use Rattle.rpc_laws.specs.declared.tables.Way.{Way}
use Rattle.rpc_laws.specs.Calls.{is_active, asked_packets}
use Rattle.rpc_laws.specs.Packets.{client_packet, call_packet, ask_packet, server_packet}
use Rattle.node_laws.proofs.TakenRights.{TakenRight}
use Rattle.rpc_base.specs.declared.limits.TheConstants.{HEAD_BYTES}

abbrev pub HasBody : Outgoing → Type 0
HasBody out = HasLength out.packet (HEAD_BYTES + length out.body)

-- a client packet
client-length : (b : Bool) (way : Way) (a : Asking) (r k : ℕ)
    → HasBody (cond b (record {
      peer = way.peer;
      packet = Message (record {
        kind = Request;
        req_type = a.req_type;
        size = length a.ask;
        session = way.other;
        number = k;
        request = r;
        to_life = way.life;
      });
      body = part a.ask k;
    })
    (record {
      peer = way.peer;
      packet = Message
          (record {
            kind = Rfr;
            req_type = 0;
            size = 0;
            session = way.other;
            number = k;
            request = r;
            to_life = way.life;
          });
      body = [];
    }))
client-length true way a r k = ap (λ n. HEAD_BYTES + n) (length-part a.ask k)
client-length false way a r k = refl

call-length : (way : Way) (r k : ℕ) (c : Option Call) (out : Outgoing)
    → call_packet way r k c ≡ Some out → HasBody out
call-length way r k None out h = cc
call-length way r k (Some c) out h =
    let same : client_packet way c.what r k ≡ out = cc in
    subst HasBody same (client-length (nat_lt k (asked_packets c.what)) way c.what r k)

pub ask-length : (r k : ℕ) (x : Option Client) (out : Outgoing) → ask_packet r k x ≡ Some out → HasBody out
ask-length r k None out h = cc
ask-length r k (Some x) out h = call-length x.way r k (find (is_active r) x.calls) out h

-- a server packet, where the packet that it answers was taken
some-is : (a b : Outgoing) → Some a ≡ Some b → a ≡ b
some-is a b e = cc

reply-by : (way : Way) (q : Served) (k : ℕ) (b : Bool) (answer : Option (List ℕ))
    (out : Outgoing) → nat_lt (k + 1) (packet_count q.size) ≡ b → k < q.taken
    → TakenRight q.taken q.size answer → cond b (Some (record {
      peer = way.peer;
      packet = Message (record {
        kind = Cr;
        req_type = 0;
        size = 0;
        session = way.other;
        number = k;
        request = q.number;
        to_life = way.life;
      });
      body = [];
    })) (option_map
    (λ answer. record {
      peer = way.peer;
      packet = Message
          (record {
            kind = Response;
            req_type = q.req_type;
            size = length answer;
            session = way.other;
            number = k;
            request = q.number;
            to_life = way.life;
          });
      body = part answer (k + 1 - packet_count q.size);
    }) answer)
    ≡ Some out → HasBody out
reply-by way q k true answer out t lt right h = subst HasBody (some-is _ out h) refl
reply-by way q k false None out t lt right h = cc
reply-by way q k false (Some a) out t lt right h =
    let high = right.1 in
    let above = packet_count_above (length a) in
    let low : k + 1 - packet_count q.size < packet_count (length a) = omega arith in
    subst HasBody (some-is _ out h)
    (subst (λ (n : ℕ). MessageLength Response (length a) k (HEAD_BYTES + n))
    (sym (length-part a (k + 1 - packet_count q.size)))
    (response_length (length a) (k + 1 - packet_count q.size) k low))

pub reply-length : (way : Way) (q : Served) (k : ℕ) (out : Outgoing) → k < q.taken
    → TakenRight q.taken q.size q.answer → server_packet way q k ≡ Some out → HasBody out
reply-length way q k out lt right h =
    reply-by way q k (nat_lt (k + 1) (packet_count q.size)) q.answer out refl lt right h
