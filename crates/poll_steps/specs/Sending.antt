-- The fact that a packet is sent.
use Rattle.std.specs.Prelude.{ℕ, ◌≡◌, ◌+◌, ◌-◌, ◌==◌, ◌&&◌, Bool, false, Option, Some, None, List}
use Rattle.std.specs.Prelude.{[], length}
use Rattle.std.specs.Str.{bytes_eq}
use Rattle.packet_header.specs.Parts.{packet_count, part}
use Rattle.packet_header.specs.declared.packet.Kind.TheVariants.{Request, Rfr, Cr, Response}
use Rattle.packet_header.specs.declared.packet.Packet.TheVariants.{Message}
use Rattle.rpc_base.specs.declared.event.Event.{Event}
use Rattle.rpc_base.specs.declared.event.Event.TheVariants.{Sent}
use Rattle.rpc_base.specs.declared.fact.Fact.{Fact}
use Rattle.rpc_base.specs.declared.owner.Owner.{Owner}
use Rattle.rpc_base.specs.Owners.{same_owner}
use Rattle.rpc_laws.specs.declared.tables.Asking.{Asking}
use Rattle.rpc_laws.specs.declared.tables.Outgoing.{Outgoing}
use Rattle.rpc_laws.specs.declared.tables.Queued.{Queued}
use Rattle.rpc_laws.specs.declared.tables.Served.{Served}
use Rattle.rpc_laws.specs.declared.tables.Way.{Way}
use Rattle.rpc_laws.specs.Facts.{with_two}
use Rattle.rule_facts.specs.Heads.{IsSpelled}
use Rattle.rule_facts.specs.Tells.{is_node}

abbrev pub tells_sent : (peer : ℕ) → Owner → (number : ℕ) → Event → Bool
tells_sent peer owner number (Sent p o k) = (p == peer) && (same_owner o owner && (k == number))
tells_sent peer owner number _ = false

-- whether a fact says that this packet of the queue was sent to a peer with this body
abbrev pub says_sent : (me : ℕ) → Queued → (peer : ℕ) → (body : List ℕ) → Fact → Bool
says_sent me q peer body f =
    is_node me f.who && (tells_sent peer q.owner q.number f.event && bytes_eq f.second body)

-- the fact says that the packet was sent to its peer, with its body and with bytes that spell it
pub record IsSentAs (me : ℕ) (q : Queued) (out : Outgoing) (f : Fact) : Type 0 where
  pub told : f ≡ with_two me (Sent out.peer q.owner q.number) f.first out.body
  pub spelled : IsSpelled out.packet f.first

abbrev pub IsSentIf : (me : ℕ) → Queued → Option Outgoing → Fact → Type 0
IsSentIf me q None f = ⊥
IsSentIf me q (Some out) f = IsSentAs me q out f

-- part k of a call's bytes
abbrev pub asked_part : Way → Asking → (r k : ℕ) → Outgoing
asked_part way a r k =
    record {
      peer = way.peer;
      packet =
          Message (record {
            kind = Request;
            req_type = a.req_type;
            size = length a.ask;
            session = way.other;
            number = k;
            request = r;
            to_life = way.life;
          });
      body = part a.ask k;
    }

-- a request for a part of the answer
abbrev pub asked_answer : Way → (r k : ℕ) → Outgoing
asked_answer way r k =
    record {
      peer = way.peer;
      packet =
          Message (record {
            kind = Rfr;
            req_type = 0;
            size = 0;
            session = way.other;
            number = k;
            request = r;
            to_life = way.life;
          });
      body = [];
    }

-- a credit return
abbrev pub credit_return : Way → Served → ℕ → Outgoing
credit_return way q k =
    record {
      peer = way.peer;
      packet =
          Message (record {
            kind = Cr;
            req_type = 0;
            size = 0;
            session = way.other;
            number = k;
            request = q.number;
            to_life = way.life;
          });
      body = [];
    }

-- a part of the answer, as packet k
abbrev pub answer_part : Way → Served → (answer : List ℕ) → ℕ → Outgoing
answer_part way q answer k =
    record {
      peer = way.peer;
      packet =
          Message (record {
            kind = Response;
            req_type = q.req_type;
            size = length answer;
            session = way.other;
            number = k;
            request = q.number;
            to_life = way.life;
          });
      body = part answer (k + 1 - packet_count q.size);
    }
