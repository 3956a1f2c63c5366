-- The server rule: what a Request or RFR does at a node. The first row that holds decides. Of the
-- node's service it looks at the mode of the packet's type alone; what a handler answers is handed
-- in.
use Rattle.std.specs.Prelude.{ℕ, ◌+◌, ◌==◌, nat_lt, nat_le, Bool, true, false, not, ◌&&◌, ◌||◌}
use Rattle.std.specs.Prelude.{Option, Some, None, option_map, List, [], ◌∷◌, ◌++◌, length}
use Rattle.std.specs.Prelude.{if◌then◌else◌}
use Rattle.std.specs.List.{find}
pub use Rattle.packet_header.specs.Kinds.{is_last, is_rfr}
use Rattle.packet_header.specs.Parts.{packet_count}
use Rattle.packet_header.specs.declared.packet.MessageHeader.{MessageHeader}
use Rattle.rpc_base.specs.declared.event.Event.TheVariants.{Posted, Took, Again, Dropped, Given}
use Rattle.rpc_base.specs.declared.event.Event.TheVariants.{Ran}
use Rattle.rpc_base.specs.declared.fact.Fact.{Fact}
use Rattle.rpc_base.specs.declared.owner.Owner.TheVariants.{Reply}
use Rattle.rpc_base.specs.declared.state.DropReason.TheVariants.{NoSession, WrongPeer, Old}
use Rattle.rpc_base.specs.declared.state.DropReason.TheVariants.{NotFirst, Working, Unserved}
use Rattle.rpc_base.specs.declared.state.DropReason.TheVariants.{JobsFull, NoMemory, Mismatch}
use Rattle.rpc_base.specs.declared.state.DropReason.TheVariants.{Ahead, Beyond}
use Rattle.rpc_laws.specs.declared.rows.ServerRow.{ServerRow}
use Rattle.rpc_laws.specs.declared.rows.ServerRow.TheVariants.{Drops, Begins, Takes, Repeats}
use Rattle.rpc_laws.specs.declared.tables.Served.{Served}
use Rattle.rpc_laws.specs.declared.tables.Server.{Server}
use Rattle.rpc_laws.specs.declared.tables.Queued.{Queued}
use Rattle.rpc_laws.specs.Facts.{plain, with_two}
use Rattle.rpc_laws.specs.Queues.{flush_facts}
use Rattle.rpc_laws.specs.Requests.{is_request, in_slot_of}
use Rattle.rpc_outside.specs.declared.service.Mode.{Mode}
use Rattle.rpc_laws.specs.Service.{is_handled, is_mode_background}

-- whether a packet makes a background job: the last one of a request of a Background type
abbrev pub makes_job : Mode → MessageHeader → Bool
makes_job mode h = is_last h && is_mode_background mode

-- a number greater than each before it in its slot. working says whether a worker has the newest
-- request of the slot, full whether the node's jobs are full, and lacks whether memory for a buffer
-- is wanting
abbrev pub new_row : Mode → (working full lacks : Bool) → MessageHeader → ServerRow
new_row mode working full lacks h =
    if is_rfr h.kind || not (h.number == 0) then Drops NotFirst
    else (if working then Drops Working
    else (if not (is_handled mode) then Drops Unserved
    else (if makes_job mode h && full then Drops JobsFull
    else (if lacks then Drops NoMemory
    else Begins))))

-- what the table reads of the newest request of a slot: of its answer, once it is there, the size
pub record Newest : Type 0 where
  pub number : ℕ
  pub req_type : ℕ
  pub size : ℕ
  pub taken : ℕ
  pub working : Bool
  pub answer : Option ℕ

-- a part of another message, or a request for a part of the answer before its first one
abbrev pub is_mismatch : Newest → MessageHeader → Bool
is_mismatch n h =
    if is_rfr h.kind then nat_lt h.number (packet_count n.size)
    else not (h.req_type == n.req_type && h.size == n.size)

-- whether a worker has the request whose last packet is k
abbrev pub is_worked_on : Newest → ℕ → Bool
is_worked_on n k = (k + 1 == packet_count n.size) && n.working

-- a packet that was taken before
abbrev pub repeated_row : Newest → ℕ → ServerRow
repeated_row n k = if is_worked_on n k then Drops Working else Repeats

-- whether an RFR asks for a part that isn't there: the answer isn't known, or has no such part
abbrev pub is_past_end : ℕ → Option ℕ → ℕ → Bool
is_past_end size None k = true
is_past_end size (Some answer) k = nat_le (packet_count size + packet_count answer) (k + 1)

-- the number that stands in its slot
abbrev pub own_row : Mode → (full lacks : Bool) → Newest → MessageHeader → ServerRow
own_row mode full lacks n h =
    if is_mismatch n h then Drops Mismatch
    else (if nat_lt n.taken h.number then Drops Ahead
    else (if nat_lt h.number n.taken then repeated_row n h.number
    else (if is_rfr h.kind && is_past_end n.size n.answer h.number then Drops Beyond
    else (if makes_job mode h && full then Drops JobsFull
    else (if lacks && is_last h then Drops NoMemory
    else Takes)))))

-- the row of a packet, by the newest request of its slot
abbrev pub newest_row : Mode → (full lacks : Bool) → Option Newest → MessageHeader → ServerRow
newest_row mode full lacks None h = new_row mode false full lacks h
newest_row mode full lacks (Some n) h =
    if nat_lt h.request n.number then Drops Old
    else (if nat_lt n.number h.request then new_row mode n.working full lacks h
    else own_row mode full lacks n h)

-- a request of the table of requests as the table reads it
abbrev pub newest_of : Served → Newest
newest_of l = record {
  number = l.number;
  req_type = l.req_type;
  size = l.size;
  taken = l.taken;
  working = l.working;
  answer = option_map length l.answer;
}

abbrev pub slot_row : Mode → (full lacks : Bool) → Option Served → MessageHeader → ServerRow
slot_row mode full lacks o h = newest_row mode full lacks (option_map newest_of o) h

abbrev pub server_row : Mode → (full lacks : Bool) → Option Server → ℕ → MessageHeader → ServerRow
server_row mode full lacks None peer h = Drops NoSession
server_row mode full lacks (Some v) peer h =
    if not (v.way.peer == peer) then Drops WrongPeer
    else slot_row mode full lacks (find (in_slot_of h.request) v.slots) h

-- the bytes of the request with this packet: joined to those taken before, where it goes on
abbrev pub joined : Option Served → List ℕ → List ℕ
joined None body = body
joined (Some l) body = l.ask ++ body

abbrev pub whole_ask : Option Server → ℕ → List ℕ → List ℕ
whole_ask None r body = body
whole_ask (Some v) r body = joined (find (is_request r) v.slots) body

-- what a packet that is taken brings besides: the last one of a request gives a job where the type
-- is Background, and runs the handler, which gives the answer, where it is Inline; every packet but
-- one that gives a job is answered
abbrev pub brings : Mode → ℕ → List ℕ → MessageHeader → List ℕ → List Fact
brings mode me answer h ask =
    if makes_job mode h then plain me (Given h.session h.request) ∷ []
    else (if is_last h then with_two me (Ran h.session h.request h.req_type) ask answer ∷ []
    else []) ++ plain me (Posted (Reply h.session h.request) h.number) ∷ []

-- taking a packet: ask is all that was taken of its request with it
abbrev pub took_facts : Mode → ℕ → List ℕ → MessageHeader → List ℕ → List Fact
took_facts mode me answer h ask =
    plain me (Took (Reply h.session h.request) h.number) ∷ brings mode me answer h ask

-- the queued replies of a request are taken out
abbrev pub flushes : ℕ → List Queued → ℕ → Option Served → List Fact
flushes me queued session None = []
flushes me queued session (Some l) = flush_facts me queued (Reply session l.number)

-- those of the newest request of a slot
abbrev pub flushes_older : ℕ → List Queued → Option Server → ℕ → List Fact
flushes_older me queued None r = []
flushes_older me queued (Some v) r = flushes me queued v.way.number (find (in_slot_of r) v.slots)

-- the facts of a row. A request that begins first flushes the older one of its slot
abbrev pub served_facts : Mode → ℕ → List ℕ → List Queued → Option Server → MessageHeader → List ℕ
    → ServerRow → List Fact
served_facts mode me answer queued v h body (Drops why) = plain me (Dropped why) ∷ []
served_facts mode me answer queued v h body Begins =
    flushes_older me queued v h.request ++ took_facts mode me answer h body
served_facts mode me answer queued v h body Takes =
    took_facts mode me answer h (whole_ask v h.request body)
served_facts mode me answer queued v h body Repeats =
    plain me (Again (Reply h.session h.request) h.number)
    ∷ plain me (Posted (Reply h.session h.request) h.number) ∷ []
