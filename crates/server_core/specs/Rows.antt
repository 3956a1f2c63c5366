-- The server table for one session: it reads of a slot's request what it reads of the table of
-- requests.
use Rattle.std.specs.Prelude.{Bool, false, option_map}
use Rattle.packet_header.specs.declared.packet.MessageHeader.{MessageHeader}
use Rattle.rpc_laws.specs.declared.rows.ServerRow.{ServerRow}
use Rattle.rpc_laws.specs.ServerTable.{Newest, newest_row}
use Rattle.rpc_outside.specs.declared.service.Mode.{Mode}
use Rattle.server_core.specs.declared.slot.SlotRequest.{SlotRequest}
use Rattle.server_core.specs.Session.{Session, answer_of, is_at_work, newest}

-- what the table reads of a slot's request
abbrev pub as_newest : SlotRequest → Newest
as_newest q = record {
  number = q.number;
  req_type = q.req_type;
  size = q.size;
  taken = q.taken;
  working = is_at_work q.state;
  answer = option_map (λ a. a.size) (answer_of q.state);
}

-- what the table says of a packet to the session, but for the want of memory
abbrev pub row_of : Mode → (full : Bool) → MessageHeader → Session → ServerRow
row_of mode full h s = newest_row mode full false (option_map as_newest (newest h.request s)) h
