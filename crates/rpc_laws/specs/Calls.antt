-- The table of calls: a call waits from Asked, is active from Begun, and leaves the table at its
-- Done.
use Rattle.std.specs.Prelude.{ℕ, ◌+◌, ◌-◌, ◌==◌, Bool, false, Option, Some, None, option_map}
use Rattle.std.specs.Prelude.{is_none, List, [], ◌∷◌, ◌++◌, length, if◌then◌else◌}
pub use Rattle.packet_header.specs.Kinds.{is_response}
use Rattle.packet_header.specs.Parts.{packet_count}
use Rattle.packet_header.specs.declared.packet.MessageHeader.{MessageHeader}
use Rattle.rpc_laws.specs.declared.tables.Asking.{Asking}
use Rattle.rpc_laws.specs.declared.tables.Call.{Call}
use Rattle.rpc_laws.specs.declared.tables.Progress.{Progress}

abbrev pub is_call : ℕ → Call → Bool
is_call number c = c.what.number == number

abbrev pub has_request : ℕ → Option Progress → Bool
has_request r None = false
has_request r (Some p) = p.request == r

-- the active call with this request number
abbrev pub is_active : ℕ → Call → Bool
is_active r c = has_request r c.progress

abbrev pub is_waiting : Call → Bool
is_waiting c = is_none c.progress

-- how many packets the request of a call has
abbrev pub asked_packets : Asking → ℕ
asked_packets a = packet_count (length a.ask)

-- how many client packets the call is known to have: those of its request and, from the first
-- packet of the answer on, one for each further packet of the answer
abbrev pub known_packets : ℕ → Option ℕ → ℕ
known_packets asked None = asked
known_packets asked (Some size) = asked + packet_count size - 1

-- Asked: the call waits
abbrev pub asking : Asking → List Call → List Call
asking a calls = calls ++ record { what = a; progress = None } ∷ []

-- Begun as r: nothing is posted, nothing taken
abbrev pub begun : ℕ → Call → Call
begun r c =
    record
    c {
      progress = Some (record {
        request = r;
        got = 0;
        posted = 0;
        rolls = 0;
        mark = 0;
        answer = None;
        parts = [];
      });
    }

abbrev pub moved : (Progress → Progress) → Call → Call
moved change c = record c { progress = option_map change c.progress }

-- Posted k
abbrev pub posted_up_to : ℕ → Progress → Progress
posted_up_to k p = record p { posted = k + 1 }

-- one more reply in turn. A Response adds its part, and the first one tells the answer's size
abbrev pub with_reply : MessageHeader → List ℕ → Progress → Progress
with_reply h body p =
    if is_response h.kind then record p {
      got = p.got + 1;
      answer = Some h.size;
      parts = p.parts
          ++ body;
    }
    else record p { got = p.got + 1 }

-- Took, at this clock: the reply is there, no rollback came since, and the mark is now
abbrev pub took_reply : ℕ → Option MessageHeader → List ℕ → Progress → Progress
took_reply clock None body p = p
took_reply clock (Some h) body p = record (with_reply h body p) { rolls = 0; mark = clock }

-- Sent k, at this clock: the mark is now where k is the packet whose answer is wanted next
abbrev pub sent_packet : ℕ → ℕ → Progress → Progress
sent_packet clock k p = if p.got == k then record p { mark = clock } else p

-- Rolled back to got
abbrev pub rolled_back : ℕ → Progress → Progress
rolled_back got p = record p { posted = got; rolls = p.rolls + 1 }
