-- The client rule: what a CR or Response does at a node. The first row that holds decides.
use Rattle.std.specs.Prelude.{ℕ, ◌+◌, ◌-◌, ◌==◌, nat_lt, nat_le, Bool, true, not, ◌&&◌, ◌||◌}
use Rattle.std.specs.Prelude.{Option, Some, None, is_none, List, [], ◌∷◌, if◌then◌else◌}
use Rattle.std.specs.List.{find, list_any}
pub use Rattle.packet_header.specs.Kinds.{is_cr}
use Rattle.packet_header.specs.Parts.{part_size}
use Rattle.packet_header.specs.declared.packet.MessageHeader.{MessageHeader}
use Rattle.rpc_base.specs.declared.event.Event.TheVariants.{Took, Dropped, DoneOk, DoneTooSmall}
use Rattle.rpc_base.specs.declared.fact.Fact.{Fact}
use Rattle.rpc_base.specs.declared.owner.Owner.TheVariants.{Ask}
use Rattle.rpc_base.specs.declared.state.DropReason.TheVariants.{NoSession, WrongPeer, NoCall, Past}
use Rattle.rpc_base.specs.declared.state.DropReason.TheVariants.{Ahead, Mismatch}
use Rattle.rpc_base.specs.declared.state.DropReason.TheVariants.{Queued as StillQueued}
use Rattle.rpc_laws.specs.declared.rows.ClientRow.{ClientRow}
use Rattle.rpc_laws.specs.declared.rows.ClientRow.TheVariants.{Drops, Takes}
use Rattle.rpc_laws.specs.declared.rows.EndRow.{EndRow}
use Rattle.rpc_laws.specs.declared.rows.EndRow.TheVariants.{GoesOn, EndsOk, EndsTooSmall}
use Rattle.rpc_laws.specs.declared.tables.Asking.{Asking}
use Rattle.rpc_laws.specs.declared.tables.Call.{Call}
use Rattle.rpc_laws.specs.declared.tables.Client.{Client}
use Rattle.rpc_laws.specs.declared.tables.Progress.{Progress}
use Rattle.rpc_laws.specs.declared.tables.Queued.{Queued}
use Rattle.rpc_laws.specs.Calls.{is_active, is_response, asked_packets, known_packets, with_reply}
use Rattle.rpc_laws.specs.Facts.{plain, with_bytes}
use Rattle.rpc_laws.specs.Queues.{is_queued}
use Rattle.rpc_laws.specs.Sessions.{is_connected}

-- every later packet of an answer has the size that its first one told
abbrev pub is_same_size : Option ℕ → ℕ → Bool
is_same_size None size = true
is_same_size (Some told) size = told == size

-- before the last packet of the request a CR answers; from then on the parts of the answer
abbrev pub is_of_turn : (asked req_type : ℕ) → Option ℕ → MessageHeader → ℕ → Bool
is_of_turn asked req_type answer h body_len =
    if nat_lt (h.number + 1) asked then is_cr h.kind
    else is_response h.kind && (h.req_type == req_type) && is_same_size answer h.size
    && (body_len == part_size h.size (h.number + 1 - asked))

-- for a call that asks by so many packets, has taken `got` replies and posted its packets below
-- `posted`; is_waiting: its packet of the reply's number is queued
abbrev pub turn_row : Bool → (asked req_type got posted : ℕ) → Option ℕ → MessageHeader → ℕ
    → ClientRow
turn_row is_waiting asked req_type got posted answer h body_len =
    if nat_lt h.number got then Drops Past
    else (if nat_lt got h.number || nat_le posted h.number then Drops Ahead
    else (if not (is_of_turn asked req_type answer h body_len) then Drops Mismatch
    else (if is_waiting then Drops StillQueued
    else Takes)))

abbrev pub progress_row : List Queued → Asking → Progress → MessageHeader → ℕ → ClientRow
progress_row queued a p h body_len =
    turn_row (list_any (is_queued (Ask h.session h.request) h.number) queued) (asked_packets a)
    a.req_type p.got p.posted p.answer h body_len

abbrev pub active_row : List Queued → Asking → Option Progress → MessageHeader → ℕ → ClientRow
active_row queued a None h body_len = Drops NoCall
active_row queued a (Some p) h body_len = progress_row queued a p h body_len

abbrev pub call_row : List Queued → Option Call → MessageHeader → ℕ → ClientRow
call_row queued None h body_len = Drops NoCall
call_row queued (Some c) h body_len = active_row queued c.what c.progress h body_len

abbrev pub client_row : List Queued → Option Client → ℕ → MessageHeader → ℕ → ClientRow
client_row queued None peer h body_len = Drops NoSession
client_row queued (Some x) peer h body_len =
    if not (is_connected x.state) then Drops NoSession
    else (if not (x.way.peer == peer) then Drops WrongPeer
    else call_row queued (find (is_active h.request) x.calls) h body_len)

-- the end of a call: TooSmall where its answer's first packet tells a size above its room, Ok where
-- the last packet was taken
abbrev pub end_row : Bool → (asked room got : ℕ) → Option ℕ → EndRow
end_row is_first asked room got None = GoesOn
end_row is_first asked room got (Some size) =
    if is_first && nat_lt room size then EndsTooSmall size
    else (if got == known_packets asked (Some size) then EndsOk
    else GoesOn)

abbrev pub end_facts : (me number : ℕ) → List ℕ → EndRow → List Fact
end_facts me number parts GoesOn = []
end_facts me number parts EndsOk = with_bytes me (DoneOk number) parts ∷ []
end_facts me number parts (EndsTooSmall size) = plain me (DoneTooSmall number size) ∷ []

abbrev pub ending_of : ℕ → Asking → Progress → Progress → List Fact
ending_of me a before now =
    end_facts me a.number now.parts (end_row (is_none before.answer) (asked_packets a) a.room
    now.got now.answer)

abbrev pub progress_ending : ℕ → Asking → MessageHeader → List ℕ → Option Progress → List Fact
progress_ending me a h body None = []
progress_ending me a h body (Some p) = ending_of me a p (with_reply h body p)

abbrev pub call_ending : ℕ → MessageHeader → List ℕ → Option Call → List Fact
call_ending me h body None = []
call_ending me h body (Some c) = progress_ending me c.what h body c.progress

abbrev pub client_ending : ℕ → MessageHeader → List ℕ → Option Client → List Fact
client_ending me h body None = []
client_ending me h body (Some x) = call_ending me h body (find (is_active h.request) x.calls)

-- the facts of a row
abbrev pub reply_facts : ℕ → Option Client → MessageHeader → List ℕ → ClientRow → List Fact
reply_facts me x h body (Drops why) = plain me (Dropped why) ∷ []
reply_facts me x h body Takes =
    plain me (Took (Ask h.session h.request) h.number) ∷ client_ending me h body x
