-- The references to places of the pool, and the queued replies to requests, by the entries.
use Rattle.std.specs.Prelude.{◌≡◌, ℕ, ◌%◌, List, count_by}
use Rattle.std.specs.List.{AllByRecursion}
use Rattle.packet_rings.specs.Entries.{is_of}
use Rattle.packet_rings.specs.Values.{EntryValue}
use Rattle.rpc_base.specs.Tables.{at_first}
use Rattle.server_core.specs.declared.slot.SlotRequest.{SlotRequest}
use Rattle.server_core.specs.Replies.{is_owner}
use Rattle.server_core.specs.Serving.{one_left, one_queued, with_slots}
use Rattle.server_core.specs.Session.{Session, is_in_slot, owner_of}

-- a request counts as many queued replies as entries are its own
abbrev pub IsCounted : (session : ℕ) → List EntryValue → SlotRequest → Type 0
IsCounted session entries q = q.queued ≡ count_by (is_of (owner_of session q)) entries

-- so does each request of a session
abbrev pub CountsQueued : Session → List EntryValue → Type 0
CountsQueued s entries = AllByRecursion (IsCounted s.number entries) s.slots

-- the session once an entry was sent, or taken out unsent
abbrev pub left_at : EntryValue → Session → Session
left_at e s = with_slots (at_first (is_owner s.number e.owner) one_left s.slots) s

-- and once a packet of request r was answered once more
abbrev pub repeated : ℕ → Session → Session
repeated r s = with_slots (at_first (is_in_slot (r % 8)) one_queued s.slots) s
