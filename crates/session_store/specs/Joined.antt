-- What is queued, as contracts see it: what is put in, and how it looks as if nothing were paced.
use Rattle.std.specs.Prelude.{ℕ, Bool, is_some, Option, Some, None, List, [], ◌∷◌, map}
use Rattle.buffer_pool.specs.Pool.{Pool}
use Rattle.pacing_wheel.specs.Wheel.{Wheel}
use Rattle.packet_rings.specs.Rings.{Ring}
use Rattle.packet_rings.specs.Values.{EntryValue}
use Rattle.rpc_laws.specs.Queues.{put_queued}
use Rattle.rpc_laws.specs.declared.tables.Queued.{Queued}
use Rattle.server_core.specs.Session.{Session as Serving}
use Rattle.session_ends.specs.declared.side.Side.{Side}
use Rattle.session_store.specs.Sides.{Shown, shown_of}
use Rattle.session_ends.specs.Joined.{joined, queue_of, queued_at, queued_of}

-- an entry that is put into what is queued, if there is one
abbrev pub put_listed : (due : Option ℕ) → Option EntryValue → List Queued → List Queued
put_listed due None queued = queued
put_listed due (Some e) queued = put_queued (queued_at due e) queued

-- entries that are ready are put in
abbrev pub put_ready : List EntryValue → List Queued → List Queued
put_ready [] queued = queued
put_ready (e ∷ es) queued = put_ready es (put_queued (queued_of e) queued)

-- a packet that is queued as if it weren't paced
abbrev pub without_due : Queued → Queued
without_due q = record q { due = None }

abbrev pub is_paced : Queued → Bool
is_paced q = is_some q.due

-- what contracts see of all sessions, of the ring and of the pacer
abbrev pub shown_with : Pool → List Side → List Serving → Ring EntryValue → Wheel → Shown
shown_with pool sides servers tx paced =
    record (shown_of pool sides servers (joined tx paced)) { queued = queue_of tx paced }

-- as if nothing were paced
abbrev pub undue : Shown → Shown
undue s = record s { queued = map without_due s.queued }
