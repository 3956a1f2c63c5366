-- The references to places of the pool, and the queued packets of calls, by the entries that name
-- them.
use Rattle.std.specs.Prelude.{◌≡◌, ℕ, List, count_by}
use Rattle.std.specs.List.{AllByRecursion}
use Rattle.rpc_base.specs.declared.owner.Owner.TheVariants.{Ask}
pub use Rattle.buffer_pool.specs.Counting.{Counts}
use Rattle.packet_rings.specs.Entries.{is_of}
use Rattle.packet_rings.specs.Values.{EntryValue}
use Rattle.client_core.specs.declared.call.ActiveCall.{ActiveCall}
use Rattle.client_core.specs.Session.{Session}

-- each active call has as many queued packets as entries are its own
abbrev pub AreQueued : ℕ → List ActiveCall → List EntryValue → Type 0
AreQueued number calls entries =
    AllByRecursion (λ c. c.queued ≡ count_by (is_of (Ask number c.request)) entries) calls

abbrev pub CountsQueued : Session → List EntryValue → Type 0
CountsQueued s entries = AreQueued s.number s.active entries
