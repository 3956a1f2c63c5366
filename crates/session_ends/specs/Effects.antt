-- What a call of a session does to the list that it stands in, and to the pool.
use Rattle.std.specs.Prelude.{◌≡◌, ℕ, Option, Some, None, List, slice_get, slice_set}
use Rattle.std.specs.List.{find, position, remove}
use Rattle.buffer_pool.specs.Pool.{Pool}
use Rattle.rpc_laws.specs.Packets.{IsSpelled}
use Rattle.session_slots.specs.declared.waiting.Waiting.{Waiting}
use Rattle.packet_rings.specs.Values.{EntryValue}
use Rattle.client_core.specs.declared.outcome.Done.{Done}
use Rattle.client_core.specs.Effects.{BeginsNext, Flushes, LosesNext, Posts, RollsBack, Sends}
use Rattle.client_core.specs.Effects.{Waits}
use Rattle.client_core.specs.Session.{Session}
use Rattle.client_core.specs.Shown.{packet_of}
use Rattle.server_core.specs.Finishing.{Ends}
use Rattle.server_core.specs.Keeping.{LeavesReply}
use Rattle.server_core.specs.Replies.{packet_of as reply_of}
use Rattle.server_core.specs.Session.{Session as Serving}
use Rattle.session_ends.specs.declared.side.Side.{Side}
use Rattle.session_ends.specs.Sides.{has_number}

-- client session i changed
pub record SideChanges (i : ℕ) (Step : Side → Session → Type 0) (old new : List Side) : Type 0 where
  pub side : Side
  pub at : slice_get old i ≡ Some side
  pub later : Session
  pub step : Step side later
  pub changed : new ≡ slice_set old i (record side { session = later })

-- it posted its next packet, if it has one
abbrev pub SidePosts : ℕ → Option EntryValue → List Side → List Side → Pool → Pool → Type 0
SidePosts i o old new before after =
    SideChanges i (λ s later. Posts s.peer o s.session later before after) old new

-- it began the call that waited longest, if it could
abbrev pub SideBegins : ℕ → Option (ℕ × ℕ) → List Side → List Side → Pool → Pool → Type 0
SideBegins i o old new before after =
    SideChanges i (λ s later. BeginsNext o s.session later before after) old new

-- an entry of it was sent at this clock
abbrev pub SideSends : EntryValue → (now i : ℕ) → List Side → List Side → Pool → Pool → Type 0
SideSends e now i old new before after =
    SideChanges i (λ s later. Sends e now s.session later before after) old new

-- or taken out unsent
abbrev pub SideFlushes : EntryValue → ℕ → List Side → List Side → Pool → Pool → Type 0
SideFlushes e i old new before after =
    SideChanges i (λ s later. Flushes e s.session later before after) old new

-- an entry is a packet of its session, sent with this header and body
abbrev pub SpellsIn : Pool → EntryValue → (head body : List ℕ) → Option Side → Type 0
SpellsIn pool e head body None = ⊥
SpellsIn pool e head body (Some s) = IsSpelled (packet_of pool s.session e) head body

-- the same of a reply
abbrev pub SpellsReply : Pool → EntryValue → (head body : List ℕ) → Option Serving → Type 0
SpellsReply pool e head body None = ⊥
SpellsReply pool e head body (Some v) = IsSpelled (reply_of pool v e) head body

abbrev pub ServerSpells : ℕ → Pool → EntryValue → (head body : List ℕ) → List Serving → Type 0
ServerSpells number pool e head body servers =
    SpellsReply pool e head body (find (has_number number) servers)

-- the server session with a number changed
pub record ServerChanges (number : ℕ) (Step : Serving → Serving → Type 0) (old new : List Serving)
    : Type 0 where
  pub place : ℕ
  pub first : position (has_number number) old ≡ Some place
  pub server : Serving
  pub at : slice_get old place ≡ Some server
  pub later : Serving
  pub step : Step server later
  pub changed : new ≡ slice_set old place later

abbrev pub ServerGone : ℕ → EntryValue → List Serving → List Serving → Pool → Pool → Type 0
ServerGone number e old new before after =
    ServerChanges number (λ v w. LeavesReply e v w before after) old new

-- a call waits on session i
abbrev pub SideWaits : ℕ → Waiting → List Side → List Side → Type 0
SideWaits i w old new = SideChanges i (λ s later. Waits w s.session later) old new

-- a call of it was rolled back
abbrev pub SideRolls : (i number : ℕ) → List Side → List Side → Type 0
SideRolls i number old new = SideChanges i (λ s later. RollsBack number s.session later) old new

-- its next call ended, where it lost its peer, if there is one
abbrev pub SideLoses : ℕ → Option Done → List Side → List Side → Pool → Pool → Type 0
SideLoses i o old new before after =
    SideChanges i (λ s later. LosesNext o s.session later before after) old new

-- the server session at a place ended: its buffers left the pool
pub record ServerEnds (i : ℕ) (old new : List Serving) (before after : Pool) : Type 0 where
  pub server : Serving
  pub at : slice_get old i ≡ Some server
  pub ends : Ends server.slots before after
  pub changed : new ≡ remove old i
