-- What the calls of a session want, and what they keep of the places that it names and of the
-- entries that are neither sent nor flushed.
use Rattle.std.specs.Prelude.{◌≡◌, Some}
use Rattle.buffer_pool.specs.Pool.{Pool}
use Rattle.packet_rings.specs.Still.{Still, StillWithout}
use Rattle.packet_rings.specs.Values.{EntryValue}
use Rattle.client_core.specs.Counting.{Counts, CountsQueued}
use Rattle.client_core.specs.Handing.{handed_of}
use Rattle.client_core.specs.KeepsEntries.{KeepsEntries}
use Rattle.client_core.specs.KeepsPool.{IsHeld, KeepsPool, LeavesOthers, released_at}
use Rattle.client_core.specs.Posting.{IsPacketOf, call_of}
use Rattle.client_core.specs.Replies.{call_as}
use Rattle.client_core.specs.Session.{Session}
use Rattle.client_core.specs.declared.call.ActiveCall.{ActiveCall}

-- an entry may leave the queue: its place is held, if it has one
pub record MayLeave (e : EntryValue) (s : Session) (pool : Pool) : Type 0 where
  pub keeps_pool : KeepsPool pool s.active
  pub held : IsHeld pool e.place

-- it left the queue: its reference is given up
pub record LeavesEntry (e : EntryValue) (s w : Session) (before after : Pool) : Type 0 where
  pub pool : after ≡ released_at e.place before
  pub handed : handed_of after w ≡ handed_of before s
  pub others : IsPacketOf (call_of s e) e → LeavesOthers s.active w.active before after
  pub entries : KeepsEntries s w
  pub counts : StillWithout e (Counts before) (Counts after)
  pub queued : IsPacketOf (call_of s e) e → StillWithout e (CountsQueued s) (CountsQueued w)
  pub keeps_pool : KeepsPool after w.active

-- a call of a session that the pool keeps is active
pub record IsActive (c : ActiveCall) (s : Session) (pool : Pool) : Type 0 where
  pub keeps_pool : KeepsPool pool s.active
  pub active : call_as c.request s ≡ Some c

-- the pool keeps the session, and the entries count the references as before
pub record StillKeeps (w : Session) (before after : Pool) : Type 0 where
  pub counts : Still (Counts before) (Counts after)
  pub keeps_pool : KeepsPool after w.active

-- they count the queued packets too, and the places of others are as they were
pub record StillKeepsAll (s w : Session) (before after : Pool) : Type 0 where
  pub others : LeavesOthers s.active w.active before after
  pub counts : Still (Counts before) (Counts after)
  pub queued : Still (CountsQueued s) (CountsQueued w)
  pub keeps_pool : KeepsPool after w.active
