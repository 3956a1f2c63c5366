-- What a call keeps of the places that a session names and of the entries that are neither sent nor
-- flushed.
use Rattle.std.specs.Prelude.{◌≡◌, ◌≢◌, ℕ, ◌+◌, List, [], ◌∷◌, ◌++◌}
use Rattle.buffer_pool.specs.Counting.{Counts}
use Rattle.buffer_pool.specs.Pool.{Pool, refs_of}
use Rattle.packet_header.specs.declared.packet.MessageHeader.{MessageHeader}
use Rattle.packet_rings.specs.Mentions.{mentions}
use Rattle.packet_rings.specs.Still.{Still, StillWithout}
use Rattle.packet_rings.specs.Values.{EntryValue}
use Rattle.rpc_outside.specs.declared.service.Mode.{Mode}
use Rattle.rpc_outside.specs.declared.service.Mode.TheVariants.{Unserved}
use Rattle.server_core.specs.Counting.{CountsQueued, left_at}
use Rattle.server_core.specs.Flushing.{HoldsAll, without_newest}
use Rattle.server_core.specs.KeepsPool.{KeepsPool, KeepsSpare, LeavesOthers}
use Rattle.server_core.specs.Replies.{IsReplyTo, released_at, request_of}
use Rattle.server_core.specs.Session.{Session}
use Rattle.server_core.specs.Shown.{shown}
use Rattle.server_core.specs.Steps.{AreServed, IsReply}

-- the pool has what the session needs of it, the places of others are as they were, and a place is
-- spare unless the session names it
pub record KeepsPlaces (s w : Session) (before after : Pool) : Type 0 where
  pub spare : KeepsSpare s.slots w.slots before after
  pub others : LeavesOthers s.slots w.slots before after
  pub keeps_pool : KeepsPool after w.slots

-- the entries hold each reply of the session, each request counts those that are its own, and a
-- place has as many references more as entries name it more
pub record KeepsReplies (old new : List EntryValue) (s w : Session) (before after : Pool)
    : Type 0 where
  pub holds : HoldsAll s before old → HoldsAll w after new
  pub queued : HoldsAll s before old → CountsQueued s old → CountsQueued w new
  pub counts : (p : ℕ) → refs_of after p + mentions p old ≡ refs_of before p + mentions p new

-- so it stays with these replies behind the entries, whichever they are
pub record StaysSound (more : List EntryValue) (s w : Session) (before after : Pool)
    : Type 0 where
  pub places : KeepsPlaces s w before after
  pub replies : (entries : List EntryValue)
      → KeepsReplies entries (entries ++ more) s w before after
  -- all its requests are of types that are served, as before
  pub served : (mode_of : ℕ → Mode) → AreServed mode_of s.slots → AreServed mode_of w.slots

-- so it is of a call that gives the reply to packet k of request r
pub record GivesReply (r k : ℕ) (e : EntryValue) (s w : Session) (before after : Pool)
    : Type 0 where
  pub reply : IsReply r k w after e
  pub stays : StaysSound (e ∷ []) s w before after

-- and where a request begins with a packet, once the replies to the older one of its slot were
-- flushed
pub record BeginsSound (h : MessageHeader) (more : List EntryValue) (s w : Session)
    (before after : Pool) : Type 0 where
  pub places : KeepsPlaces s w before after
  pub replies : (entries : List EntryValue)
      → KeepsReplies entries (entries ++ more) (without_newest h.request s) w before after
  pub served : (mode_of : ℕ → Mode) → mode_of h.req_type ≢ Unserved → AreServed mode_of s.slots
      → AreServed mode_of w.slots

-- so it is where the reply to that packet is given
pub record BeginsWithReply (h : MessageHeader) (e : EntryValue) (s w : Session)
    (before after : Pool) : Type 0 where
  pub reply : IsReply h.request 0 w after e
  pub begins : BeginsSound h (e ∷ []) s w before after

-- the entries count the references as they did before
abbrev pub StillCounts : (old new : Pool) → Type 0
StillCounts old new = Still (Counts old) (Counts new)

-- so they are without an entry that was taken out of them
abbrev pub LeftHolds : EntryValue → (s w : Session) → (before after : Pool) → Type 0
LeftHolds e s w before after =
    IsReplyTo (request_of s e) e → StillWithout e (HoldsAll s before) (HoldsAll w after)

abbrev pub LeftQueued : EntryValue → (s w : Session) → Type 0
LeftQueued e s w =
    IsReplyTo (request_of s e) e → StillWithout e (CountsQueued s) (CountsQueued w)

abbrev pub LeftCounts : EntryValue → (before after : Pool) → Type 0
LeftCounts e before after = StillWithout e (Counts before) (Counts after)

-- a reply left the queue: its reference is given up, and nothing that is shown changes
pub record LeavesReply (e : EntryValue) (s w : Session) (before after : Pool) : Type 0 where
  pub session : w ≡ left_at e s
  pub same : shown after w ≡ shown before s
  pub pool : after ≡ released_at e.place before
  -- the entries without this one hold each reply of the session, as before
  pub holds : LeftHolds e s w before after
  pub queued : LeftQueued e s w
  pub served : (mode_of : ℕ → Mode) → AreServed mode_of s.slots → AreServed mode_of w.slots
  pub counts : LeftCounts e before after
  pub keeps_pool : KeepsPool after w.slots
