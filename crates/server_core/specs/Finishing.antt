-- A job that a worker finished, and the end of a session.
use Rattle.std.specs.Prelude.{◌≡◌, ℕ, ◌+◌, ◌++◌, [], ◌∷◌, Bool, true, false, List, Option}
use Rattle.std.specs.Prelude.{IfNone, IfSome}
use Rattle.std.specs.List.{find}
use Rattle.packet_header.specs.Parts.{packet_count}
use Rattle.buffer_pool.specs.Counting.{Counts}
use Rattle.buffer_pool.specs.Pool.{Pool}
use Rattle.packet_rings.specs.Values.{EntryValue}
use Rattle.rpc_laws.specs.declared.tables.Server.{Server}
use Rattle.rpc_laws.specs.PollOrder.{is_working}
use Rattle.rpc_laws.specs.Requests.{answered, is_request}
use Rattle.rpc_outside.specs.declared.service.Mode.{Mode}
use Rattle.server_core.specs.declared.slot.SlotRequest.{SlotRequest}
use Rattle.server_core.specs.Counting.{CountsQueued}
use Rattle.server_core.specs.Flushing.{HoldsAll}
use Rattle.server_core.specs.Keeping.{GivesReply, KeepsPlaces, StillCounts}
use Rattle.server_core.specs.KeepsPool.{KeepsSpare, LeavesOthers}
use Rattle.server_core.specs.Serving.{all_given_up}
use Rattle.server_core.specs.Session.{IsSession, Session, newest}
use Rattle.server_core.specs.Shown.{shown}
use Rattle.server_core.specs.Steps.{AreServed, HasNoBytes, IsReply, gone_on_as}

-- whether a request waits for a worker's answer
abbrev pub is_waiting : ℕ → Server → Bool
is_waiting r v = is_working (find (is_request r) v.slots)

-- these bytes are the answer to the request that waits for them, and the entry is the reply to its
-- last packet
pub record IsFinished (r : ℕ) (bytes : List ℕ) (s w : Session) (before after : Pool)
    (e : EntryValue) : Type 0 where
  pub waited : is_waiting r (shown before s) ≡ true
  pub shown_is : shown after w ≡ gone_on_as r (answered bytes) (shown before s)
  pub last : IfSome (newest r s) (λ q. e.number + 1 ≡ packet_count q.size)
  pub reply : IsReply r e.number w after e

-- a request that was at work is answered with these bytes: it has given its own up, and the entry
-- is the reply to its last packet
pub record GivesAnswer (q : SlotRequest) (bytes : List ℕ) (e : EntryValue) (s w : Session)
    (before after : Pool) : Type 0 where
  pub shown_is : shown after w ≡ gone_on_as q.number (answered bytes) (shown before s)
  pub last : e.number + 1 ≡ packet_count q.size
  pub no_bytes : HasNoBytes (newest q.number w)
  pub replies : GivesReply q.number e.number e s w before after
  -- whatever the entries are
  pub queued : (entries : List EntryValue) → CountsQueued s entries
      → CountsQueued w (entries ++ e ∷ [])

-- no request waits for them, and nothing changes
pub record IsLeft (r : ℕ) (s w : Session) (before after : Pool) : Type 0 where
  pub waited : is_waiting r (shown before s) ≡ false
  pub session : w ≡ s
  pub pool : after ≡ before

-- the job of request r is finished, with these bytes: the entry is the reply, if the request waited
-- for them
pub record Finishes (r : ℕ) (bytes : List ℕ) (o : Option EntryValue) (s w : Session)
    (before after : Pool) : Type 0 where
  pub finished : IfSome o (IsFinished r bytes s w before after)
  pub no_bytes : IfSome o (λ e. HasNoBytes (newest r w))
  pub left : IfNone o (IsLeft r s w before after)
  pub sound : IsSession s
  pub then_sound : IsSession w
  pub all_served : (mode_of : ℕ → Mode) → AreServed mode_of s.slots → AreServed mode_of w.slots
  pub places : KeepsPlaces s w before after
  pub holds : (entries : List EntryValue) → HoldsAll s before entries
      → IfSome o (λ e. HoldsAll w after (entries ++ e ∷ []))
  pub still_holds : (entries : List EntryValue) → HoldsAll s before entries
      → IfNone o (HoldsAll w after entries)
  pub queued : (entries : List EntryValue) → CountsQueued s entries
      → IfSome o (λ e. CountsQueued w (entries ++ e ∷ []))
  pub counts : (entries : List EntryValue) → Counts before entries
      → IfSome o (λ e. Counts after (entries ++ e ∷ []))

-- a session with these requests ended, of which no reply was queued: all its buffers left the pool
pub record Ends (slots : List SlotRequest) (before after : Pool) : Type 0 where
  pub pool : after ≡ all_given_up slots before
  pub spare : KeepsSpare slots [] before after
  pub others : LeavesOthers slots [] before after
  pub counts : StillCounts before after
