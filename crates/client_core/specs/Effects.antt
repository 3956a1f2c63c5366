-- What a call of a session does to it, to the pool, to what is shown of it, and to the entries that
-- are neither sent nor flushed.
use Rattle.std.specs.Prelude.{◌≡◌, ◌⊎◌, ◌↔◌, ℕ, ◌++◌, ◌∷◌, [], Bool, false, length, count_by}
use Rattle.std.specs.Prelude.{Option, Some, None, IfNone, IfSome, IsNone, List, option_map}
use Rattle.std.specs.List.{list_any}
use Rattle.buffer_pool.specs.Pool.{Pool}
use Rattle.packet_header.specs.declared.packet.MessageHeader.{MessageHeader}
use Rattle.packet_rings.specs.Entries.{is_of}
use Rattle.packet_rings.specs.Still.{Still, StillWith}
use Rattle.packet_rings.specs.Values.{EntryValue}
use Rattle.rpc_base.specs.declared.owner.Owner.TheVariants.{Ask}
use Rattle.rpc_laws.specs.ClientTable.{client_ending, client_row}
use Rattle.rpc_laws.specs.Posting.{beginning, posting}
use Rattle.rpc_laws.specs.Queues.{is_queued}
use Rattle.rpc_laws.specs.declared.rows.ClientRow.TheVariants.{Takes}
use Rattle.rpc_laws.specs.declared.tables.Queued.{Queued}
use Rattle.session_slots.specs.Slots.{lowest_free}
use Rattle.session_slots.specs.declared.waiting.Waiting.{Waiting}
use Rattle.client_core.specs.Counting.{Counts, CountsQueued}
use Rattle.client_core.specs.Handing.{HandsBack, HandsBackBy, handed_of, handed_waiting}
use Rattle.client_core.specs.Keeping.{LeavesEntry, StillKeepsAll}
use Rattle.client_core.specs.KeepsEntries.{KeepsEntries, KeepsOthers, LossKeeps, RepliesKeep}
use Rattle.client_core.specs.KeepsPool.{IsHeld, KeepsPool, LeavesOthers, held_for}
use Rattle.client_core.specs.Losing.{Loses, next_lost}
use Rattle.client_core.specs.Posting.{IsPacketOf, Starts, call_of, flushed_at, next_entry}
use Rattle.client_core.specs.Posting.{posted, sent_at}
use Rattle.client_core.specs.Replies.{Replies, call_as, reply_row, row_told}
use Rattle.client_core.specs.Session.{IsSession, Session, can_post, enqueued}
use Rattle.client_core.specs.Shown.{IsAlone, IsAloneAfter, after_outcome, asked, begun_event}
use Rattle.client_core.specs.Shown.{done_event, ending_facts, posted_event, rolled_event}
use Rattle.client_core.specs.Shown.{sent_event, shown, shown_broken, stepped}
use Rattle.client_core.specs.Timeouts.{after_roll, call_numbered, is_numbered}
use Rattle.client_core.specs.declared.call.ActiveCall.{ActiveCall}
use Rattle.client_core.specs.declared.outcome.Done.{Done}
use Rattle.client_core.specs.declared.outcome.Reply.{Reply}

-- a call waits behind all others
pub record Waits (w : Waiting) (old new : Session) : Type 0 where
  pub waits : new ≡ enqueued w old
  pub step : (pool : Pool) → (clock peer : ℕ) → asked clock w (shown pool peer old)
      ≡ shown pool peer new ∷ []
  pub handed : (pool : Pool) → handed_of pool new ≡ handed_of pool old ++ handed_waiting w ∷ []

-- the call that waited longest began, by its numbers, if one waited and a slot was free
pub record BeginsNext (o : Option (ℕ × ℕ)) (old new : Session) (before after : Pool)
    : Type 0 where
  pub sound : IsSession old
  pub none : IsNone o ↔ ((old.slots.waiting ≡ []) ⊎ (lowest_free old.slots ≡ None))
  pub unchanged : IfNone o ((new ≡ old) × (after ≡ before))
  pub turn : (peer : ℕ) → beginning (shown before peer old) ≡ option_map begun_event o
  -- as the call Begun of the definitions, where no active call has this call's number already
  pub step : IfSome o (λ b. (clock peer : ℕ) → list_any (is_numbered b.0) old.active ≡ false
      → stepped clock (begun_event b) (shown before peer old) ≡ shown after peer new ∷ [])
  pub starts : IfSome o (λ b. Starts b.0 b.1 old new before after)
  pub handed : handed_of after new ≡ handed_of before old
  pub others : LeavesOthers old.active new.active before after
  pub entries : KeepsEntries old new
  pub counts : Still (Counts before) (Counts after)
  -- no entry of the call that begins is there yet
  pub queued : (entries : List EntryValue) → CountsQueued old entries
      → IfSome o (λ b. count_by (is_of (Ask old.number b.1)) entries ≡ 0
      → CountsQueued new entries)
  pub keeps_pool : KeepsPool after new.active

-- the oldest active call that may post posted its next packet, if there is one and a credit was
-- free
pub record Posts (peer : ℕ) (o : Option EntryValue) (old new : Session) (before after : Pool)
    : Type 0 where
  pub entry : o ≡ next_entry peer old
  pub none : IsNone o ↔ ((old.credits.free ≡ 0) ⊎ (list_any can_post old.active ≡ false))
  pub session : new ≡ posted old
  pub turn : posting (shown before peer old) ≡ option_map posted_event o
  pub step : IfSome o (λ e. (clock : ℕ) → stepped clock (posted_event e) (shown before peer old)
      ≡ shown after peer new ∷ [])
  pub pool : after ≡ held_for o before
  pub stands : IfSome o (λ e. IsPacketOf (call_of new e) e)
  pub held : IfSome o (λ e. IsHeld after e.place)
  pub handed : handed_of after new ≡ handed_of before old
  pub others : LeavesOthers old.active new.active before after
  pub entries : KeepsEntries old new
  pub counts : IfSome o (λ e. StillWith (e ∷ []) (Counts before) (Counts after))
  pub queued : IfSome o (λ e. StillWith (e ∷ []) (CountsQueued old) (CountsQueued new))
  pub keeps_pool : KeepsPool after new.active

-- an entry that was posted was sent at this clock
pub record Sends (e : EntryValue) (now : ℕ) (old new : Session) (before after : Pool)
    : Type 0 where
  pub session : new ≡ sent_at e now old
  pub step : (peer : ℕ) → stepped now (sent_event e) (shown before peer old)
      ≡ shown after peer new ∷ []
  pub leaves : LeavesEntry e old new before after

-- it was taken out unsent
pub record Flushes (e : EntryValue) (old new : Session) (before after : Pool) : Type 0 where
  pub session : new ≡ flushed_at e old
  pub same : (peer : ℕ) → shown after peer new ≡ shown before peer old
  pub leaves : LeavesEntry e old new before after

-- a CR or Response was handled by the client table
pub record RepliesTo (now : ℕ) (h : MessageHeader) (body : List ℕ) (is_waiting : Bool) (r : Reply)
    (old new : Session) (before after : Pool) : Type 0 where
  pub row : row_told r ≡ reply_row is_waiting h (length body) (call_as h.request old)
  -- as the client rule says of what is shown, whatever else is queued
  pub rule : (queue : List Queued)
      → list_any (is_queued (Ask h.session h.request) h.number) queue ≡ is_waiting → (peer : ℕ)
      → client_row queue (Some (shown before peer old)) peer h (length body) ≡ row_told r
  pub facts : row_told r ≡ Takes → (me peer : ℕ)
      → client_ending me h body (Some (shown before peer old)) ≡ ending_facts me r
  -- as the facts Took and Done of the definitions, where no other active call has this call's
  -- number
  pub step : IsAloneAfter r old → (peer : ℕ)
      → after_outcome now r h body (shown before peer old) ≡ shown after peer new ∷ []
  pub replies : Replies r now h body old new before after
  pub handed : HandsBackBy r old.number (handed_of before old) (handed_of after new)
  pub entries : RepliesKeep r h.request old new
  pub still : StillKeepsAll old new before after

-- the active call with this number was rolled back
pub record RollsBack (number : ℕ) (old new : Session) : Type 0 where
  pub call : ActiveCall
  pub found : call_numbered number old ≡ Some call
  pub session : new ≡ after_roll call old
  pub step : (pool : Pool) → (clock peer : ℕ) → stepped clock (rolled_event call)
      (shown pool peer old) ≡ shown pool peer new ∷ []
  pub handed : (pool : Pool) → handed_of pool new ≡ handed_of pool old
  pub others : (pool : Pool) → LeavesOthers old.active new.active pool pool
  pub entries : KeepsOthers call.request old new
  pub queued : Still (CountsQueued old) (CountsQueued new)
  pub keeps_pool : (pool : Pool) → KeepsPool pool old.active → KeepsPool pool new.active

-- the next call of a session that lost its peer ended, if there is one
pub record LosesNext (o : Option Done) (old new : Session) (before after : Pool) : Type 0 where
  pub sound : IsSession old
  pub none : IsNone o ↔ ((old.active ≡ []) × (old.slots.waiting ≡ []))
  pub unchanged : IfNone o ((new ≡ old) × (after ≡ before))
  -- as the fact Done of the definitions, where no other active call has this call's number
  pub step : IfSome o (λ d. IsAlone d.call old → (clock peer : ℕ) → stepped clock (done_event d)
      (shown_broken before peer old) ≡ shown_broken after peer new ∷ [])
  pub loses : IfSome o (λ d. Loses (next_lost old) d old new before after)
  pub handed : IfSome o (λ d. HandsBack old.number d (handed_of before old) (handed_of after new))
  pub entries : LossKeeps (next_lost old) old new
  pub still : StillKeepsAll old new before after
