-- Which entries of posted packets stay packets of their calls.
use Rattle.std.specs.Prelude.{◌≡◌, ℕ, false, Option, Some, None}
use Rattle.rpc_base.specs.declared.owner.Owner.TheVariants.{Ask}
use Rattle.packet_rings.specs.Entries.{is_of}
use Rattle.packet_rings.specs.Values.{EntryValue}
use Rattle.client_core.specs.declared.call.ActiveCall.{ActiveCall}
use Rattle.client_core.specs.declared.outcome.Reply.{Reply}
use Rattle.client_core.specs.declared.outcome.Reply.TheVariants.{Took, Ended, Dropped}
use Rattle.client_core.specs.Posting.{IsPacketOf, call_of}
use Rattle.client_core.specs.Session.{Session}

-- each entry of a packet is one then
abbrev pub KeepsEntries : (old new : Session) → Type 0
KeepsEntries old new =
    (e : EntryValue) → IsPacketOf (call_of old e) e → IsPacketOf (call_of new e) e

-- each but those of the call with this request number
abbrev pub KeepsOthers : ℕ → (old new : Session) → Type 0
KeepsOthers r old new =
    (e : EntryValue) → is_of (Ask old.number r) e ≡ false → IsPacketOf (call_of old e) e
    → IsPacketOf (call_of new e) e

-- a reply that ends its call takes the entries of that call away, and no other
abbrev pub RepliesKeep : Reply → ℕ → (old new : Session) → Type 0
RepliesKeep Took r old new = KeepsEntries old new
RepliesKeep (Ended d) r old new = KeepsOthers r old new
RepliesKeep (Dropped why) r old new = KeepsEntries old new

-- a call that is lost takes its entries away
abbrev pub LossKeeps : Option ActiveCall → (old new : Session) → Type 0
LossKeeps None old new = KeepsEntries old new
LossKeeps (Some c) old new = KeepsOthers c.request old new
