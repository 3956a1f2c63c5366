-- The replies to an older request, which are taken out of the transmit ring before a newer one
-- begins.
use Rattle.std.specs.Prelude.{◌≡◌, ℕ, ◌%◌, ◌&&◌, ◌==◌, Bool, true, false, List, [], ◌∷◌, map}
use Rattle.std.specs.Prelude.{count_by, Option, Some, None, IfSome, IsTrue, if◌then◌else◌}
use Rattle.std.specs.List.{AllByRecursion, filter, list_any}
use Rattle.buffer_pool.specs.Pool.{Pool, refs_of}
use Rattle.packet_rings.specs.Entries.{is_of, is_not_of}
use Rattle.packet_rings.specs.Mentions.{is_place}
use Rattle.packet_rings.specs.Values.{EntryValue}
use Rattle.rpc_base.specs.Tables.{without_first}
use Rattle.rpc_base.specs.declared.event.Event.{Event}
use Rattle.rpc_base.specs.declared.event.Event.TheVariants.{Flushed}
use Rattle.rpc_base.specs.declared.fact.Fact.{Fact}
use Rattle.rpc_base.specs.declared.fact.Who.{Who}
use Rattle.rpc_base.specs.declared.owner.Owner.{Owner}
use Rattle.rpc_base.specs.declared.owner.Owner.TheVariants.{Ask, Control, Reply}
use Rattle.rpc_laws.specs.declared.rows.ServerRow.{ServerRow}
use Rattle.rpc_laws.specs.declared.rows.ServerRow.TheVariants.{Drops, Begins, Takes, Repeats}
use Rattle.rpc_laws.specs.declared.tables.Queued.{Queued}
use Rattle.rpc_laws.specs.Queues.{numbers_of}
use Rattle.server_core.specs.declared.slot.SlotRequest.{SlotRequest}
use Rattle.server_core.specs.declared.step.Step.{Step}
use Rattle.server_core.specs.declared.step.Step.TheVariants.{Took, Again, Ran, Give, Dropped}
use Rattle.server_core.specs.Replies.{IsReplyIn, is_owner}
use Rattle.server_core.specs.Serving.{with_slots}
use Rattle.server_core.specs.Session.{Session, answer_of, is_in_slot, owner_of}

-- how many of an owner's entries name a place
abbrev pub named_by : Owner → ℕ → List EntryValue → ℕ
named_by owner p entries = count_by (λ e. is_of owner e && is_place p e.place) entries

-- a ring holds each reply to a request that is neither sent nor flushed: its entries are such
-- replies, and the answer has as many references as they name it
pub record HoldsReplies (session : ℕ) (pool : Pool) (entries : List EntryValue) (q : SlotRequest)
    : Type 0 where
  pub each : AllByRecursion (λ e. IsTrue (is_of (owner_of session q) e) → IsReplyIn q e) entries
  pub all : IfSome (answer_of q.state)
      (λ a. refs_of pool a.place ≡ named_by (owner_of session q) a.place entries)

-- whether an entry is a reply of a session
abbrev pub is_reply_of : ℕ → Owner → Bool
is_reply_of session (Reply t r) = session == t
is_reply_of session (Ask t r) = false
is_reply_of session Control = false

-- a list of entries holds each reply of a session that is neither sent nor flushed: each entry of
-- the session is a reply to one of its requests, and each answer has as many references as they
-- name it
pub record HoldsAll (s : Session) (pool : Pool) (entries : List EntryValue) : Type 0 where
  pub own : AllByRecursion
      (λ e. IsTrue (is_reply_of s.number e.owner)
      → IsTrue (list_any (is_owner s.number e.owner) s.slots)) entries
  pub each : AllByRecursion (HoldsReplies s.number pool entries) s.slots

-- a session without the newest request of the slot of r
abbrev pub without_newest : ℕ → Session → Session
without_newest r s = with_slots (without_first (is_in_slot (r % 8)) s.slots) s

-- the reply of a step, which is to be put behind the entries
abbrev pub replies_of : Step → List EntryValue
replies_of (Took None) = []
replies_of (Took (Some reply)) = reply ∷ []
replies_of (Again reply) = reply ∷ []
replies_of (Ran reply) = reply ∷ []
replies_of (Give parcel) = []
replies_of (Dropped why) = []

-- the entries of a ring as the definitions over histories have them
abbrev pub queued_of : List EntryValue → List Queued
queued_of entries = map (λ e. record { owner = e.owner; number = e.number; due = None }) entries

-- a ring without the replies to a request, the others in their order
abbrev pub without_replies : ℕ → Option SlotRequest → List EntryValue → List EntryValue
without_replies session None entries = entries
without_replies session (Some q) entries = filter (is_not_of (owner_of session q)) entries

-- a fact that has no bytes
abbrev pub bare : Who → Event → Fact
bare who e = record { who = who; event = e; first = []; second = [] }

-- the replies to a request are taken out, in ascending number
abbrev pub flushed_facts : Who → ℕ → Option SlotRequest → List EntryValue → List Fact
flushed_facts who session None entries = []
flushed_facts who session (Some q) entries =
    map (λ k. bare who (Flushed (owner_of session q) k))
    (numbers_of (owner_of session q) (queued_of entries))

-- whether a packet of this row, which did this, began a request: not where memory was wanting
abbrev pub has_begun : ServerRow → Step → Bool
has_begun Begins (Took reply) = true
has_begun Begins (Again reply) = false
has_begun Begins (Ran reply) = true
has_begun Begins (Give parcel) = true
has_begun Begins (Dropped why) = false
has_begun Takes step = false
has_begun Repeats step = false
has_begun (Drops why) step = false

-- the ring after it, and the facts of what left the ring
abbrev pub ring_after : ServerRow → Step → ℕ → Option SlotRequest
    → List EntryValue → List EntryValue
ring_after row step session older entries =
    if has_begun row step then without_replies session older entries else entries

abbrev pub flushes : ServerRow → Step → Who → ℕ → Option SlotRequest → List EntryValue → List Fact
flushes row step who session older entries =
    if has_begun row step then flushed_facts who session older entries else []
