-- What is queued: what is ready stands in the ring, and behind it what is paced, in the pacer.
use Rattle.std.specs.Prelude.{ℕ, ◌≡◌, ◌*◌, ◌++◌, Bool, true, false, nat_le, Option, Some, None}
use Rattle.std.specs.Prelude.{List, map}
use Rattle.std.specs.List.{AllByRecursion}
use Rattle.pacing_wheel.specs.declared.pacer.Paced.{Paced}
use Rattle.pacing_wheel.specs.Wheel.{Wheel, entry_of}
use Rattle.packet_rings.specs.Entries.{is_reply}
use Rattle.packet_rings.specs.Rings.{Ring, ring}
use Rattle.packet_rings.specs.Values.{EntryValue}
use Rattle.rpc_laws.specs.Queues.{is_due}
use Rattle.rpc_laws.specs.declared.tables.Queued.{Queued}
use Rattle.session_ends.specs.declared.queue.Queue.{Queue}
use Rattle.rpc_base.specs.declared.owner.Owner.{Owner}
use Rattle.rpc_base.specs.Owners.{same_owner}

-- an entry that is ready, as it is seen
abbrev pub queued_of : EntryValue → Queued
queued_of e = record { owner = e.owner; number = e.number; due = None }

-- the entries of both, as if they stood in one ring
abbrev pub joined : Ring EntryValue → Wheel → Ring EntryValue
joined tx paced = ring (tx.items ++ map entry_of paced.items) tx.size

-- an entry as it is seen, with the time when it is due where it is paced
abbrev pub queued_at : Option ℕ → EntryValue → Queued
queued_at due e = record { owner = e.owner; number = e.number; due = due }

abbrev pub paced_of : Paced → Queued
paced_of p = queued_at (Some p.due) p.entry

-- both as they are seen
abbrev pub queue_of : Ring EntryValue → Wheel → List Queued
queue_of tx paced = map queued_of tx.items ++ map paced_of paced.items

-- whether there is a packet and it may be sent at this clock
abbrev pub is_some_due : (now : ℕ) → Option Queued → Bool
is_some_due now None = false
is_some_due now (Some q) = is_due now q.due

-- whether the least number of what is ready is first, before that of what is paced
abbrev pub ready_first : (ready paced : Option ℕ) → Bool
ready_first ready None = true
ready_first None (Some m) = false
ready_first (Some n) (Some m) = nat_le n m

-- no reply is paced, and the pacer has room for half as many entries as the ring
pub record Paces (tx : Ring EntryValue) (paced : Wheel) : Type 0 where
  pub calls : AllByRecursion (λ p. is_reply p.entry ≡ false) paced.items
  pub half : 2 * paced.size ≡ tx.size

-- the same of a queue
abbrev pub joined_in : Queue → Ring EntryValue
joined_in q = joined q.tx q.pacer

abbrev pub queue_in : Queue → List Queued
queue_in q = queue_of q.tx q.pacer

abbrev pub PacesIn : Queue → Type 0
PacesIn q = Paces q.tx q.pacer

-- whether a queued packet is an owner's
abbrev pub is_owned : Owner → Queued → Bool
is_owned owner q = same_owner q.owner owner

abbrev pub queued_number : Queued → ℕ
queued_number q = q.number
