-- The receive ring and the inbox of a node, and the packets that it posted and that are neither
-- sent nor flushed.
use Rattle.std.specs.Prelude.{ℕ, Bool, true, false, ◌&&◌, ◌==◌, Option, Some, None, List, [], ◌∷◌}
use Rattle.std.specs.Prelude.{◌++◌, drop, map, count_by, nat_le, if◌then◌else◌}
use Rattle.rpc_base.specs.declared.event.Event.{Event}
use Rattle.rpc_base.specs.declared.event.Event.TheVariants.{Arrived, Heard, Took, Again, Dropped}
use Rattle.rpc_base.specs.declared.event.Event.TheVariants.{Posted, Sent, Flushed, Polled}
use Rattle.rpc_base.specs.declared.fact.Fact.{Fact}
use Rattle.rpc_base.specs.declared.owner.Owner.{Owner}
use Rattle.rpc_base.specs.declared.owner.Owner.TheVariants.{Reply}
use Rattle.rpc_laws.specs.declared.tables.Arrival.{Arrival}
use Rattle.rpc_laws.specs.declared.tables.Queued.{Queued}
use Rattle.rpc_laws.specs.Facts.{plain}
use Rattle.rpc_laws.specs.Front.{is_message, is_control}
use Rattle.rpc_base.specs.Owners.{same_owner}
use Rattle.rpc_base.specs.Tables.{without_first}

-- the message datagrams that arrived, less the front one at each Took, Again and Dropped
abbrev pub ring_after : Event → List ℕ → List Arrival → List Arrival
ring_after (Arrived peer) bytes ring =
    if is_message bytes then ring ++ record { peer = peer; bytes = bytes } ∷ [] else ring
ring_after (Took owner k) bytes ring = drop 1 ring
ring_after (Again owner k) bytes ring = drop 1 ring
ring_after (Dropped why) bytes ring = drop 1 ring
ring_after _ bytes ring = ring

-- the control datagrams that arrived, less the front one at each Heard
abbrev pub inbox_after : Event → List ℕ → List Arrival → List Arrival
inbox_after (Arrived peer) bytes inbox =
    if is_control bytes then inbox ++ record { peer = peer; bytes = bytes } ∷ [] else inbox
inbox_after Heard bytes inbox = drop 1 inbox
inbox_after _ bytes inbox = inbox

abbrev pub is_queued : Owner → ℕ → Queued → Bool
is_queued owner k q = same_owner q.owner owner && q.number == k

-- whether a packet that is queued stands before one that is posted: it is ready, or due no later
abbrev pub stands_before : Option ℕ → Option ℕ → Bool
stands_before None due = true
stands_before (Some d) None = false
stands_before (Some d) (Some due) = nat_le d due

-- put behind those
abbrev pub put_queued : Queued → List Queued → List Queued
put_queued q [] = q ∷ []
put_queued q (p ∷ ps) = if stands_before p.due q.due then p ∷ put_queued q ps else q ∷ p ∷ ps

-- whether a packet may be sent at this clock
abbrev pub is_due : (clock : ℕ) → Option ℕ → Bool
is_due clock None = true
is_due clock (Some d) = nat_le d clock

-- from the end of a poll at this clock on, what was due is ready
abbrev pub made_ready : (clock : ℕ) → Queued → Queued
made_ready clock q = if is_due clock q.due then record q { due = None } else q

-- what was Posted, with the time when it is due where it is paced, less what was Sent or Flushed. A
-- reply may stand in it twice: one is taken out
abbrev pub queued_after : Event → (due : Option ℕ) → List Queued → List Queued
queued_after (Posted owner k) due queued =
    put_queued (record { owner = owner; number = k; due = due }) queued
queued_after (Sent peer owner k) due queued = without_first (is_queued owner k) queued
queued_after (Flushed owner k) due queued = without_first (is_queued owner k) queued
queued_after (Polled now) due queued = map (made_ready now) queued
queued_after _ due queued = queued

abbrev pub is_reply : Owner → Bool
is_reply (Reply t r) = true
is_reply _ = false

-- how many replies are queued
abbrev pub replies : List Queued → ℕ
replies queued = count_by (λ q. is_reply q.owner) queued

-- a number put into an ascending list
abbrev pub put : ℕ → List ℕ → List ℕ
put n [] = n ∷ []
put n (m ∷ ms) = if nat_le n m then n ∷ m ∷ ms else m ∷ put n ms

-- the numbers of an owner's queued packets, ascending: the order in which they are flushed
abbrev pub numbers_of : Owner → List Queued → List ℕ
numbers_of owner [] = []
numbers_of owner (q ∷ qs) =
    if same_owner q.owner owner then put q.number (numbers_of owner qs) else numbers_of owner qs

-- an owner's queued packets are taken out unsent, in ascending number
abbrev pub flush_facts : ℕ → List Queued → Owner → List Fact
flush_facts me queued owner = map (λ k. plain me (Flushed owner k)) (numbers_of owner queued)
