-- What the end of a server session notes at a node.
use Rattle.std.specs.Prelude.{◌≡◌, ℕ, zero, suc, ◌++◌, Option, Some, None, List, [], ◌∷◌, slice_get}
use Rattle.rpc_base.specs.declared.event.Event.TheVariants.{Ended}
use Rattle.rpc_base.specs.declared.fact.Fact.{Fact}
use Rattle.rpc_laws.specs.declared.tables.Server.{Server}
use Rattle.rpc_laws.specs.declared.tables.Timed.{Timed}
use Rattle.rpc_laws.specs.ControlTable.{session_end}
use Rattle.rpc_laws.specs.Facts.{plain}
use Rattle.rpc_laws.specs.ServerTable.{flushes_older}
use Rattle.node_steps.specs.Handed.{Holding}

-- what stays where queued replies are taken out
pub record LeavesSessions (old new : Holding) : Type 0 where
  pub clients : new.lists.clients ≡ old.lists.clients
  pub servers : new.lists.servers ≡ old.lists.servers
  pub inbox : new.lists.inbox ≡ old.lists.inbox
  pub me : new.lists.me ≡ old.lists.me
  pub jobs : new.lists.jobs ≡ old.lists.jobs
  pub handed : new.handed ≡ old.handed

-- the queued replies to the newest request of a slot of the server session at place i are taken out
abbrev pub flushing_slot : (i slot : ℕ) → Timed → List Fact
flushing_slot i slot s =
    flushes_older s.lists.me s.lists.queued (slice_get s.lists.servers i) slot

-- those of its first n slots
abbrev pub flushing_slots : (i n : ℕ) → Timed → List Fact
flushing_slots i zero s = []
flushing_slots i (suc n) s = flushing_slots i n s ++ flushing_slot i n s

-- it ends
abbrev pub ended_facts : ℕ → Option Server → List Fact
ended_facts me None = []
ended_facts me (Some v) = plain me (Ended v.way.number) ∷ []

abbrev pub leaving : (i : ℕ) → Timed → List Fact
leaving i s = ended_facts s.lists.me (slice_get s.lists.servers i)

-- the replies of all slots are taken out, and then it ends
abbrev pub ending : (i : ℕ) → Timed → List Fact
ending i s = session_end s.lists.me s.lists.queued (slice_get s.lists.servers i)
