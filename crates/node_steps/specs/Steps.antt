-- A step of a node: what it notes, and what it leaves as it was.
use Rattle.std.specs.Prelude.{◌≡◌, ◌+◌, ◌*◌, ◌<◌, ◌≤◌, [], true, false, Bool, List, Result, length}
use Rattle.std.specs.Prelude.{IfOk, ℕ}
use Rattle.node_steps.specs.Handed.{GivesBackTo, Holding, timed_of}
use Rattle.session_store.specs.Sides.{Shown}
use Rattle.node_steps.specs.Changes.{◌⟶◌, Change}
use Rattle.std.specs.List.{list_any}
use Rattle.client_core.specs.declared.outcome.Done.{Done}
use Rattle.rpc_base.specs.declared.limits.TheConstants.{MOST_RING}
use Rattle.rpc_base.specs.declared.owner.Owner.{Owner}
use Rattle.rpc_laws.specs.declared.tables.Queued.{Queued}
use Rattle.rpc_laws.specs.Deliveries.{Delivers}
use Rattle.rpc_laws.specs.Pacing.{line}
use Rattle.rpc_laws.specs.PollOrder.{SendsSome}
use Rattle.session_ends.specs.Joined.{is_owned}
use Rattle.rpc_laws.specs.Steps.{Rel}
use Rattle.memory_count.specs.Faults.{HasCause, HasRisen}
use Rattle.rpc_outside.specs.Linking.{NoneComes}
use Rattle.rpc_outside.specs.Recording.{Log}
use Rattle.node_steps.specs.Ends.{LeavesSessions}
use Rattle.node_steps.specs.Control.{Listens}
use Rattle.node_steps.specs.Jobs.{MakesFinished, AllBackground}
use Rattle.node_steps.specs.Leaves.{LeavesPackets, LeavesServing, LeavesTimed}
use Rattle.rpc_outside.specs.declared.service.Mode.{Mode}
use Rattle.node_steps.specs.Requests.{AllServed}
use Rattle.node_steps.specs.Links.{HeldBack, MakesSpoken, left_one, troubles_of}
use Rattle.node_steps.specs.Notes.{Makes, MakesEnds, MakesSent}
use Rattle.node_steps.specs.Timers.{FlushesSome, MakesTimes}
use Rattle.node_steps.specs.declared.deliveries.Delivery.{Delivery}
use Rattle.node_steps.specs.declared.told.Listening.{Listening}
use Rattle.node_steps.specs.declared.told.Sending.{Sending}
use Rattle.node_steps.specs.declared.told.Asking.{Asking}
use Rattle.rpc_outside.specs.declared.link.Link as Link
use Rattle.worker_crew.specs.declared.workers.Workers as Workers

-- a step that posts or sends, or by which a client session goes on
pub record Steps {R : Type 0} (log : R → Log) (P : Rel) (node : Change Holding) (rec : Change R)
    : Type 0 where
  pub makes : Makes log P (timed_of node.old) (timed_of node.new) rec.old rec.new
  pub rest : LeavesServing node.old node.new

-- what a control packet does
pub record StepsControl {R : Type 0} (log : R → Log) (P : Rel) (node : Change Holding)
    (rec : Change R) : Type 0 where
  pub makes : Makes log P (timed_of node.old) (timed_of node.new) rec.old rec.new
  pub rest : LeavesPackets node.old node.new

-- queued replies are taken out
pub record StepsReplies {R : Type 0} (log : R → Log) (P : Rel) (node : Change Holding)
    (rec : Change R) : Type 0 where
  pub makes : Makes log P (timed_of node.old) (timed_of node.new) rec.old rec.new
  pub rest : LeavesSessions node.old node.new

-- a step by which calls may end
pub record StepsEnds {R K : Type 0} (log : R → Log) (given : K → List Done → Type 0) (P : Rel)
    (node : Change Holding) (rec : Change R) (k : Change K) : Type 0 where
  pub ended : MakesEnds log given P (timed_of node.old) (timed_of node.new) rec.old rec.new k.old
      k.new
  pub rest : LeavesTimed given node.old node.new k.old k.new

-- what the control packets of an inbox leave: the receive ring, that all requests are of types that
-- are served, the node's number, the jobs that are out, and what was handed in
pub record LeavesControl (old new : Holding) : Type 0 where
  pub ring : new.lists.ring ≡ old.lists.ring
  pub served : (mode : ℕ → Mode) → AllServed mode old.lists.servers
      → AllServed mode new.lists.servers
  pub me : new.lists.me ≡ old.lists.me
  pub jobs : new.lists.jobs ≡ old.lists.jobs
  pub handed : new.handed ≡ old.handed

-- what jobs leave that are finished: the client sessions, that all requests and jobs are of types
-- that are served and that workers answer, and what was handed in
pub record LeavesJobs (old new : Holding) : Type 0 where
  pub clients : new.lists.clients ≡ old.lists.clients
  pub served : (mode : ℕ → Mode) → AllServed mode old.lists.servers
      → AllServed mode new.lists.servers
  pub background : (mode : ℕ → Mode) → AllBackground mode old.lists.jobs.out
      → AllBackground mode new.lists.jobs.out
  pub handed : new.handed ≡ old.handed

-- no packet of the owner is queued
abbrev pub IsFlushed : Owner → List Queued → Type 0
IsFlushed owner queued = list_any (is_owned owner) queued ≡ false

-- a datagram comes in, and it is told what became of it
pub record StepsIn {R : Type 0} (log : R → Log) (peer : ℕ) (bytes : List ℕ)
    (is told : Delivery) (node : Change Holding) (rec : Change R) : Type 0 where
  pub makes : Makes log (Delivers peer bytes) (timed_of node.old) (timed_of node.new) rec.old
      rec.new
  pub rest : LeavesServing node.old node.new
  pub answered : told ≡ is

-- sessions are looked at, one after another: calls may end, and the link is handed their requests
pub record StepsTimes {R K L : Type 0} (log : R → Log) (given : K → List Done → Type 0)
    (net : Link.Ghosts L) (P : Rel) (told : Asking) (node : Change Holding) (rec : Change R)
    (k : Change K) (link : Change L) : Type 0 where
  pub timed : MakesTimes log given net P told (timed_of node.old ⟶ timed_of node.new) rec k link
  pub rest : LeavesTimed given node.old node.new k.old k.new
  pub lists : NoneComes net.waiting net.received link.old link.new

-- a session's own request is handed to the link, at most once
pub record StepsSpoken {R L : Type 0} (log : R → Log) (net : Link.Ghosts L) (P : Rel)
    (told : Asking) (node : Change Holding) (rec : Change R) (link : Change L) : Type 0 where
  pub spoken : MakesSpoken log net P told (timed_of node.old ⟶ timed_of node.new) rec link
  pub rest : LeavesServing node.old node.new
  pub lists : NoneComes net.waiting net.received link.old link.new
  pub few : told.sent ≤ 1

-- control packets of the inbox are handled, and their answers handed to the link
pub record StepsHeard {R L : Type 0} (log : R → Log) (net : Link.Ghosts L) (P : Rel)
    (told : Listening) (node : Change Holding) (rec : Change R) (link : Change L)
    (memory : Change ℕ) : Type 0 where
  pub listens : Listens log net P told (timed_of node.old ⟶ timed_of node.new) rec link memory
  pub rest : LeavesControl node.old node.new
  pub lists : NoneComes net.waiting net.received link.old link.new

-- what is ready or due is sent until none of it is left, or the link is busy or fails
pub record StepsSent {R L E : Type 0} (log : R → Log) (net : Link.Ghosts L)
    (told : Result Sending E) (node : Change Holding) (rec : Change R) (link : Change L)
    : Type 0 where
  pub sent : MakesSent log net.sent SendsSome (timed_of node.old) (timed_of node.new) rec.old
      rec.new
      link.old link.new
  pub all : IfOk told (λ s. s.busy ≡ false → (line node.new.clock node.new.lists.queued ≡ [])
      × (net.busies link.new ≡ net.busies link.old))
  pub busy : IfOk told (λ s. s.busy ≡ true → HasRisen (net.busies link.old) (net.busies link.new))
  pub count : IfOk told (λ s.
      s.sent + length node.new.lists.queued ≡ length node.old.lists.queued)
  pub few : IfOk told (λ s. s.sent ≤ 2 * MOST_RING)
  pub held : HeldBack (left_one (line node.new.clock node.new.lists.queued))
      (troubles_of net link.old) (troubles_of net link.new)
  pub rest : LeavesServing node.old node.new
  pub lists : NoneComes net.waiting net.received link.old link.new
  pub cause : HasCause (net.faults link.old) (net.faults link.new) told

-- jobs that came back are finished
pub record StepsJobs {R W : Type 0} (log : R → Log) (w : Workers.Ghosts W) (node : Change Holding)
    (rec : Change R) (crew : Change W) : Type 0 where
  pub makes : MakesFinished log w.answer (w.out crew.old ⟶ w.out crew.new)
      (w.worked crew.old ⟶ w.worked crew.new) (timed_of node.old ⟶ timed_of node.new) rec
  pub rest : LeavesJobs node.old node.new
  pub waiting : w.waiting crew.new ≡ w.waiting crew.old
  pub given : w.given crew.new ≡ w.given crew.old
  pub limit : w.limit crew.new ≡ w.limit crew.old
  pub looks : w.looks crew.old ≤ w.looks crew.new
  pub team : w.team crew.new ≡ w.team crew.old

-- the queued packet of least number of an owner is taken out, where there is one
pub record FlushesOne {R : Type 0} (log : R → Log) (owner : Owner) (found : Bool)
    (node : Change Holding) (rec : Change R) : Type 0 where
  pub makes : found ≡ true → Makes log (FlushesSome owner) (timed_of node.old) (timed_of node.new)
      rec.old rec.new
  pub fewer : found ≡ true → length node.new.lists.queued < length node.old.lists.queued
  pub none : found ≡ false → IsFlushed owner node.old.lists.queued
  pub unchanged : found ≡ false → node.new ≡ node.old
  pub silent : found ≡ false → rec.new ≡ rec.old

-- queued packets of a client session are taken out, and then the queue is idle in this way
pub record StepsFlushed {R : Type 0} (log : R → Log) (P : Rel)
    (Idle : List Queued → Type 0) (node : Change Holding) (rec : Change R) : Type 0 where
  pub makes : Makes log P (timed_of node.old) (timed_of node.new) rec.old rec.new
  pub idle : Idle node.new.lists.queued
  pub clients : node.new.lists.clients ≡ node.old.lists.clients
  pub rest : LeavesServing node.old node.new

-- what a session that loses its calls leaves of the store: what was handed in with them is given
-- back
pub record LeavesLost {K : Type 0} (given : K → List Done → Type 0) (store : Change Shown)
    (k : Change K) : Type 0 where
  pub servers : store.new.servers ≡ store.old.servers
  pub queued : store.new.queued ≡ store.old.queued
  pub size : store.new.size ≡ store.old.size
  pub places : store.new.places ≡ store.old.places
  pub handed : GivesBackTo given store.old.handed store.new.handed k.old k.new
