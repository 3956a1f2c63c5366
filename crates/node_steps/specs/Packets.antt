-- What a node does with the packets of its receive ring.
use Rattle.std.specs.Prelude.{◌≡◌, ℕ, Option, Some, option_map, List, [], ◌∷◌, ◌++◌, map}
use Rattle.std.specs.List.{AllByRecursion, filter}
use Rattle.client_core.specs.Shown.{done_fact}
use Rattle.client_core.specs.declared.outcome.Done.{Done}
use Rattle.rpc_base.specs.declared.fact.Fact.{Fact}
use Rattle.rpc_laws.specs.declared.tables.Jobs.{Jobs}
use Rattle.rpc_laws.specs.declared.tables.Timed.{Timed}
use Rattle.rpc_laws.specs.Service.{Serving}
use Rattle.rpc_laws.specs.Steps.{Rel}
use Rattle.rpc_outside.specs.Recording.{Grew, Log}
use Rattle.rpc_outside.specs.Served.{Served}
use Rattle.rpc_outside.specs.declared.service.Mode.TheVariants.{Background}
use Rattle.worker_board.specs.declared.Parcel.{Parcel}
use Rattle.memory_count.specs.Faults.{HasRisenBy}
use Rattle.node_steps.specs.Changes.{Change}
use Rattle.node_steps.specs.Given.{Gave}
use Rattle.node_steps.specs.Jobs.{AreStaffed, Staff, StaffChange}
use Rattle.node_steps.specs.Lacks.{lacks_in}
use Rattle.node_steps.specs.Notes.{is_end}
use Rattle.node_steps.specs.Seen.{Asks, asking}
use Rattle.node_steps.specs.Requests.{RunsHandlers, ServiceChange, SparesShort, ring_left}
use Rattle.node_steps.specs.Requests.{with_given}

-- an endpoint's workers answer background requests as its service does
abbrev pub WorksFor : (ℕ → List ℕ → List ℕ) → Serving → Type 0
WorksFor answer v =
    (served : Served) → (req_type : ℕ) → (ask : List ℕ) → v.mode req_type ≡ Background
    → v.answer served req_type ask ≡ answer req_type ask

-- the jobs of these parcels are given, one after another
abbrev pub with_all_given : List Parcel → Jobs → Jobs
with_all_given [] jobs = jobs
with_all_given (p ∷ ps) jobs = with_all_given ps (with_given (Some p) jobs)

-- the packets in the receive ring were handled: those that asked for a worker's answer became jobs,
-- which the workers took, as long as they had exactly the jobs of the node
pub record HandlesWith (P : Rel) (answer : ℕ → List ℕ → List ℕ) (gave : List Parcel)
    (before now : Staff) (asks : Asks) (s : Timed) (x : List Fact) (t : Timed) : Type 0 where
  pub then_asks : Asks
  pub staffed : AreStaffed answer then_asks now t
  pub waits : now.waiting ≡ option_map (λ ps. ps ++ gave) before.waiting
  pub handles : P (asking asks s) x (asking then_asks t)

-- however the jobs of the node ask. Each handler that ran has its answer, and the calls that the
-- continuation was given are those whose ends were noted, in order
pub record MakesAllHandled {R K : Type 0} (log : R → Log) (given : K → List Done → Type 0)
    (service : ServiceChange) (staff : StaffChange) (P : Rel) (node : Change Timed)
    (rec : Change R) (k : Change K) (memory : Change ℕ) : Type 0 where
  pub noted : List Fact
  pub grew : Grew (log rec.old) (log rec.new) noted
  pub answers : RunsHandlers service noted
  pub gave : List Parcel
  pub background : AllByRecursion (λ p. service.rules.mode p.req_type ≡ Background) gave
  pub jobs : node.new.lists.jobs ≡ with_all_given gave node.old.lists.jobs
  pub step : (asks : Asks) → AreStaffed staff.answer asks staff.old node.old
      → HandlesWith P staff.answer gave staff.old staff.new asks node.old noted node.new
  pub dones : List Done
  pub ends : filter is_end noted ≡ map (done_fact node.old.lists.me) dones
  pub told : Gave given k.old k.new dones
  -- no short request is dropped for want of memory
  pub left : node.new.lists.ring ≡ ring_left node.old.lists.ring noted
  pub spared : SparesShort service.rules node.old.lists.ring noted
  -- and each that is dropped for want of memory has a refusal
  pub wants : HasRisenBy (lacks_in noted) memory.old memory.new
