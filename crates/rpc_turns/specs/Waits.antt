-- Waiting for a call that is over.
use Rattle.std.specs.Prelude.{◌≡◌, List, ◌∷◌, map}
use Rattle.std.specs.List.{filter}
use Rattle.client_core.specs.Shown.{done_fact}
use Rattle.client_core.specs.declared.outcome.Done.{Done}
use Rattle.endpoint_loop.specs.Endpoints.{Running}
use Rattle.node_steps.specs.Given.{Gave}
use Rattle.node_steps.specs.Notes.{is_end}
use Rattle.rpc_base.specs.declared.fact.Fact.{Fact}
use Rattle.rpc_base.specs.declared.limits.Limits.{Limits}
use Rattle.rpc_outside.specs.Recording.{Log}
use Rattle.rpc_outside.specs.declared.service.Service as Service
use Rattle.rpc_turns.specs.Queue.{KeepsAll}
use Rattle.rpc_turns.specs.Turns.{GoesOnBy, Stands}
use Rattle.rpc_turns.specs.declared.ended.Ended.{Ended}
use Rattle.worker_crew.specs.declared.workers.Workers as Workers

-- the recorder grew by facts, by which an endpoint goes on, and the calls whose ends were noted
-- came behind those in the queue, in order
pub record Gathers {V W R : Type 0} (log : R → Log) (service : Service.Ghosts V)
    (workers : Workers.Ghosts W) (old new : Running V W) (before now : R) (from to : Ended)
    : Type 0 where
  pub goes : GoesOnBy log service workers old new before now
  pub ends : (limits : Limits) → (past : List Fact) → Stands service workers limits past old
      → (dones : List Done) × (filter is_end goes.noted ≡ map (done_fact 0) dones)
      × Gave KeepsAll from to dones

-- and then the first of the queue was taken out
pub record GivesFirst {V W R : Type 0} (log : R → Log) (service : Service.Ghosts V)
    (workers : Workers.Ghosts W) (old new : Running V W) (before now : R) (from to : Ended)
    (done : Done) : Type 0 where
  pub queue : Ended
  pub gathers : Gathers log service workers old new before now from queue
  pub first : queue.dones.items ≡ done ∷ to.dones.items
  pub whole : to.memory ≡ queue.memory
