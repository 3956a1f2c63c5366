-- What a call of an application does with an endpoint.
use Rattle.std.specs.Prelude.{◌≡◌, ◌<◌, ◌++◌, ℕ, None, [], ◌∷◌, Result, length, IfErr, IfOk, IsSome}
use Rattle.std.specs.Prelude.{OnErr, OnOk}
use Rattle.node_steps.specs.Changes.{Change}
use Rattle.node_steps.specs.Notes.{Makes}
use Rattle.node_steps.specs.Pairs.{IfNoMemory, UnlessNoMemory}
use Rattle.memory_count.specs.Faults.{HasRisenBy}
use Rattle.rpc_laws.specs.Groups.{client_refusal, server_refusal}
use Rattle.rpc_laws.specs.Steps.{Rel}
use Rattle.rpc_outside.specs.Recording.{Log}
use Rattle.rpc_outside.specs.declared.service.Service as Service
use Rattle.session_mgmt.specs.Refusals.{lacks, refused as refused_as}
use Rattle.session_mgmt.specs.declared.answers.ConnectError.{ConnectError}
use Rattle.worker_crew.specs.declared.workers.Workers as Workers
use Rattle.endpoint_loop.specs.Endpoints.{Leaves, Running}
use Rattle.endpoint_loop.specs.Stands.{GoesOn}

-- a call that is always noted, and takes nothing in and gives nothing back
pub record Calls {R V W : Type 0} (log : R → Log) (service : Service.Ghosts V)
    (workers : Workers.Ghosts W) (P : Rel) (e : Change (Running V W)) (rec : Change R)
    : Type 0 where
  pub makes : Makes log P e.old.timed e.new.timed rec.old rec.new
  pub leaves : Leaves e.old e.new
  pub goes_on : GoesOn log service workers e.old e.new rec.old rec.new
  pub handed : e.new.handed ≡ e.old.handed

-- the next client session is made, with these credits, exactly where nothing refuses it and memory
-- isn't wanting; what is noted is that, or the refusal, and want of memory is noted nowhere, and
-- has its cause. It never comes before as many client sessions were made as the ring is long
pub record OpensClient {R V W : Type 0} (log : R → Log) (service : Service.Ghosts V)
    (workers : Workers.Ghosts W) (credits : ℕ) (P : Rel) (told : Result ℕ ConnectError)
    (e : Change (Running V W)) (rec : Change R) (memory : Change ℕ) : Type 0 where
  pub number : IfOk told (λ s. s ≡ length e.old.timed.lists.clients)
  pub makes : UnlessNoMemory told (Makes log P e.old.timed e.new.timed rec.old rec.new)
  pub accepted : OnOk told (client_refusal credits e.old.timed.lists ≡ None)
  pub refused : IfErr told (λ why. refused_as why ≡ client_refusal credits e.old.timed.lists)
  pub leaves : Leaves e.old e.new
  pub goes_on : GoesOn log service workers e.old e.new rec.old rec.new
  pub unchanged : OnErr told (e.new ≡ e.old)
  pub wanting : IfNoMemory told (rec.new ≡ rec.old)
  pub handed : OnOk told (e.new.handed ≡ e.old.handed ++ [] ∷ [])
  pub never_memory : length e.old.timed.lists.clients < e.old.timed.lists.room
      → IfErr told (λ why. IsSome (refused_as why))
  pub cause : HasRisenBy (lacks told) memory.old memory.new

-- the next server session is, in the same way
pub record OpensServer {R V W : Type 0} (log : R → Log) (service : Service.Ghosts V)
    (workers : Workers.Ghosts W) (credits : ℕ) (P : Rel) (told : Result ℕ ConnectError)
    (e : Change (Running V W)) (rec : Change R) (memory : Change ℕ) : Type 0 where
  pub number : IfOk told (λ t. t ≡ e.old.timed.lists.server_numbers)
  pub makes : UnlessNoMemory told (Makes log P e.old.timed e.new.timed rec.old rec.new)
  pub accepted : OnOk told (server_refusal credits e.old.timed.lists ≡ None)
  pub refused : IfErr told (λ why. refused_as why ≡ server_refusal credits e.old.timed.lists)
  pub leaves : Leaves e.old e.new
  pub goes_on : GoesOn log service workers e.old e.new rec.old rec.new
  pub unchanged : OnErr told (e.new ≡ e.old)
  pub wanting : IfNoMemory told (rec.new ≡ rec.old)
  pub handed : e.new.handed ≡ e.old.handed
  pub cause : HasRisenBy (lacks told) memory.old memory.new
