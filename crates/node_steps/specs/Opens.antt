-- A session is made, or refused.
use Rattle.std.specs.Prelude.{ℕ, None, [], ◌∷◌, Result, length, ◌++◌, IfErr, IfOk, OnErr, OnOk, ◌≡◌}
use Rattle.node_steps.specs.Changes.{Change}
use Rattle.node_steps.specs.Handed.{Holding, timed_of}
use Rattle.rpc_laws.specs.Groups.{client_refusal, server_refusal}
use Rattle.session_mgmt.specs.declared.answers.ConnectError.{ConnectError}
use Rattle.node_steps.specs.Pairs.{IfNoMemory, UnlessNoMemory}
use Rattle.rpc_laws.specs.Steps.{Rel}
use Rattle.rpc_outside.specs.Recording.{Log}
use Rattle.rpc_outside.specs.declared.service.Mode.{Mode}
use Rattle.node_steps.specs.Notes.{Makes}
use Rattle.node_steps.specs.Requests.{AllServed}
use Rattle.session_mgmt.specs.Refusals.{refused as refused_as}

-- a client session is made, with no calls, unless memory is wanting, and then nothing changed
pub record AddsClient {R T E : Type 0} (log : R → Log) (P : Rel) (told : Result T E)
    (node : Change Holding) (rec : Change R) : Type 0 where
  pub makes : OnOk told (Makes log P (timed_of node.old) (timed_of node.new) rec.old rec.new)
  pub jobs : node.new.lists.jobs ≡ node.old.lists.jobs
  pub servers : node.new.lists.servers ≡ node.old.lists.servers
  pub unchanged : OnErr told ((node.new ≡ node.old) × (rec.new ≡ rec.old))
  pub handed : OnOk told (node.new.handed ≡ node.old.handed ++ [] ∷ [])

-- a server session is made, unless memory is wanting, and then nothing changed
pub record AddsServer {R T E : Type 0} (log : R → Log) (P : Rel) (told : Result T E)
    (node : Change Holding) (rec : Change R) : Type 0 where
  pub makes : OnOk told (Makes log P (timed_of node.old) (timed_of node.new) rec.old rec.new)
  pub clients : node.new.lists.clients ≡ node.old.lists.clients
  pub jobs : node.new.lists.jobs ≡ node.old.lists.jobs
  pub served : (mode : ℕ → Mode) → AllServed mode node.old.lists.servers
      → AllServed mode node.new.lists.servers
  pub unchanged : OnErr told ((node.new ≡ node.old) × (rec.new ≡ rec.old))
  pub handed : node.new.handed ≡ node.old.handed

-- the next client session is made, with these credits, exactly where nothing refuses it and memory
-- isn't wanting; what is noted is that, or the refusal, and want of memory is noted nowhere
pub record MakesClient {R : Type 0} (log : R → Log) (credits : ℕ) (P : Rel)
    (told : Result ℕ ConnectError) (node : Change Holding) (rec : Change R) : Type 0 where
  pub number : IfOk told (λ s. s ≡ length node.old.lists.clients)
  pub makes : UnlessNoMemory told
      (Makes log P (timed_of node.old) (timed_of node.new) rec.old rec.new)
  pub accepted : OnOk told (client_refusal credits node.old.lists ≡ None)
  pub refused : IfErr told (λ why. refused_as why ≡ client_refusal credits node.old.lists)
  pub jobs : node.new.lists.jobs ≡ node.old.lists.jobs
  pub servers : node.new.lists.servers ≡ node.old.lists.servers
  pub handed : OnOk told (node.new.handed ≡ node.old.handed ++ [] ∷ [])
  pub unchanged : OnErr told (node.new ≡ node.old)
  pub wanting : IfNoMemory told (rec.new ≡ rec.old)

-- the next server session is, in the same way
pub record MakesServer {R : Type 0} (log : R → Log) (credits : ℕ) (P : Rel)
    (told : Result ℕ ConnectError) (node : Change Holding) (rec : Change R) : Type 0 where
  pub number : IfOk told (λ t. t ≡ node.old.lists.server_numbers)
  pub makes : UnlessNoMemory told
      (Makes log P (timed_of node.old) (timed_of node.new) rec.old rec.new)
  pub accepted : OnOk told (server_refusal credits node.old.lists ≡ None)
  pub refused : IfErr told (λ why. refused_as why ≡ server_refusal credits node.old.lists)
  pub clients : node.new.lists.clients ≡ node.old.lists.clients
  pub jobs : node.new.lists.jobs ≡ node.old.lists.jobs
  pub served : (mode : ℕ → Mode) → AllServed mode node.old.lists.servers
      → AllServed mode node.new.lists.servers
  pub handed : node.new.handed ≡ node.old.handed
  pub unchanged : OnErr told (node.new ≡ node.old)
  pub wanting : IfNoMemory told (rec.new ≡ rec.old)
