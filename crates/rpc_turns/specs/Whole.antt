-- A run that owns all that it is made of.
use Rattle.std.specs.Prelude.{ℕ}
use Rattle.std.specs.List.{find}
use Rattle.endpoint_loop.specs.Endpoints.{Running}
use Rattle.endpoint_loop.specs.Stands.{GoesOn}
use Rattle.rpc_base.specs.declared.state.SessionState.{SessionState}
use Rattle.rpc_laws.specs.Groups.{state_of}
use Rattle.rpc_laws.specs.Sessions.{is_client}
use Rattle.rpc_outside.specs.Recording.{Log}
use Rattle.rpc_outside.specs.declared.service.Service as Service
use Rattle.rpc_turns.specs.Moments.{Edges, Moment, Rested, rested}
use Rattle.rpc_turns.specs.declared.ended.Ended.{Ended}
use Rattle.rpc_turns.specs.declared.rest.Rest.{Rest}
use Rattle.worker_crew.specs.declared.workers.Workers as Workers

-- its endpoint, what it does where nothing comes, what is around the endpoint, the calls that are
-- over and weren't taken out yet, and how often memory was refused to it
pub record Whole (V W L C R : Type 0) : Type 0 where
  pub endpoint : Running V W
  pub rest : Rest
  pub edges : Edges L C R
  pub ended : Ended
  pub refused : ℕ

-- where it stands
abbrev pub rested_in : {V W L C R : Type 0} → Whole V W L C R → Moment (Rested V W) L C R
rested_in w = record { run = rested w.endpoint w.rest; edges = w.edges }

abbrev pub endpoint_in : {V W L C R : Type 0} → Whole V W L C R → Moment (Running V W) L C R
endpoint_in w = record { run = w.endpoint; edges = w.edges }

-- the state of a client session
abbrev pub state_in : {V W L C R : Type 0} → Whole V W L C R → ℕ → SessionState
state_in w session = state_of (find (is_client session) w.endpoint.timed.lists.clients)

-- the recorder grew by facts, and for whatever the endpoint stood, it stands for that and these
-- facts after it
abbrev pub Goes : {V W L C R : Type 0} → Service.Ghosts V → Workers.Ghosts W → (R → Log)
    → (old new : Whole V W L C R) → Type 0
Goes service workers log old new =
    GoesOn log service workers old.endpoint new.endpoint old.edges.rec new.edges.rec
