-- By what contracts see an endpoint and what it works with.
use Rattle.std.specs.Prelude.{List}
use Rattle.client_core.specs.declared.outcome.Done.{Done}
use Rattle.rpc_outside.specs.Recording.{Log}
use Rattle.rpc_outside.specs.declared.service.Service as Service
use Rattle.worker_crew.specs.declared.workers.Workers as Workers

-- what a recorder noted, which calls a continuation was given, and what a service and workers are
-- seen by
pub record Bounds (R K V W : Type 0) : Type 1 where
  pub log : R → Log
  pub given : K → List Done → Type 0
  pub service : Service.Ghosts V
  pub workers : Workers.Ghosts W

abbrev pub bounds : {R K V W : Type 0} → (R → Log) → (K → List Done → Type 0) → Service.Ghosts V
    → Workers.Ghosts W → Bounds R K V W
bounds log given service workers =
    record { log = log; given = given; service = service; workers = workers }
