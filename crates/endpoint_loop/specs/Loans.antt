-- What the loan of an endpoint's workers keeps.
use Rattle.std.specs.Prelude.{◌≡◌, List}
use Rattle.rpc_base.specs.declared.fact.Fact.{Fact}
use Rattle.rpc_base.specs.declared.limits.Limits.{Limits}
use Rattle.rpc_outside.specs.declared.service.Service as Service
use Rattle.worker_crew.specs.declared.workers.Workers as Workers
use Rattle.endpoint_loop.specs.Endpoints.{Running}
use Rattle.endpoint_loop.specs.Stands.{StandsFor}

-- workers take as many jobs as before, were given as many, and have the same out
pub record KeepsJobs {W : Type 0} (workers : Workers.Ghosts W) (before later : W) : Type 0 where
  pub limit : workers.limit later ≡ workers.limit before
  pub given : workers.given later ≡ workers.given before
  pub out : workers.out later ≡ workers.out before

-- an endpoint stands for the same facts with workers that have the same jobs
abbrev pub StandsOverLoans : {V W : Type 0} → Service.Ghosts V → Workers.Ghosts W → Type 0
StandsOverLoans {V} {W} service workers =
    (limits : Limits) (g : List Fact) (e : Running V W) (later : W)
    → KeepsJobs workers e.workers later → StandsFor service workers limits g e
    → StandsFor service workers limits g (record e { workers = later })
