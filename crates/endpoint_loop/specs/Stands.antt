-- The facts for which an endpoint stands.
use Rattle.std.specs.Prelude.{List, [], ◌++◌}
use Rattle.node_laws.specs.NodeRun.{LifeRun}
use Rattle.rpc_base.specs.declared.fact.Fact.{Fact}
use Rattle.rpc_base.specs.declared.limits.Limits.{Limits}
use Rattle.rpc_laws.specs.Service.{rules_of, served_after_all}
use Rattle.rpc_outside.specs.Recording.{Grew, Log}
use Rattle.rpc_outside.specs.declared.service.Service as Service
use Rattle.worker_crew.specs.declared.workers.Workers as Workers
use Rattle.node_steps.specs.Jobs.{staff_of}
use Rattle.endpoint_loop.specs.Endpoints.{IsStaffed, Running, told}

-- g is what the endpoint noted since it was made with these limits: g is a run of its node in its
-- life, which leaves it as it is; its service stands for what ran in the event loop; and its
-- workers have exactly its jobs
pub record StandsFor {V W : Type 0} (service : Service.Ghosts V) (workers : Workers.Ghosts W)
    (limits : Limits) (g : List Fact) (e : Running V W) : Type 0 where
  pub run : LifeRun (rules_of service) e.timed.lists.me e.timed.lists.life limits g
      (told (workers.out e.workers) e.timed)
  pub serves : service.stands e.service (served_after_all service.mode_of [] g)
  pub staffed : IsStaffed workers.answer (staff_of workers e.workers) e.timed

-- the recorder grew by some facts, and for whatever the endpoint stood, it stands for that and
-- these facts after it
pub record GoesOn {R V W : Type 0} (log : R → Log) (service : Service.Ghosts V)
    (workers : Workers.Ghosts W) (old new : Running V W) (before now : R) : Type 0 where
  pub noted : List Fact
  pub grew : Grew (log before) (log now) noted
  pub goes_on : (limits : Limits) → (g : List Fact) → StandsFor service workers limits g old
      → StandsFor service workers limits (g ++ noted) new
