-- An endpoint's lists say nothing of its workers but which jobs they have.
use Rattle.std.proofs.Common.{List, subst, sym, ◌∙◌}
use Rattle.rpc_laws.specs.Service.{rules_of}
use Rattle.node_laws.specs.NodeRun.{LifeRun}
use Rattle.rpc_outside.specs.declared.service.Service as Service
use Rattle.worker_crew.specs.Jobs.{Job as CrewJob}
use Rattle.worker_crew.specs.declared.workers.Workers as Workers
use Rattle.node_steps.specs.Jobs.{Agree}
use Rattle.endpoint_loop.specs.Loans.{StandsOverLoans}
use Rattle.endpoint_loop.specs.Endpoints.{asks_of, told}

pub stands-over : {V W : Type 0} (service : Service.Ghosts V) (workers : Workers.Ghosts W)
    → StandsOverLoans service workers
stands-over service workers limits g e later same h = record {
  run = subst (λ (out : List CrewJob). LifeRun (rules_of service) e.timed.lists.me
      e.timed.lists.life limits g (told out e.timed))
      (sym same.out) h.run;
  serves = h.serves;
  staffed = record {
    agree = subst (λ (out : List CrewJob). Agree workers.answer (asks_of out) out e.timed)
        (sym same.out) h.staffed.agree;
    limit_is = same.limit ∙ h.staffed.limit_is;
    given_is = same.given ∙ h.staffed.given_is;
  };
}
