use Rattle.std.proofs.Common.{List, sym, ap, arith}
use Rattle.std.specs.Prelude.{sum_by}
use Rattle.worker_crew.specs.Jobs.{Job as CrewJob}
use Rattle.rpc_laws.specs.Steps.{none}
use Rattle.endpoint_loop.proofs.endpoint.Endpoint.new.Goals as goal

pub returns-clause-stands : goal.returns-clause-stands
returns-clause-stands g c =
    rw (c.in-Ok.ensures.made) (record {
      run = record { steps = none; worked_once = λ t r. omega arith; answers = tt };
      serves = c.requires.service;
      staffed = record {
        agree = record {
          same = λ count. ap (λ (out : List CrewJob). sum_by count out) (sym c.requires.workers.2);
          ready = tt;
        };
        limit_is = c.requires.workers.0;
        given_is = c.requires.workers.1;
      };
    })
