-- What an endpoint ends as, once the loan of its workers has ended.
use Rattle.std.specs.Borrow.{Fml, RattleType, MutBor, Lends}
use Rattle.rpc_outside.specs.declared.service.Service as Service
use Rattle.worker_crew.specs.declared.workers.Workers as Workers
use Rattle.endpoint_loop.specs.contracts.endpoint.Endpoint.{the_row}
use Rattle.endpoint_loop.specs.Endpoints.{Running}

module _ (V W : RattleType) (v : Service.Ghosts V.Denot) (w : Workers.Ghosts W.Denot)
    (s : MutBor (Running V.Denot W.Denot)) where
  -- its workers are what was written last through r
  abbrev pub lends_workers : MutBor W.Denot → Fml
  lends_workers r = Lends (the_row V W v w) W s r (λ x. record s.now { workers = x })
