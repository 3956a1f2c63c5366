-- the requests that are left are to be given up
use Rattle.std.proofs.Common.{◌≡◌, drop}
use Rattle.std.specs.List.{AllByRecursion}
use Rattle.server_core.specs.KeepsPool.{KeepsPool}
use Rattle.server_core.specs.Serving.{IsUnheld, all_given_up}
use Rattle.server_core.proofs.session.ServerSession.finish.Given as goal

abbrev pub invariant-loop-request : goal.invariant-loop-request
invariant-loop-request l = record {
  left : all_given_up (drop l.request-index l.request-items) l.pool ≡ all_given_up l.fn.self.slots l.fn.pool;
  keeps : KeepsPool l.pool (drop l.request-index l.request-items);
  unheld : AllByRecursion (IsUnheld l.pool) (drop l.request-index l.request-items);
}
