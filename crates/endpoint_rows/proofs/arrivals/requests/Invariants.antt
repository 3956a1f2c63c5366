use Rattle.std.proofs.Common.{◌≡◌}
use Rattle.rpc_outside.specs.Linking.{AreCarried}
use Rattle.endpoint_rows.proofs.arrivals.requests.Given as goal

abbrev pub invariant-sessions : goal.invariant-sessions
invariant-sessions l = record {
  carried : AreCarried l.arrivals.items;
  quiet : l.memory ≡ l.fn.memory;
}
