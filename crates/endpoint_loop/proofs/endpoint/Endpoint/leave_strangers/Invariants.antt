use Rattle.std.proofs.Common.{◌≡◌}
use Rattle.endpoint_loop.specs.Turns.{TellsAsBefore}
use Rattle.endpoint_loop.proofs.endpoint.Endpoint.leave_strangers.Given as goal

abbrev pub invariant-senders : goal.invariant-senders
invariant-senders g l =
    (l.self ≡ l.initial.self) × TellsAsBefore g.L.Link l.initial.link l.link
