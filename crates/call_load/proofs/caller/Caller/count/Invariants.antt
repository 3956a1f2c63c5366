use Rattle.std.proofs.Common.{◌≡◌}
use Rattle.call_load.specs.Callers.{EndsSome}
use Rattle.call_load.proofs.caller.Caller.count.Given as goal

abbrev pub invariant-calls : goal.invariant-calls
invariant-calls l =
    (l.self.aim ≡ l.initial.self.aim) × EndsSome l._call l.initial.self.counts l.self.counts
