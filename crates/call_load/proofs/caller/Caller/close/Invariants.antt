use Rattle.std.proofs.Common.{◌≡◌}
use Rattle.call_load.proofs.caller.Caller.close.Given as goal

abbrev pub invariant-sessions : goal.invariant-sessions
invariant-sessions l =
    (l.self.aim ≡ l.initial.self.aim) × (l.self.counts ≡ l.initial.self.counts)
