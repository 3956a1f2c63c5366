use Rattle.std.proofs.Common.{◌≡◌}
use Rattle.call_load.specs.Callers.{AsksMore}
use Rattle.call_load.proofs.caller.Caller.ask_all.Given as goal

abbrev pub invariant-calls : goal.invariant-calls
invariant-calls l =
    (l.self.aim ≡ l.initial.self.aim) × AsksMore l._call l.initial.self.counts l.self.counts
