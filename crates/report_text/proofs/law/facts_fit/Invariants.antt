use Rattle.std.proofs.Common.{take}
use Rattle.std.specs.List.{AllByRecursion}
use Rattle.report_text.specs.Ranges.{FactFits}
use Rattle.report_text.proofs.law.facts_fit.Given as goal

abbrev pub invariant-loop-fact : goal.invariant-loop-fact
invariant-loop-fact l = AllByRecursion FactFits (take l.fact-index l.facts)
