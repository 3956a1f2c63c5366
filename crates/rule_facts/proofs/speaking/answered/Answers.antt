use Rattle.std.proofs.Common.{ap}
use Rattle.std.specs.Prelude.{is_some}
use Rattle.rule_facts.proofs.SpeakingLemmas.{neither-row}
use Rattle.rule_facts.proofs.speaking.answered.Goals as goal

pub returns-clause-only : goal.returns-clause-only
returns-clause-only c = λ none.
    neither-row c.args.lists.now c.args.peer c.args.head.now c.control_row-row.result c.control_row-starved.result
    c.args.facts.now c.control_row-row.ensures c.control_row-starved.ensures
    (c.in_ok-count.ensures.only (ap is_some c.in_default.is)) (c.in_ok-count-2.ensures.only none)
