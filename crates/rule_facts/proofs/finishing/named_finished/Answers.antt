use Rattle.std.proofs.Common.{drop, sym}
use Rattle.rule_facts.proofs.FinishLemmas.{finish-unknown, finished-by, parted-at}
use Rattle.rule_facts.proofs.finishing.named_finished.Goals as goal

pub returns-in_default-clause-only : goal.returns-in_default-clause-only
returns-in_default-clause-only c = λ none.
    finish-unknown c.args.lists.now c.args.fact.now (drop 1 c.args.facts.now) c.args.facts.now
    (parted-at c.args.facts.now c.args.fact.now c.requires.first) (sym c.in_default.ensures)

pub returns-clause-some : goal.returns-clause-some
returns-clause-some c =
    (finished-by c.args.lists.now c.args.fact.now c.in-Some.place c.at.result.now c.args.facts.now c.finished.result
    c.requires.first (sym c.in-Some.ensures) c.at.ensures c.requires.room c.finished.ensures).some

pub returns-clause-only : goal.returns-clause-only
returns-clause-only c =
    (finished-by c.args.lists.now c.args.fact.now c.in-Some.place c.at.result.now c.args.facts.now c.finished.result
    c.requires.first (sym c.in-Some.ensures) c.at.ensures c.requires.room c.finished.ensures).only
