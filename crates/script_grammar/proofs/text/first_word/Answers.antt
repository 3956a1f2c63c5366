use Rattle.std.proofs.Common.{rules, tests}
use Rattle.script_grammar.proofs.WordLemmas.{next_whole, next_nothing, next_cut, next_blank}
use Rattle.script_grammar.proofs.text.first_word.Goals as goal

pub returns-in-None-clause-err : goal.returns-in-None-clause-err
returns-in-None-clause-err c = next_nothing _ (cc) (search (rules, tests))

pub returns-in-None-2-clause-ok : goal.returns-in-None-2-clause-ok
returns-in-None-2-clause-ok c = next_whole _ (cc) (search (rules, tests))

pub returns-in-Some-eq0-clause-err : goal.returns-in-Some-eq0-clause-err
returns-in-Some-eq0-clause-err c = next_blank _ (cc)

pub returns-in-Some-clause-ok : goal.returns-in-Some-clause-ok
returns-in-Some-clause-ok c = next_cut _ _ (cc) (search (rules, tests))
