use Rattle.std.proofs.Common.{rules, tests, sym, ◌∙◌}
use Rattle.script_grammar.proofs.WordLemmas.{last_cut, last_fits, last_misfits, last_empty}
use Rattle.script_grammar.proofs.text.only_word.Goals as goal

pub returns-then-is_empty-clause-err : goal.returns-then-is_empty-clause-err
returns-then-is_empty-clause-err c = last_empty _ _ (search (rules, tests))

pub returns-in-Some-clause-err : goal.returns-in-Some-clause-err
returns-in-Some-clause-err c = last_cut _ _ _ (sym c.position_of.ensures.position ∙ c.in-Some.is)

pub returns-in-None-clause-ok : goal.returns-in-None-clause-ok
returns-in-None-clause-ok c = last_fits _ _ (cc) (search (rules, tests)) (cc)

pub returns-in-None-2-clause-err : goal.returns-in-None-2-clause-err
returns-in-None-2-clause-err c = last_misfits _ _ (cc) (cc)
