use Rattle.std.proofs.Common.{rules, tests}
use Rattle.script_grammar.proofs.LineLemmas.{no_lines, first_line, last_line}
use Rattle.script_grammar.proofs.text.next_line.Goals as goal

pub returns-then-is_empty-clause-none : goal.returns-then-is_empty-clause-none
returns-then-is_empty-clause-none c = no_lines _ (search (rules, tests))

pub returns-in-Some-clause-line : goal.returns-in-Some-clause-line
returns-in-Some-clause-line c = first_line _ _ (cc)

pub returns-in-None-clause-line : goal.returns-in-None-clause-line
returns-in-None-clause-line c = last_line _ (cc) (search (rules, tests))
