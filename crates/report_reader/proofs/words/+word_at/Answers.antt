use Rattle.std.proofs.Common.{rules, tests, ◌∙◌}
use Rattle.report_reader.proofs.WordLemmas.{first-whole, later-whole, first-cut, later-cut}
use Rattle.report_reader.proofs.words.+word_at.Goals as goal

pub returns-then-i-eq0 : goal.returns-then-i-eq0
returns-then-i-eq0 t c = first-whole _ _ (cc) (search (rules, tests))

pub returns-else-i-eq0 : goal.returns-else-i-eq0
returns-else-i-eq0 t c = later-whole _ _ (cc) (search (rules, tests))

pub returns-then-i-eq0-2 : goal.returns-then-i-eq0-2
returns-then-i-eq0-2 t c = first-cut _ _ _ (cc) (search (rules, tests))

pub returns-else-i-eq0-2 : goal.returns-else-i-eq0-2
returns-else-i-eq0-2 t c = c.word_at.ensures ∙ later-cut _ _ _ (cc) (search (rules, tests))
