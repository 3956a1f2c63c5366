use Rattle.std.proofs.Common.{◌∙◌, sym, ap}
use Rattle.script_grammar.specs.Rest.{words_left}
use Rattle.script_grammar.specs.Words.{next_word}
use Rattle.script_grammar.proofs.WordLemmas.{next_of_none}
use Rattle.script_grammar.proofs.text.Words.next.Goals as goal

pub returns-in-None-clause-err : goal.returns-in-None-clause-err
returns-in-None-clause-err c =
    ap (λ words. next_word words) (sym c.self.view_is ∙ ap words_left c.in-None.is) ∙ next_of_none
