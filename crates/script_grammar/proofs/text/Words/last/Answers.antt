use Rattle.std.proofs.Common.{◌∙◌, sym, ap}
use Rattle.script_grammar.specs.Rest.{words_left}
use Rattle.script_grammar.specs.Words.{last_word}
use Rattle.script_grammar.proofs.WordLemmas.{last_of_none}
use Rattle.script_grammar.proofs.text.Words.last.Goals as goal

pub returns-in-None-clause-err : goal.returns-in-None-clause-err
returns-in-None-clause-err c =
    ap (λ words. last_word c.args.key.now words) (sym c.self.view_is ∙ ap words_left c.in-None.is)
    ∙ last_of_none _
