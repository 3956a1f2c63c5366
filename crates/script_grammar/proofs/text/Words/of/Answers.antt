use Rattle.script_grammar.proofs.WordLemmas.{words_whole, words_cut}
use Rattle.script_grammar.proofs.text.Words.of.Goals as goal

pub returns-in-None : goal.returns-in-None
returns-in-None c = words_whole _ (cc)

pub returns-in-Some : goal.returns-in-Some
returns-in-Some c = words_cut _ _ (cc)
