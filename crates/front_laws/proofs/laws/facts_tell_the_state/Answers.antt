use Rattle.front_laws.proofs.ToldLemmas.{run-told}
use Rattle.front_laws.proofs.laws.facts_tell_the_state.Goals as goal

pub returns : goal.returns
returns c = run-told
