use Rattle.end_laws.proofs.ScriptLemmas.{script-two}
use Rattle.end_laws.proofs.laws.scripts_pair_two_nodes.Goals as goal

pub returns : goal.returns
returns c = script-two
