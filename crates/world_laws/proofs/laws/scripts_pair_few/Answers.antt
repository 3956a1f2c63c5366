-- The grammar bounds the credits of a pair.
use Rattle.world_laws.proofs.FewLemmas.{script-few}
use Rattle.world_laws.proofs.laws.scripts_pair_few.Goals as goal

pub returns : goal.returns
returns c = script-few
