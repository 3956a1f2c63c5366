-- Each node's facts are those of a run.
use Rattle.world_laws.proofs.NodeLaws.{sends-own}
use Rattle.world_laws.proofs.laws.sends_its_own.Goals as goal

pub returns : goal.returns
returns c = sends-own
