-- Each command adds to each node that it names one group of facts.
use Rattle.world_laws.proofs.NodeLaws.{runs}
use Rattle.world_laws.proofs.laws.follows_runs.Goals as goal

pub returns : goal.returns
returns c = runs
