use Rattle.world_laws.proofs.JointScripts.{follows-jointly}
use Rattle.world_laws.proofs.laws.follows_jointly.Goals as goal

pub returns : goal.returns
returns c = follows-jointly
