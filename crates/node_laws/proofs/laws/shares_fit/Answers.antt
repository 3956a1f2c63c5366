-- A session is made only where the ring has room for its credits.
use Rattle.node_laws.proofs.RingLaws.{shares_fit}
use Rattle.node_laws.proofs.laws.shares_fit.Goals as goal

pub returns : goal.returns
returns c = shares_fit
