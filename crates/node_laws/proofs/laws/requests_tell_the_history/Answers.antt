-- Each fact keeps what is told of the requests that stand, and of those that stood before.
use Rattle.node_laws.proofs.RequestTableLaws.{requests_tell}
use Rattle.node_laws.proofs.laws.requests_tell_the_history.Goals as goal

pub returns : goal.returns
returns c = requests_tell
