-- Each fact of a run is allowed, and what is allowed keeps them.
use Rattle.node_laws.proofs.KeptLemmas.{lists-kept}
use Rattle.node_laws.proofs.laws.lists_are_kept.Goals as goal

pub returns : goal.returns
returns c = lists-kept
