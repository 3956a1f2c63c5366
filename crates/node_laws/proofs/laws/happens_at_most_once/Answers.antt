-- A run, a beginning and an end each take something that isn't there again.
use Rattle.node_laws.proofs.OnceLaws.{once}
use Rattle.node_laws.proofs.laws.happens_at_most_once.Goals as goal

pub returns : goal.returns
returns c = once
