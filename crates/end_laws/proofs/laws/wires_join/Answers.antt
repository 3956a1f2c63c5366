use Rattle.end_laws.proofs.WireJoins.{wires-join}
use Rattle.end_laws.proofs.laws.wires_join.Goals as goal

pub returns : goal.returns
returns c = wires-join
