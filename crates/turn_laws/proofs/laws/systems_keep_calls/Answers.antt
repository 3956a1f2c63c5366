use Rattle.turn_laws.proofs.SystemLemmas.{systems-keep, wires-keep}
use Rattle.turn_laws.proofs.laws.systems_keep_calls.Goals as goal

pub returns-clause-systems : goal.returns-clause-systems
returns-clause-systems c = systems-keep

pub returns-clause-wires : goal.returns-clause-wires
returns-clause-wires c = wires-keep
