use Rattle.turn_laws.proofs.SystemLemmas.{systems-run}
use Rattle.turn_laws.proofs.laws.systems_run_over_wires.Goals as goal

pub returns : goal.returns
returns c = systems-run
