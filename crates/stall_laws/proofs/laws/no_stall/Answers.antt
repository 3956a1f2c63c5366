use Rattle.stall_laws.proofs.StallLaw.{no-stall}
use Rattle.stall_laws.proofs.laws.no_stall.Goals as goal

pub returns : goal.returns
returns c = no-stall
