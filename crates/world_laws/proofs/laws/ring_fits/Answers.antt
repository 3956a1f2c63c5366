-- Each node's facts are those of a run.
use Rattle.world_laws.proofs.NodeLaws.{ring-fits}
use Rattle.world_laws.proofs.laws.ring_fits.Goals as goal

pub returns : goal.returns
returns c = ring-fits
