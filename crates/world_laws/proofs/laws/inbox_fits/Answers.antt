-- Each node's facts are those of a run.
use Rattle.world_laws.proofs.NodeLaws.{inbox-fits}
use Rattle.world_laws.proofs.laws.inbox_fits.Goals as goal

pub returns : goal.returns
returns c = inbox-fits
