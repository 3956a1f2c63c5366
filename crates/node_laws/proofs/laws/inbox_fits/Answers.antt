-- A control packet arrives only where the inbox has room.
use Rattle.node_laws.proofs.RingLaws.{inbox_within}
use Rattle.node_laws.proofs.laws.inbox_fits.Goals as goal

pub returns : goal.returns
returns c = inbox_within
