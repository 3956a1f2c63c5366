-- A datagram arrives only where the ring has room.
use Rattle.node_laws.proofs.RingLaws.{ring_within}
use Rattle.node_laws.proofs.laws.ring_fits.Goals as goal

pub returns : goal.returns
returns c = ring_within
