-- the handles that are out stay
use Rattle.relays.proofs.RelayLemmas.{turned-stands}
use Rattle.relays.proofs.law.relays_stand.Goals as goal

pub returns : goal.returns
returns c = turned-stands
