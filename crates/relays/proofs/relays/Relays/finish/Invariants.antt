-- each handle is given up
use Rattle.std.proofs.Common.{length}
use Rattle.relays.proofs.relays.Relays.finish.Given as goal

abbrev pub decreases-handles : goal.decreases-handles
decreases-handles l = length l.asked.items
