use Rattle.world_laws.proofs.OrderLaws.{script-in-order}
use Rattle.world_laws.proofs.laws.calls_are_in_order.Goals as goal

pub returns : goal.returns
returns c = script-in-order
