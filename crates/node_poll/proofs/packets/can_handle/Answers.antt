use Rattle.node_steps.proofs.PacketCrew.{some-there}
use Rattle.node_poll.proofs.packets.can_handle.Goals as goal

pub returns-then-not-is_empty-clause-some : goal.returns-then-not-is_empty-clause-some
returns-then-not-is_empty-clause-some c = λ yes none.
    some-there c.node.inside.rx.items c.is_empty.result c.is_empty.ensures
    c.if-not-is_empty.true (rw (← c.node.view_is) at none)
