use Rattle.node_steps.proofs.PacketReplies.{ring-left}
use Rattle.node_poll.proofs.packets.replies.drop_front.Goals as goal

pub returns-clause-ring : goal.returns-clause-ring
returns-clause-ring g c =
    rw (← c.node.view_is) (ring-left c.node.inside.rx c.drop_front.new.self c.drop_front.ensures)
