use Rattle.std.proofs.Common.{rules}
use Rattle.packet_rings.specs.Values.{datagram}
use Rattle.node_laws.specs.Kept.{IsPacket}
use Rattle.node_steps.proofs.ControlInbox.{all-arrived}
use Rattle.endpoint_node.proofs.node.Node.deliver_message.Goals as goal

pub invariant_of-self : goal.invariant_of-self
invariant_of-self g c =
    let arrived = datagram c.args.peer c.args.bytes.now in
    let reads =
    all-arrived IsPacket c.self.inside.rx.items arrived c.self.invariant.0.kept.reads
    c.requires.message in
    rw c.push.ensures (search (rules, reads))
