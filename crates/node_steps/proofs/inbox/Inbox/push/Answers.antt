use Rattle.packet_rings.specs.Values.{datagram}
use Rattle.node_steps.specs.Inboxes.{IsControl}
use Rattle.node_steps.proofs.ControlInbox.{all-arrived}
use Rattle.node_steps.proofs.inbox.Inbox.push.Goals as goal

pub invariant_of-self : goal.invariant_of-self
invariant_of-self c =
    let arrived = datagram c.args.peer c.args.bytes.now in
    rw c.push.ensures (
      c.self.invariant.0,
      all-arrived IsControl c.self.inside.ring.items arrived c.self.invariant.1
          c.requires.control,
    )
