-- Past the test of its fields, a request names a part of its message.
use Rattle.packet_header.proofs.Faults.{no_fault-part}
use Rattle.packet_header.proofs.decoding.check_message.Goals as goal

pub wanted-want-requires : goal.wanted-want-requires
wanted-want-requires c = no_fault-part c.args.header (cc)
