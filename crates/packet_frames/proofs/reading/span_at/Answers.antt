-- What is read of a row is read of the datagram that it stands in.
use Rattle.std.proofs.Common.{refl}
use Rattle.packet_frames.proofs.RowLemmas.{packets_at_rest}
use Rattle.packet_frames.proofs.reading.span_at.Goals as goal

pub returns-clause-next : goal.returns-clause-next
returns-clause-next c =
    packets_at_rest c.args.datagram.now c.args.at c.in_ok-len.len _ refl
    c.in_ok-len.ensures.first
