use Rattle.std.proofs.Common.{arith}
use Rattle.client_core.proofs.PacketLemmas.{later-number}
use Rattle.client_core.proofs.call.ActiveCall.head.Goals as goal

pub returns-else-from-count-clause-in_range : goal.returns-else-from-count-clause-in_range
returns-else-from-count-clause-in_range c =
    let number = later-number c.args.self.now c.args.number c.requires.turn c.requires.posted (omega arith) in
    record {
      req_type = (omega arith, omega arith);
      size = (omega arith, omega arith);
      session = (omega arith, omega arith);
      number = number;
      to_life = (omega arith, omega arith);
    }
