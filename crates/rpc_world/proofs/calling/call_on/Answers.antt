use Rattle.std.proofs.Common.{arith, ap, length}
use Rattle.rpc_world.proofs.CallLemmas.{ask-short}
use Rattle.rpc_world.proofs.calling.call_on.Goals as goal

pub ask_on-requires-clause-ask : goal.ask_on-requires-clause-ask
ask_on-requires-clause-ask c =
    omega (arith, ask-short c.args.ask.now c.requires.ask, ap length c.bytes-2.ensures, ap length c.in_ok-bytes.ensures.bytes)
