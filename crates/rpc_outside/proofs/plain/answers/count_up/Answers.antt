use Rattle.std.proofs.Common.{arith}
use Rattle.rpc_outside.proofs.Filling.{counts-up}
use Rattle.rpc_outside.proofs.plain.answers.count_up.Goals as goal

pub returns : goal.returns
returns c = counts-up c.loop-j.out _ c.loop-j.invariant.0
    (λ k below. c.loop-j.invariant.1 k (omega (arith, c.loop-j-test.false, below)))
