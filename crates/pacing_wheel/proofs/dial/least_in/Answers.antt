use Rattle.std.proofs.Common.{arith}
use Rattle.pacing_wheel.proofs.WalkLemmas.{behind-fewer}
use Rattle.pacing_wheel.proofs.dial.least_in.Goals as goal

pub least_between-later-requires-clause-enough : goal.least_between-later-requires-clause-enough
least_between-later-requires-clause-enough c =
    let all = behind-fewer c.args.chains.now.lists 0 c.args.from (omega arith) in
    omega (arith, all, c.requires.waiting)
