use Rattle.std.proofs.Common.{arith, ◌∙◌}
use Rattle.node_audit.proofs.AnswerLemmas.{counts-all, counts-not}
use Rattle.node_audit.proofs.answers.counts_up.Goals as goal

pub returns-then-from-j : goal.returns-then-from-j
returns-then-from-j c =
    counts-not c.args.bytes.now c.loop-j.j c.loop-j-test.true (λ h. c.if-from-j.true (c.from.ensures ∙ h))

pub returns : goal.returns
returns c = counts-all c.args.bytes.now c.loop-j.j (omega (arith, c.loop-j-test.false)) c.loop-j.invariant
