use Rattle.std.proofs.Common.{rules}
use Rattle.history_audit.proofs.NodesLemmas.{keeps-none, placed-more}
use Rattle.history_audit.proofs.nodes.Nodes.new.Goals as goal

pub loop-number-preserved : goal.loop-number-preserved
loop-number-preserved c =
    let more = placed-more c.loop-number.nodes.items c.push.new.list.items c.new.result c.loop-number.number
    c.loop-number.invariant.0 c.loop-number.invariant.1 c.new.ensures c.in_ok-push.ensures.pushed in
    (more.0, more.1, search rules)

pub returns-clause-none : goal.returns-clause-none
returns-clause-none c =
    rw c.from.ensures (keeps-none c.loop-number.nodes.items c.loop-number.invariant.1)
