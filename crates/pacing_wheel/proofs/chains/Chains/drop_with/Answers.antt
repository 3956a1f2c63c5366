use Rattle.pacing_wheel.specs.Wheel.{is_entry_of}
use Rattle.pacing_wheel.proofs.TurningLemmas.{turned-on}
use Rattle.pacing_wheel.proofs.chains.Chains.drop_with.Goals.{else-leaves, then-leaves}
use Rattle.pacing_wheel.proofs.chains.Chains.drop_with.Goals as goal

pub loop-left-preserved : goal.loop-left-preserved
loop-left-preserved c =
    let t = is_entry_of c.args.owner.now c.args.number in
    let on = turned-on t c.args.place c.args.self.now c.loop-left.self c.pop-item.new.self c.loop-left.left
    c.loop-left.dropped c.loop-left.invariant c.pop-item.result c.loop-left-test.true c.pop-item.ensures.first
    c.pop-item.ensures.rest c.leaves.result c.leaves.ensures in
    elim c.if-leaves.branch [
      | then-leaves w ↦ rw (w.self-is, w.dropped-is) (on.0 w.if-leaves.true)
      | else-leaves w ↦ rw (w.self-is, w.dropped-is) (on.1 w.if-leaves.false w.push.new.self w.push.ensures)
    ]
