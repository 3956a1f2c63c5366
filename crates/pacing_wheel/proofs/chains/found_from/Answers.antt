use Rattle.std.proofs.Common.{sym, ◌∙◌}
use Rattle.pacing_wheel.specs.Wheel.{is_entry_of}
use Rattle.pacing_wheel.proofs.PopLemmas.{found-behind}
use Rattle.pacing_wheel.proofs.chains.found_from.Goals as goal

pub loop-left-preserved : goal.loop-left-preserved
loop-left-preserved c =
    let t = is_entry_of c.args.owner.now c.args.number in
    let miss = (rw c.link_at-link.ensures at (sym c.is_entry.ensures ∙ c.if-is_entry.false)) in
    c.loop-left.invariant ∙ (rw c.link_at-link.ensures (found-behind t c.args.links.now.items c.loop-left.left c.loop-left.place
    c.loop-left-test.true miss))
