use Rattle.std.proofs.Common.{ap, sym, ◌∙◌}
use Rattle.std.specs.Prelude.{option_map}
use Rattle.packet_rings.specs.Entries.{option_is}
use Rattle.pacing_wheel.specs.Wheel.{entry_of, is_due}
use Rattle.pacing_wheel.proofs.DueLemmas.{one-due}
use Rattle.session_ends.proofs.queue.paced_due.Goals as goal

pub returns-clause-first : goal.returns-clause-first
returns-clause-first c =
    let one = one-due c.args.now c.args.pacer.now.items c.in-Some.paced
    (sym c.first_due.ensures.due ∙ c.in-Some.is) c.sound.ensures in
    ap (option_map entry_of) one.0

pub returns-clause-due : goal.returns-clause-due
returns-clause-due c =
    let one = one-due c.args.now c.args.pacer.now.items c.in-Some.paced
    (sym c.first_due.ensures.due ∙ c.in-Some.is) c.sound.ensures in
    ap (option_is (is_due c.args.now)) one.0 ∙ one.2
