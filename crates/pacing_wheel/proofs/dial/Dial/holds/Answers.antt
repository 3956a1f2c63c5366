use Rattle.std.proofs.Common.{ap, ◌∙◌}
use Rattle.std.specs.Prelude.{is_some}
use Rattle.pacing_wheel.specs.Wheel.{is_entry_of}
use Rattle.pacing_wheel.proofs.DialLemmas.{some-any}
use Rattle.pacing_wheel.proofs.dial.Dial.holds.Goals as goal

pub returns : goal.returns
returns c =
    c.is_some.ensures ∙ (ap is_some c.first_with.ensures
    ∙ some-any (is_entry_of c.args.owner.now c.args.number) c.args.self.now.items)
