use Rattle.std.proofs.Common.{◌∙◌}
use Rattle.pacing_wheel.proofs.DialLemmas.{all-due}
use Rattle.pacing_wheel.proofs.dial.Dial.front.Goals as goal

pub returns : goal.returns
returns c =
    c.first_due.ensures ∙ all-due 18446744073709551615 c.args.self.now.items c.sound.ensures.sorted c.sound.ensures.fits
