use Rattle.report_text.proofs.Telling.{text-tells}
use Rattle.report_text.proofs.law.text_tells.Goals as goal

pub returns : goal.returns
returns c = text-tells c.args.one.now c.args.other.now c.facts_fit.ensures c.facts_fit-2.ensures
    c.requires.one c.requires.other
