-- A report tells the histories whose facts tell their bytes.
use Rattle.one_history.proofs.ScriptTold.{all-told}
use Rattle.one_history.proofs.laws.reports_have_one_history.Goals as goal

pub report_tells-requires-clause-one : goal.report_tells-requires-clause-one
report_tells-requires-clause-one c =
    all-told c.requires.one.0 c.args.one.now c.requires.one.1

pub report_tells-requires-clause-other : goal.report_tells-requires-clause-other
report_tells-requires-clause-other c =
    all-told c.requires.other.0 c.args.other.now c.requires.other.1
