-- what is on the page at the end is written last
use Rattle.report_text.proofs.Putting.{prints-page}
use Rattle.report_text.proofs.report.print_fact.Goals as goal

pub returns : goal.returns
returns g c =
    prints-page _ _ _ _ _ _ _ c.clear.ensures c.in_ok-put_fact.ensures c.flush.ensures.written
