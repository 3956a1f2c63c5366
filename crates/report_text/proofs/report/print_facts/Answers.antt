-- what is on the page at the end is written last
use Rattle.report_text.proofs.Putting.{prints-page}
use Rattle.report_text.proofs.report.print_facts.Goals as goal

pub returns : goal.returns
returns g c =
    prints-page _ _ _ _ _ _ _ c.new-page.ensures c.in_ok-put_report.ensures c.flush.ensures.written
