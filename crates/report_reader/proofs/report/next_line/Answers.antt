use Rattle.std.proofs.Common.{sym, ◌∙◌}
use Rattle.report_reader.proofs.ReportLemmas.{no-feed, feed-at}
use Rattle.report_reader.proofs.report.next_line.Goals as goal

pub returns-in-None-clause-none : goal.returns-in-None-clause-none
returns-in-None-clause-none c = no-feed _ (sym c.first_feed.ensures.position ∙ c.in-None.is)

pub returns-in-Some-clause-line : goal.returns-in-Some-clause-line
returns-in-Some-clause-line c = feed-at _ _ (sym c.first_feed.ensures.position ∙ c.in-Some.is)
