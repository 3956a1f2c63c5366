use Rattle.report_reader.proofs.ReportLemmas.{with-head-ok}
use Rattle.report_reader.proofs.report.read_report.Goals as goal

pub returns-clause-reads : goal.returns-clause-reads
returns-clause-reads c =
    with-head-ok c.args.bytes.now c.in-Some.text.now c.read_facts.result c.requires
    c.in-Some.ensures.some c.read_facts.ensures.reads
