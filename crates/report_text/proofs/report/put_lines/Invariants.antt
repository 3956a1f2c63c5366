-- the text of the items before this one was put
use Rattle.std.proofs.Common.{take}
use Rattle.std.specs.Prelude.{flat_map}
use Rattle.report_text.specs.Page.{Puts}
use Rattle.report_text.specs.Text.{line_text}
use Rattle.report_text.proofs.report.put_lines.Given as goal

abbrev pub invariant-loop-fact : goal.invariant-loop-fact
invariant-loop-fact g l =
    Puts l.initial.page l.page (g.K.Sink.page l.initial.sink) (g.K.Sink.page l.sink)
    (flat_map line_text (take l.fact-index l.facts))
