-- What a node notes by itself has no other bytes than its report shows.
use Rattle.node_laws.specs.Laws.{OfEveryRun}
use Rattle.report_text.specs.Told.{AllTold}

abbrev pub RunsTellTheirBytes : Type 0
RunsTellTheirBytes = OfEveryRun (λ ring g t. AllTold g)
