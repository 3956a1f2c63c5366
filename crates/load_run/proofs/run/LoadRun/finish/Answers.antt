-- the line was written, and the status of the run is told
use Rattle.load_run.proofs.EndLemmas.{prints-told}
use Rattle.load_run.proofs.run.LoadRun.finish.Goals as goal

pub returns-in-Ok : goal.returns-in-Ok
returns-in-Ok g c =
    prints-told c.args.self c.told-told.result _ _ c.told-told.ensures.within
    c.told-told.ensures.told (rw c.line-line.ensures at c.in-Ok.ensures)
