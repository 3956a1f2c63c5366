-- the counts of its endpoint
use Rattle.serve_run.proofs.run.ServeRun.finish.Goals as goal

pub returns-clause-prints : goal.returns-clause-prints
returns-clause-prints g c =
    rw (← c.self.view_is) (rw c.counts-counts.ensures at c.write_turns.ensures)
