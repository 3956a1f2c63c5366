-- what words that are read ask for is done, and nothing where they aren't
use Rattle.rpc_tools.proofs.RunLemmas.{as-asked, ran-nothing, ran-read, ran-unread}
use Rattle.rpc_turns.specs.Moments.{outside}
use Rattle.rpc_tools.proofs.tasks.run_words.Goals as goal

pub returns-in-Ok-clause-runs : goal.returns-in-Ok-clause-runs
returns-in-Ok-clause-runs g c =
    as-asked c.in-Ok.ensures.value
    (ran-read (outside g.L.Link g.C.Clock.gave g.R.Recorder.log) _ _ _ _ _ _ _ _
    c.in-Ok.ensures.cause.no_less _ c.run_task.ensures.runs)

pub returns-in-Err-Usage-clause-runs : goal.returns-in-Err-Usage-clause-runs
returns-in-Err-Usage-clause-runs g c =
    as-asked (rw c.in-Err-Usage.field-0-is at c.in-Err-Usage.ensures.value)
    (ran-nothing (outside g.L.Link g.C.Clock.gave g.R.Recorder.log) _ _ _ _ _ _
    (rw c.in-Err-Usage.field-0-is at c.in-Err-Usage.ensures.cause))

pub returns-clause-runs : goal.returns-clause-runs
returns-clause-runs g c =
    ran-unread (outside g.L.Link g.C.Clock.gave g.R.Recorder.log) _ _ _ _ _ _ _
    (rw c.in-Err-NoMemory.field-0-is at c.in-Err-NoMemory.ensures.cause)
