-- calls are asked, and the session begins to close where none is pending
use Rattle.std.proofs.Common.{refl}
use Rattle.rpc_turns.proofs.RunLemmas.{goes-then}
use Rattle.load_run.proofs.PassLemmas.{passes-none, passes-then}
use Rattle.load_run.proofs.run.LoadRun.prepare.Goals as goal

pub returns-then-ne-clause-passes : goal.returns-then-ne-clause-passes
returns-then-ne-clause-passes g c =
    passes-none g.R.Recorder.log _ _ _ _ _ _ _ refl refl

pub returns-clause-passes : goal.returns-clause-passes
returns-clause-passes g c =
    passes-then g.R.Recorder.log _ _ _ _ _ _ _ _ _ _ _
    c.in_ok-ask_many.ensures.passes
    (rw (c.in_ok-ask_many.ensures.keeps.ledger, c.in_ok-ask_many.ensures.keeps.session)
    at c.close_idle.ensures.passes)

pub returns-clause-goes_on : goal.returns-clause-goes_on
returns-clause-goes_on g c =
    goes-then g.R.Recorder.log _ _ _ _ _ _
    c.in_ok-ask_many.ensures.goes_on c.close_idle.ensures.passes.goes
