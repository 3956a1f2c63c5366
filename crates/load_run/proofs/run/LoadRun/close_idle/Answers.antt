-- a session begins to close, or nothing happens
use Rattle.std.proofs.Common.{refl, subst}
use Rattle.load_run.specs.Loading.{LoadsSoFar, Passes}
use Rattle.load_run.proofs.PassLemmas.{close-passes, passes-none}
use Rattle.load_run.proofs.run.LoadRun.close_idle.Goals as goal

pub returns-then-pending-eq0-clause-passes : goal.returns-then-pending-eq0-clause-passes
returns-then-pending-eq0-clause-passes g c =
    subst (λ (s : LoadsSoFar). Passes g.R.Recorder.log s.endpoint
    c.disconnect-closing.new.self c.args.rec.now c.disconnect-closing.new.rec s.ledger.plan s.session
    s.asked c.self.inside.asked) c.self.view_is
    (close-passes g.R.Recorder.log _ _ _ _ c.disconnect-closing.ensures.call.leaves
    _ _ _ c.disconnect-closing.ensures.call.makes)

pub returns-else-pending-eq0-clause-passes : goal.returns-else-pending-eq0-clause-passes
returns-else-pending-eq0-clause-passes g c =
    passes-none g.R.Recorder.log _ _ _ _ _ _ _ refl refl
