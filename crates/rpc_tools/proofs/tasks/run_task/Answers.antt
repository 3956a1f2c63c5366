-- what each task did
use Rattle.rpc_tools.proofs.RunLemmas.{as-task, ran-audit, ran-drill, ran-load, ran-serve, ran-sim}
use Rattle.rpc_turns.specs.Moments.{outside}
use Rattle.rpc_tools.proofs.tasks.run_task.Goals as goal

pub returns-in-Sim-clause-runs : goal.returns-in-Sim-clause-runs
returns-in-Sim-clause-runs g c =
    as-task c.in-Sim.is
    (ran-sim (outside g.L.Link g.C.Clock.gave g.R.Recorder.log) c.sim.result _ _ _ _ _ _ _ _
    c.sim.ensures.simulates c.sim.ensures.headline c.sim.ensures.cause)

pub returns-in-Drill-clause-runs : goal.returns-in-Drill-clause-runs
returns-in-Drill-clause-runs g c =
    as-task c.in-Drill.is
    (ran-drill (outside g.L.Link g.C.Clock.gave g.R.Recorder.log) c.drill.result _ _ _ _ _ _ _
    c.drill.ensures.cause _ _ c.drill.ensures.drills)

pub returns-in-Serve-clause-runs : goal.returns-in-Serve-clause-runs
returns-in-Serve-clause-runs g c =
    as-task c.in-Serve.is
    (ran-serve (outside g.L.Link g.C.Clock.gave g.R.Recorder.log) c.serve_as_told.result _ _ _ _ _ _
    _ c.serve_as_told.ensures.cause _ _ _ c.serve_as_told.ensures.serves)

pub returns-in-Load-clause-runs : goal.returns-in-Load-clause-runs
returns-in-Load-clause-runs g c =
    as-task c.in-Load.is
    (ran-load (outside g.L.Link g.C.Clock.gave g.R.Recorder.log) c.load.result _ _ _ _ _ _ _
    c.load.ensures.cause _ _ c.load.ensures.loads)

pub returns-in-Audit-clause-runs : goal.returns-in-Audit-clause-runs
returns-in-Audit-clause-runs g c =
    as-task c.in-Audit.is
    (ran-audit (outside g.L.Link g.C.Clock.gave g.R.Recorder.log) c.audit_report.result _ _ _ _ _ _
    _ _ c.audit_report.ensures.audits c.audit_report.ensures.answers
    c.audit_report.ensures.cause)
