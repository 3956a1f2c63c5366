use Rattle.std.proofs.Common.{arith}
use Rattle.load_run.proofs.AskLemmas.{asks-more, asks-none}
use Rattle.rpc_turns.proofs.RunLemmas.{goes-then}
use Rattle.load_run.proofs.run.LoadRun.ask_many.Goals as goal

pub calls-init : goal.calls-init
calls-init g c = (asks-none g.R.Recorder.log _ _, omega arith)

pub calls-preserved : goal.calls-preserved
calls-preserved g c = (
  asks-more g.R.Recorder.log _ _ _ _ _ _ c.calls.invariant.0
      c.in_ok-ask_next.ensures.asks (rw c.pending.ensures at c.if-pending-lt-MOST_PENDING.true)
      c.in_ok-ask_next.ensures.keeps c.in_ok-ask_next.ensures.counted
      c.in_ok-ask_next.ensures.passes,
  let before = c.calls.invariant.1 in let one = c.in_ok-ask_next.ensures.cause in omega (arith, before, one),
)

pub returns-in_err-ask_next-clause-goes_on : goal.returns-in_err-ask_next-clause-goes_on
returns-in_err-ask_next-clause-goes_on g c =
    goes-then g.R.Recorder.log _ _ _ _ _ _
    c.calls.invariant.0.passes.goes c.in_err-ask_next.ensures.goes_on
