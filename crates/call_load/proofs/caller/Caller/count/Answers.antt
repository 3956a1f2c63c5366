use Rattle.std.proofs.Common.{◌∙◌}
use Rattle.call_load.proofs.CountLemmas.{ends-then}
use Rattle.call_load.proofs.caller.Caller.count.Goals as goal

pub calls-preserved : goal.calls-preserved
calls-preserved c =
    let i = c.calls.invariant in (
      c.end.ensures.aim ∙ i.0,
      ends-then _ _ _ _ i.1 c.end.ensures.ends,
    )
