use Rattle.std.proofs.Common.{◌∙◌}
use Rattle.call_load.proofs.CountLemmas.{asks-next}
use Rattle.call_load.proofs.caller.Caller.ask_all.Goals as goal

pub calls-preserved : goal.calls-preserved
calls-preserved c =
    let i = c.calls.invariant in (
      c.ask_next.ensures.aim ∙ i.0,
      asks-next _ _ _ _ _ i.1 c.ask_next.ensures.asks,
    )
