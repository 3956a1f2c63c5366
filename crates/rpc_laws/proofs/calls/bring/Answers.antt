use Rattle.std.proofs.Common.{◌∙◌}
use Rattle.rpc_laws.proofs.CallsLemmas.{one-more-gone}
use Rattle.rpc_laws.proofs.calls.bring.Goals as goal

pub loop-i-preserved : goal.loop-i-preserved
loop-i-preserved c = (
  one-more-gone _ c.in-Some.call _ _ _ _ _ _ c.loop-i.invariant.0 c.in-Some.ensures.items
      c.in_ok-push.ensures.pushed,
  c.in_ok-push.ensures.cause ∙ c.loop-i.invariant.1,
)
