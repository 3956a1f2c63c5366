use Rattle.call_load.proofs.CountLemmas.{ends-one}
use Rattle.call_load.proofs.caller.Caller.end.Goals as goal

pub returns-clause-ends : goal.returns-clause-ends
returns-clause-ends c = ends-one _ _ _ _ _ c.time.ensures c.end.ensures
