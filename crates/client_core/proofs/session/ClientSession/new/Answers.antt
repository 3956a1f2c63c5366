use Rattle.client_core.proofs.PoolLemmas.{keeps-none}
use Rattle.client_core.proofs.session.ClientSession.new.Goals as goal

pub returns-clause-keeps_pool : goal.returns-clause-keeps_pool
returns-clause-keeps_pool c = λ pool. rw c.new-3.ensures (keeps-none pool)
