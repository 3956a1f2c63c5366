use Rattle.std.proofs.Common.{arith}
use Rattle.client_core.proofs.CreditLemmas.{sum-eight}
use Rattle.client_core.proofs.session.ClientSession.limit.Goals as goal

pub overflow_add-limit-7 : goal.overflow_add-limit-7
overflow_add-limit-7 c =
    let all = sum-eight c.self.inside.credits.unanswered c.free-limit.ensures.balanced.slots in
    omega (arith, c.free-limit.ensures.balanced.most)

pub overflow_add-result : goal.overflow_add-result
overflow_add-result c =
    let all = sum-eight c.self.inside.credits.unanswered c.free-limit.ensures.balanced.slots in
    omega (arith, c.free-limit.ensures.balanced.most)

pub returns : goal.returns
returns c =
    let all = sum-eight c.self.inside.credits.unanswered c.free-limit.ensures.balanced.slots in
    rw (← c.self.view_is) (omega arith)
