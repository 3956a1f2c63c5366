use Rattle.session_ends.proofs.ListLemmas.{get-there}
use Rattle.node_steps.proofs.SessionRates.{set-at}
use Rattle.endpoint_node.proofs.node.rates.set_rate_at.Goals as goal

pub returns-clause-rated : goal.returns-clause-rated
returns-clause-rated c =
    let ps = c.args.paces.now.items in
    let p = c.index_mut-pace.result.now in
    let at = get-there ps c.args.i p c.requires.known c.index_mut-pace.ensures.value in
    set-at c.args.i (λ x. record x { rate = c.args.rate }) ps p c.requires.numbered at
