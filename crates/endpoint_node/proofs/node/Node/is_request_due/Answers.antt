use Rattle.std.specs.Prelude.{slice_get}
use Rattle.rpc_laws.specs.declared.rows.RetryRow.TheVariants.{Asks, GivesUp}
use Rattle.node_steps.proofs.DueLemmas.{asks-not, gives-up-not, request-due, request-none}
use Rattle.node_steps.proofs.DueLemmas.{request-rests}
use Rattle.endpoint_node.proofs.node.Node.is_request_due.Goals as goal

pub returns-in_default : goal.returns-in_default
returns-in_default c =
    request-none c.args.at c.args.self.now.lists.timeout c.args.self.now.lists.life
    (slice_get c.args.self.now.lists.clients c.args.i)
    (rw c.in_default.is at c.own_request.ensures)

pub returns-in-Rests : goal.returns-in-Rests
returns-in-Rests c =
    rw (← c.self.view_is) (request-rests c.args.at c.self.inside.limits.timeout
    c.own_requests-sent.result (slice_get c.self.inside.store.clients c.args.i)
    c.own_requests-sent.ensures (rw c.in-Rests.is at c.retry_row.ensures))

pub returns-in-Asks : goal.returns-in-Asks
returns-in-Asks c =
    let own = rw c.in-Some.is at c.own_request.ensures in
    let there = rw (← c.self.view_is) at own in
    rw (← c.self.view_is) (request-due c.args.at c.self.inside.limits.timeout
    c.own_requests-sent.result _ Asks _ (slice_get c.self.inside.store.clients c.args.i) asks-not there
    c.own_requests-sent.ensures (rw c.in-Asks.is at c.retry_row.ensures))

pub returns-in-GivesUp : goal.returns-in-GivesUp
returns-in-GivesUp c =
    let own = rw c.in-Some.is at c.own_request.ensures in
    let there = rw (← c.self.view_is) at own in
    rw (← c.self.view_is) (request-due c.args.at c.self.inside.limits.timeout
    c.own_requests-sent.result _ GivesUp _ (slice_get c.self.inside.store.clients c.args.i)
    gives-up-not there c.own_requests-sent.ensures (rw c.in-GivesUp.is at c.retry_row.ensures))
