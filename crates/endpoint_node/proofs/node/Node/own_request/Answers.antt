use Rattle.std.proofs.Common.{sym, ◌∙◌}
use Rattle.session_store.specs.Changes.{IsClientEnd}
use Rattle.node_steps.proofs.TimerRetries.{known-at, none-told, of-known, own-told}
use Rattle.endpoint_node.proofs.node.Node.own_request.Goals as goal

pub returns-then-not-has_request : goal.returns-then-not-has_request
returns-then-not-has_request c =
    let xs = c.self.inside.store.clients in
    let known = rw (← c.self.view_is) at c.requires.known in
    let x = known-at xs c.args.i known in
    let told = rw x.1 at c.state-state.ensures in
    let none = sym c.has_request.ensures ∙ c.if-not-has_request.true in
    rw (← c.self.view_is) (rw x.1 (none-told c.self.inside.life x.0 c.state-state.result told none))

pub returns : goal.returns
returns c =
    let xs = c.self.inside.store.clients in
    let known = rw (← c.self.view_is) at c.requires.known in
    let x = known-at xs c.args.i known in
    let end = of-known (IsClientEnd c.end_of_client-end.result) xs c.args.i x.0 x.1
    c.end_of_client-end.ensures in
    let told = rw x.1 at c.state-state.ensures in
    rw (← c.self.view_is) (rw x.1 (c.own_request.ensures ∙ own-told xs c.args.i x.0 x.1
    c.self.invariant.0.kept.valid.numbered c.self.inside.life c.state-state.result
    c.end_of_client-end.result end told))
