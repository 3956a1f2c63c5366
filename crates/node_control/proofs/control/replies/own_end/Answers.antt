use Rattle.std.proofs.Common.{◌≡◌, ◌≤◌, ◌<◌, length, sym, ◌∙◌}
use Rattle.node_steps.proofs.ControlEnds.{own-found, own-missing}
use Rattle.node_control.proofs.control.replies.own_end.Goals as goal

pub returns-then-clients-i : goal.returns-then-clients-i
returns-then-clients-i c =
    let past : length c.node.inside.store.clients ≤ c.from-i.result =
    rw c.clients.ensures.count at c.if-clients-i.true in
    let number : c.args.session ≡ c.from-i.result = sym (c.from-i.ensures ∙ c.session.view_is) in
    rw (← c.node.view_is) (own-missing c.node.inside.store.clients
    c.node.invariant.0.kept.valid.numbered c.from-i.result c.args.session number past)

pub returns : goal.returns
returns c =
    let within : c.from-i.result < length c.node.inside.store.clients =
    rw c.clients.ensures.count at c.if-clients-i.false in
    let number : c.args.session ≡ c.from-i.result = sym (c.from-i.ensures ∙ c.session.view_is) in
    rw (← c.node.view_is) (own-found c.node.inside.store.clients
    c.node.invariant.0.kept.valid.numbered c.from-i.result c.args.session number
    c.end_of_client-end.result c.state.result within c.end_of_client-end.ensures c.state.ensures)
