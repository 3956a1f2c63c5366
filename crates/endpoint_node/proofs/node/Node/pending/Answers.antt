use Rattle.std.proofs.Common.{sym, ap, ◌∙◌, arith}
use Rattle.std.proofs.lemmas.Option.{slice_get_past}
use Rattle.node_steps.specs.Status.{pending_told}
use Rattle.node_steps.proofs.CallSteps.{client-by}
use Rattle.node_steps.proofs.StatusSteps.{pending-there}
use Rattle.endpoint_node.proofs.node.Node.pending.Goals as goal

pub returns-then-i-clients : goal.returns-then-i-clients
returns-then-i-clients c =
    let xs = c.self.inside.store.clients in
    let by = client-by xs c.from-i.result _ c.self.invariant.0.kept.valid.numbered (sym c.from-i.ensures) in
    let past = slice_get_past xs c.from-i.result
    (omega (arith, c.if-i-clients.true, c.clients.ensures.count)) in
    rw (← c.self.view_is, ← c.session.view_is) (ap pending_told (sym past ∙ by))

pub returns : goal.returns
returns c =
    let xs = c.self.inside.store.clients in
    let by = client-by xs c.from-i.result _ c.self.invariant.0.kept.valid.numbered (sym c.from-i.ensures) in
    rw (← c.self.view_is, ← c.session.view_is) (pending-there xs c.from-i.result _
    (omega (arith, c.if-i-clients.false, c.clients.ensures.count)) c.pending.ensures
    ∙ ap pending_told by)
