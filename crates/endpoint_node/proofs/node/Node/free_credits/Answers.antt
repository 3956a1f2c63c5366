use Rattle.std.proofs.Common.{◌≡◌, true, sym, ap, ◌∙◌, arith, inl, inr, refl}
use Rattle.std.proofs.lemmas.Option.{slice_get_past}
use Rattle.node_steps.specs.Status.{free_told, has_credits}
use Rattle.node_steps.proofs.CallSteps.{client-by}
use Rattle.node_steps.proofs.StatusSteps.{free-there, no-credits, none-free}
use Rattle.endpoint_node.proofs.node.Node.free_credits.Goals as goal

pub returns-then-i-clients : goal.returns-then-i-clients
returns-then-i-clients c =
    let xs = c.self.inside.store.clients in
    let by = client-by xs c.from-i.result _ c.self.invariant.0.kept.valid.numbered (sym c.from-i.ensures) in
    let past = slice_get_past xs c.from-i.result
    (omega (arith, c.if-i-clients.true, c.clients.ensures.count)) in
    rw (← c.self.view_is, ← c.session.view_is) (ap free_told (sym past ∙ by))

pub returns-in-Connected : goal.returns-in-Connected
returns-in-Connected c =
    let xs = c.self.inside.store.clients in
    let by = client-by xs c.from-i.result _ c.self.invariant.0.kept.valid.numbered (sym c.from-i.ensures) in
    let some : has_credits c.state.result ≡ true = elim c.in-Connected.is [
      | inl a ↦ rw a refl
      | inr b ↦ elim b [ inl d ↦ rw d refl | inr e ↦ rw e refl ]
    ] in
    rw (← c.self.view_is, ← c.session.view_is) (free-there xs c.from-i.result c.free.result
    c.state.result (omega (arith, c.if-i-clients.false, c.clients.ensures.count)) c.state.ensures
    c.free.ensures some ∙ ap free_told by)

pub returns-in_default : goal.returns-in_default
returns-in_default c =
    let xs = c.self.inside.store.clients in
    let by = client-by xs c.from-i.result _ c.self.invariant.0.kept.valid.numbered (sym c.from-i.ensures) in
    rw (← c.self.view_is, ← c.session.view_is) (none-free xs c.from-i.result 0 c.state.result
    (omega (arith, c.if-i-clients.false, c.clients.ensures.count)) c.state.ensures
    (no-credits c.state.result c.in_default.not-Connected c.in_default.not-Spent
    c.in_default.not-Closing) ∙ ap free_told by)
