use Rattle.std.proofs.Common.{sym, ap, ◌∙◌, slice_set}
use Rattle.rpc_base.proofs.TablesLemmas.{at_first-found, at_first-missing}
use Rattle.node_tables.proofs.ActiveLemmas.{active-begun}
use Rattle.node_tables.proofs.calls.take.Goals as goal

pub at_mut-requires : goal.at_mut-requires
at_mut-requires c = active-begun c.args.request c.in-Some.place c.args.calls.now
    (sym c.in-Some.ensures)

pub returns-in_default-clause-calls : goal.returns-in_default-clause-calls
returns-in_default-clause-calls c = sym (at_first-missing _ _ _ (sym c.in_default.ensures))

pub returns-clause-calls : goal.returns-clause-calls
returns-clause-calls c =
    ap (λ x. slice_set c.args.calls.now c.in-Some.place x) c.in_ok-take_call.ensures.call
    ∙ sym (at_first-found _ _ _ _ _ (sym c.in-Some.ensures) c.at_mut.ensures.value)
