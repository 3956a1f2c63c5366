use Rattle.std.proofs.Common.{sym, ap, ◌∙◌, slice_set}
use Rattle.rpc_base.proofs.TablesLemmas.{at_first-found, at_first-missing}
use Rattle.rpc_laws.specs.Calls.{is_call, rolled_back}
use Rattle.node_tables.proofs.ActiveLemmas.{none-told, waits-unmoved}
use Rattle.node_tables.proofs.calls.roll.Goals as goal

pub returns-in_default-clause-calls : goal.returns-in_default-clause-calls
returns-in_default-clause-calls c = sym (at_first-missing _ _ _ (sym c.in_default.ensures))

pub returns-clause-calls : goal.returns-clause-calls
returns-clause-calls c =
    ap (λ x. slice_set c.args.calls.now c.in-Some.place x) c.in_ok-roll_call.ensures.call
    ∙ sym (at_first-found _ _ _ _ _ (sym c.in-Some.ensures) c.at_mut.ensures.value)

pub returns-then-is_none-clause-calls : goal.returns-then-is_none-clause-calls
returns-then-is_none-clause-calls c =
    sym (waits-unmoved (is_call c.args.number)
    (rolled_back c.args.got) c.args.calls.now c.in-Some.place
    c.at.result.now (sym c.in-Some.ensures) c.at.ensures
    (none-told c.is_none.result c.at.result.now.progress c.is_none.ensures c.if-is_none.true))
