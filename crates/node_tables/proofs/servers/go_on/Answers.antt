use Rattle.std.proofs.Common.{sym, ap, ◌∙◌, slice_set}
use Rattle.rpc_base.proofs.TablesLemmas.{at_first-found, at_first-missing}
use Rattle.node_tables.proofs.servers.go_on.Goals as goal

pub returns-in_default-clause-slots : goal.returns-in_default-clause-slots
returns-in_default-clause-slots c = sym (at_first-missing _ _ _ (sym c.in_default.ensures))

pub returns-clause-slots : goal.returns-clause-slots
returns-clause-slots c =
    ap (λ x. slice_set c.args.slots.now c.in-Some.place x) c.in_ok-join.ensures.served
    ∙ sym (at_first-found _ _ _ _ _ (sym c.in-Some.ensures) c.at_mut.ensures.value)
