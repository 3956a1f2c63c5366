use Rattle.std.proofs.Common.{sym, ap, ◌∙◌, slice_set}
use Rattle.rpc_base.proofs.TablesLemmas.{at_first-found, at_first-missing}
use Rattle.node_tables.proofs.clients.begin.Goals as goal

pub returns-in_default-clause-clients : goal.returns-in_default-clause-clients
returns-in_default-clause-clients c = sym (at_first-missing _ _ _ (sym c.in_default.ensures))

pub returns-clause-clients : goal.returns-clause-clients
returns-clause-clients c =
    ap (λ x. slice_set c.args.clients.now c.in-Some.place x) c.in_ok-begin_client.ensures.client
    ∙ sym (at_first-found _ _ _ _ _ (sym c.in-Some.ensures) c.at_mut.ensures.value)
