use Rattle.std.proofs.Common.{sym, ap, ◌∙◌, slice_set}
use Rattle.rpc_base.proofs.TablesLemmas.{at_first-found, at_first-missing}
use Rattle.node_tables.proofs.servers.answer.Goals as goal

pub returns-in_default-clause-servers : goal.returns-in_default-clause-servers
returns-in_default-clause-servers c = sym (at_first-missing _ _ _ (sym c.in_default.ensures))

pub returns-clause-servers : goal.returns-clause-servers
returns-clause-servers c =
    ap (λ x. slice_set c.args.servers.now c.in-Some.place x) c.in_ok-answer_server.ensures.server
    ∙ sym (at_first-found _ _ _ _ _ (sym c.in-Some.ensures) c.at_mut.ensures.value)
