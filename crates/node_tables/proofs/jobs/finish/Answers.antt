use Rattle.std.proofs.Common.{sym, ◌∙◌}
use Rattle.rpc_base.proofs.TablesLemmas.{without_first-found, without_first-missing}
use Rattle.node_tables.proofs.jobs.finish.Goals as goal

pub returns-in-Some : goal.returns-in-Some
returns-in-Some c = c.remove_at.ensures.list ∙ sym (without_first-found _ _ _ (sym c.in-Some.ensures))

pub returns-in_default : goal.returns-in_default
returns-in_default c = sym (without_first-missing _ _ (sym c.in_default.ensures))
