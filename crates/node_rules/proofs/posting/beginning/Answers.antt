use Rattle.std.proofs.Common.{sym, ◌∙◌, refl}
use Rattle.rpc_base.proofs.TablesLemmas.{find-found, find-missing}
use Rattle.rpc_laws.specs.Calls.{is_waiting}
use Rattle.node_rules.proofs.posting.beginning.Goals as goal

pub returns-in_default : goal.returns-in_default
returns-in_default c = rw (find-missing is_waiting c.args.client.now.calls (sym c.in_default.ensures)) refl

pub returns : goal.returns
returns c =
    rw (find-found is_waiting c.args.client.now.calls c.in-Some.place (sym c.in-Some.ensures) ∙ c.at.ensures)
    c.beginning_as.ensures
