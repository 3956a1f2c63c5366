use Rattle.std.proofs.Common.{sym, ◌∙◌}
use Rattle.rpc_base.proofs.TablesLemmas.{find-found, find-missing}
use Rattle.rpc_laws.specs.ControlTable.{is_older}
use Rattle.node_rules.proofs.control_rule.older.Goals as goal

pub returns-in_default : goal.returns-in_default
returns-in_default c =
    sym (find-missing (is_older c.args.peer c.args.life) c.args.servers.now (sym c.in_default.ensures))

pub returns : goal.returns
returns c =
    sym (find-found (is_older c.args.peer c.args.life) c.args.servers.now c.in-Some.place
    (sym c.in-Some.ensures) ∙ c.at.ensures)
