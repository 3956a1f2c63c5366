use Rattle.std.proofs.Common.{sym, ◌∙◌, refl}
use Rattle.rpc_base.proofs.TablesLemmas.{find-found, find-missing}
use Rattle.rpc_laws.specs.ControlTable.{is_end_of}
use Rattle.node_rules.proofs.control_rule.confirm_row.Goals as goal

pub returns-in_default : goal.returns-in_default
returns-in_default c =
    rw (find-missing (is_end_of c.args.peer c.args.head.now.client c.args.head.now.from_life)
    c.args.lists.now.servers (sym c.in_default.ensures))
    c.new_session_row.ensures

pub returns : goal.returns
returns c =
    rw (find-found (is_end_of c.args.peer c.args.head.now.client c.args.head.now.from_life)
    c.args.lists.now.servers c.in-Some.place (sym c.in-Some.ensures) ∙ c.at-server.ensures)
    refl
