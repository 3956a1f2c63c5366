use Rattle.std.proofs.Common.{sym, ◌&&◌, ◌∙◌}
use Rattle.rpc_base.proofs.TablesLemmas.{find-found, find-missing}
use Rattle.rpc_laws.specs.ControlTable.{is_end_of}
use Rattle.rpc_laws.specs.Requests.{is_server}
use Rattle.node_rules.proofs.control_rule.named.Goals as goal

pub returns-in_default : goal.returns-in_default
returns-in_default c =
    sym (find-missing (λ v. is_server c.args.number v && is_end_of c.args.peer c.args.client c.args.life v)
    c.args.servers.now (sym c.in_default.ensures))

pub returns : goal.returns
returns c =
    sym (find-found (λ v. is_server c.args.number v && is_end_of c.args.peer c.args.client c.args.life v)
    c.args.servers.now c.in-Some.place (sym c.in-Some.ensures) ∙ c.at.ensures)
