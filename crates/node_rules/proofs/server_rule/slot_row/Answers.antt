use Rattle.std.proofs.Common.{sym, ◌∙◌}
use Rattle.rpc_base.proofs.TablesLemmas.{find-found, find-missing}
use Rattle.rpc_laws.specs.Requests.{in_slot_of}
use Rattle.node_rules.proofs.server_rule.slot_row.Goals as goal

pub returns-in_default : goal.returns-in_default
returns-in_default c =
    rw (find-missing (in_slot_of c.args.head.now.request) c.args.slots.now (sym c.in_default.ensures))
    c.new_row.ensures

pub returns : goal.returns
returns c =
    rw (find-found (in_slot_of c.args.head.now.request) c.args.slots.now c.in-Some.place
    (sym c.in-Some.ensures) ∙ c.at.ensures)
    c.newest_row.ensures
