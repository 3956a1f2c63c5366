use Rattle.std.proofs.Common.{refl, sym}
use Rattle.rpc_base.proofs.TablesLemmas.{find-missing}
use Rattle.rpc_laws.specs.ControlTable.{is_end_of}
use Rattle.node_steps.proofs.ControlEnds.{end-found}
use Rattle.node_control.proofs.control.requests.other_end.Goals as goal

pub returns-in_default : goal.returns-in_default
returns-in_default c =
    let none = find-missing (is_end_of c.args.peer c.args.client c.args.life) c.node.inside.store.servers
    (sym (rw c.in_default.is at c.place_of_end.ensures)) in
    rw (← c.node.view_is) (rw none refl)

pub returns : goal.returns
returns c =
    rw (← c.node.view_is) (end-found c.node.inside.store.servers c.args.peer c.args.client
    c.args.life c.in-Some.i c.end_of_server-end.result (rw c.in-Some.is at c.place_of_end.ensures)
    c.end_of_server-end.ensures)
