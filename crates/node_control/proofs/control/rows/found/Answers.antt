use Rattle.std.proofs.Common.{◌≡◌, ap, ◌∙◌}
use Rattle.std.specs.Prelude.{is_some}
use Rattle.rpc_laws.specs.ControlTable.{named_end}
use Rattle.rpc_laws.specs.Lives.{known_life}
use Rattle.node_steps.specs.Handed.{Holding}
use Rattle.node_steps.proofs.ControlEnds.{found-as, named-found}
use Rattle.node_control.proofs.control.rows.found.Goals as goal

pub returns : goal.returns
returns c =
    let s = c.args.node.now.lists in
    let h = c.args.head.now in
    let own = named_end c.args.peer h.client h.from_life h.server s.servers in
    let named : is_some c.place_of_named.result ≡ is_some own =
    named-found s.servers c.place_of_named.result own c.place_of_named.ensures.found
    c.place_of_named.ensures.missing in
    found-as c.args.peer h s _ _ _ _ _ _ _ _ c.other_end.ensures (c.is_some.ensures ∙ named)
    c.own_end.ensures (ap (λ (n : Holding). n.lists.life) c.node.view_is)
    (c.of.ensures ∙ ap (λ (n : Holding). known_life c.args.peer n.lists.known) c.node.view_is)
    (ap (λ (n : Holding). n.lists.server_numbers) c.node.view_is)
    c.shares.ensures.shares
    (c.size.ensures.size ∙ ap (λ (n : Holding). n.lists.room) c.node.view_is)
