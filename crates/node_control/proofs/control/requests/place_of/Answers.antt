use Rattle.std.proofs.Common.{◌≤◌, sym, ap, ◌∙◌, arith}
use Rattle.std.specs.Prelude.{count_by}
use Rattle.rpc_base.proofs.TablesLemmas.{find-missing}
use Rattle.rpc_laws.specs.Requests.{is_server}
use Rattle.session_ends.specs.declared.server.ServerEnd.{ServerEnd}
use Rattle.node_steps.proofs.ControlEnds.{ends-here, named-missing, other-client, other-life}
use Rattle.node_steps.proofs.ControlEnds.{other-peer}
use Rattle.node_control.proofs.control.requests.place_of.Goals as goal

pub returns-in_err-i-clause-missing : goal.returns-in_err-i-clause-missing
returns-in_err-i-clause-missing g c =
    let servers = g.node.inside.store.servers in
    let alone : count_by (is_server g.args.server) servers ≤ 1 =
    omega (arith, g.node.invariant.0.kept.valid.alone g.args.server) in
    let none = find-missing (is_server g.args.server) servers
    (sym (sym g.in_err-i.was ∙ g.place_of_server.ensures)) in
    rw (← g.node.view_is) (named-missing servers g.args.server g.args.peer g.args.client g.args.life alone none)

pub returns-then-end-peer-clause-missing : goal.returns-then-end-peer-clause-missing
returns-then-end-peer-clause-missing g c =
    let servers = g.node.inside.store.servers in
    let alone : count_by (is_server g.args.server) servers ≤ 1 =
    omega (arith, g.node.invariant.0.kept.valid.alone g.args.server) in
    rw (← g.node.view_is) (other-peer servers g.args.server g.args.peer g.args.client g.args.life alone
    g.in_ok-i.i (sym g.in_ok-i.was ∙ g.place_of_server.ensures) g.end_of_server-end.result
    g.end_of_server-end.ensures
    (λ same. g.if-end-peer.true (ap (λ (e : ServerEnd). e.peer) g.end.view_is ∙ same
    ∙ sym g.peer.view_is)))

pub returns-then-end-client-clause-missing : goal.returns-then-end-client-clause-missing
returns-then-end-client-clause-missing g c =
    let servers = g.node.inside.store.servers in
    let alone : count_by (is_server g.args.server) servers ≤ 1 =
    omega (arith, g.node.invariant.0.kept.valid.alone g.args.server) in
    rw (← g.node.view_is) (other-client servers g.args.server g.args.peer g.args.client g.args.life alone
    g.in_ok-i.i (sym g.in_ok-i.was ∙ g.place_of_server.ensures) g.end_of_server-end.result
    g.end_of_server-end.ensures
    (λ same. g.if-end-client.true (ap (λ (e : ServerEnd). e.client) g.end.view_is ∙ same
    ∙ sym g.client.view_is)))

pub returns-then-end-life-clause-missing : goal.returns-then-end-life-clause-missing
returns-then-end-life-clause-missing g c =
    let servers = g.node.inside.store.servers in
    let alone : count_by (is_server g.args.server) servers ≤ 1 =
    omega (arith, g.node.invariant.0.kept.valid.alone g.args.server) in
    rw (← g.node.view_is) (other-life servers g.args.server g.args.peer g.args.client g.args.life
    alone g.in_ok-i.i (sym g.in_ok-i.was ∙ g.place_of_server.ensures) g.end_of_server-end.result
    g.end_of_server-end.ensures
    (λ same. g.if-end-life.true (ap (λ (e : ServerEnd). e.life) g.end.view_is ∙ same
    ∙ sym g.life.view_is)))

pub returns-clause-found : goal.returns-clause-found
returns-clause-found g =
    let servers = g.node.inside.store.servers in
    let alone : count_by (is_server g.args.server) servers ≤ 1 =
    omega (arith, g.node.invariant.0.kept.valid.alone g.args.server) in
    rw (← g.node.view_is) (ends-here servers g.args.server g.args.peer g.args.client g.args.life alone
    g.in_ok-i.i (sym g.in_ok-i.was ∙ g.place_of_server.ensures) g.end_of_server-end.result
    g.end_of_server-end.ensures
    (ap (λ (e : ServerEnd). e.peer) (sym g.end.view_is) ∙ g.if-end-peer.false ∙ g.peer.view_is)
    (ap (λ (e : ServerEnd). e.client) (sym g.end.view_is) ∙ g.if-end-client.false
    ∙ g.client.view_is)
    (ap (λ (e : ServerEnd). e.life) (sym g.end.view_is) ∙ g.if-end-life.false ∙ g.life.view_is))
