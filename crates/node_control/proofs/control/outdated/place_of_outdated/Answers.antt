use Rattle.std.proofs.Common.{◌≡◌, ◌≤◌, ap, ◌∙◌, arith}
use Rattle.std.specs.Prelude.{position}
use Rattle.packet_header.specs.declared.packet.ControlHeader.{ControlHeader}
use Rattle.packet_header.specs.declared.packet.ControlKind.TheVariants.{ConnectRequest}
use Rattle.rpc_laws.specs.ControlTable.{is_older}
use Rattle.rpc_laws.specs.Lives.{known_life}
use Rattle.node_steps.specs.Handed.{Holding}
use Rattle.node_steps.proofs.ControlEnds.{outdated-found, outdated-missing}
use Rattle.node_control.proofs.control.outdated.place_of_outdated.Goals as goal

kind : (c : goal.After-place_of_older) → c.args.head.now.kind ≡ ConnectRequest
kind c = c.in-ConnectRequest.is

known : (c : goal.After-place_of_older)
    → known_life c.args.peer c.args.node.now.lists.known ≤ c.args.head.now.from_life
known c = omega (
  arith,
  c.if-head-of.false,
  c.of-2.view_is,
  c.of.ensures,
  ap (λ (n : Holding). known_life c.args.peer n.lists.known) c.node.view_is,
  ap (λ (h : ControlHeader). h.from_life) c.head.view_is,
)

place : (c : goal.After-place_of_older) → c.place_of_older.result
    ≡ position (is_older c.args.peer c.args.head.now.from_life) c.args.node.now.lists.servers
place c =
    c.place_of_older.ensures
    ∙ ap (λ (h : ControlHeader). position (is_older c.args.peer h.from_life)
    c.node.inside.store.servers) c.head.view_is
    ∙ ap (λ (n : Holding). position (is_older c.args.peer c.args.head.now.from_life)
    n.lists.servers) c.node.view_is

pub returns-clause-found : goal.returns-clause-found
returns-clause-found c =
    outdated-found c.args.peer c.args.head.now c.args.node.now.lists (kind c) (known c)
    c.place_of_older.result (place c)

pub returns-clause-missing : goal.returns-clause-missing
returns-clause-missing c =
    outdated-missing c.args.peer c.args.head.now c.args.node.now.lists (kind c) (known c)
    c.place_of_older.result (place c)
