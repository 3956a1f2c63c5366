use Rattle.std.proofs.Common.{add-one, arith, refl}
use Rattle.sim_script.specs.FollowsScript.{PollsFirst}
use Rattle.rpc_world.proofs.StageLemmas.{performed-none, performed-joins}
use Rattle.rpc_world.proofs.StaysLemmas.{performed-long, performed-numbered, stays-polls}
use Rattle.rpc_world.proofs.settling.poll_first.Goals as goal

pub nodes-init : goal.nodes-init
nodes-init c = (performed-none _ _ _ (refl, refl), omega arith)

pub nodes-preserved : goal.nodes-preserved
nodes-preserved c = (
  rw add-one (performed-joins _ _ _ _ _ _ _ _ c.nodes.invariant.0 c.in_ok-poll_node.ensures.performed),
  omega (arith, c.in_ok-poll_node.ensures.cause, c.nodes.invariant.1),
)

pub poll_node-requires-clause-node : goal.poll_node-requires-clause-node
poll_node-requires-clause-node c =
    let same = performed-long (PollsFirst c.nodes.i) (stays-polls c.nodes.i) _ _ _ _ c.nodes.invariant.0 in
    omega (arith, same, c.nodes-test.true, c.requires.count)

pub poll_node-requires-clause-numbered : goal.poll_node-requires-clause-numbered
poll_node-requires-clause-numbered c =
    performed-numbered (PollsFirst c.nodes.i) (stays-polls c.nodes.i) _ _ _ _ c.nodes.invariant.0 c.requires.numbered
