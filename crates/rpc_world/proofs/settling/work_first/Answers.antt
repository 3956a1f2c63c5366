use Rattle.std.proofs.Common.{add-one, arith, refl}
use Rattle.sim_script.specs.FollowsScript.{WorksFirst}
use Rattle.rpc_world.proofs.StageLemmas.{performed-none, performed-joins}
use Rattle.rpc_world.proofs.StaysLemmas.{performed-long, performed-numbered, stays-works}
use Rattle.rpc_world.proofs.settling.work_first.Goals as goal

pub workers-init : goal.workers-init
workers-init c = (performed-none _ _ _ (refl, refl), omega arith)

pub workers-preserved : goal.workers-preserved
workers-preserved c = (
  rw add-one (performed-joins _ _ _ _ _ _ _ _ c.workers.invariant.0 c.in_ok-work_node.ensures.performed),
  omega (arith, c.in_ok-work_node.ensures.cause, c.workers.invariant.1),
)

pub work_node-requires-clause-node : goal.work_node-requires-clause-node
work_node-requires-clause-node c =
    let same = performed-long (WorksFirst c.workers.i) (stays-works c.workers.i) _ _ _ _ c.workers.invariant.0 in
    omega (arith, same, c.workers-test.true, c.requires.count)

pub work_node-requires-clause-numbered : goal.work_node-requires-clause-numbered
work_node-requires-clause-numbered c =
    performed-numbered (WorksFirst c.workers.i)
    (stays-works c.workers.i) _ _ _ _ c.workers.invariant.0 c.requires.numbered
