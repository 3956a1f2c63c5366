use Rattle.std.proofs.Common.{arith}
use Rattle.rpc_world.proofs.StageLemmas.{goes-none, goes-more, settles-quiet, settles-all}
use Rattle.rpc_world.proofs.settling.settle.Goals as goal

pub rounds-init : goal.rounds-init
rounds-init c = (goes-none _ _ _, omega arith)

pub rounds-preserved : goal.rounds-preserved
rounds-preserved c = (
  goes-more _ _ _ _ _ _ _ _ _ c.rounds.invariant.0 c.if-branch.false c.in_ok-make_round.ensures.made,
  omega (arith, c.in_ok-make_round.ensures.cause, c.rounds.invariant.1),
)

pub returns-then-branch-clause-performed : goal.returns-then-branch-clause-performed
returns-then-branch-clause-performed c =
    settles-quiet _ _ _ _ _ _ _ _ _ c.rounds-test.true c.rounds.invariant.0 c.if-branch.true
    c.in_ok-make_round.ensures.made

pub returns-clause-performed : goal.returns-clause-performed
returns-clause-performed c = settles-all _ _ _ _ _ _ (omega arith) c.rounds.invariant.0

pub make_round-requires : goal.make_round-requires
make_round-requires c = record { numbered = c.rounds.invariant.0.numbered c.requires.numbered }
