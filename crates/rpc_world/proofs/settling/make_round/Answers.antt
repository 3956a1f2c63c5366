use Rattle.std.proofs.Common.{ap, length}
use Rattle.sim_script.specs.FollowsScript.{Carries, Times}
use Rattle.rpc_world.proofs.StageLemmas.{makes-round}
use Rattle.rpc_world.proofs.StaysLemmas.{performed-numbered, stays-carries}
use Rattle.rpc_world.proofs.settling.make_round.Goals as goal

pub returns-clause-made : goal.returns-clause-made
returns-clause-made c =
    makes-round _ _ _ _ _ _ _ _ _ c.in_ok-carry_all.ensures.performed
    c.in_ok-work_and_poll.ensures.performed
    (ap length c.facts-before.ensures) c.facts.ensures c.are_polled.ensures

pub work_and_poll-requires : goal.work_and_poll-requires
work_and_poll-requires c =
    let n = length c.args.stage.now.flight in
    record {
      numbered = performed-numbered (Times (Carries 0) n)
          (stays-carries n) _ _ _ _ c.in_ok-carry_all.ensures.performed c.requires.numbered;
    }
