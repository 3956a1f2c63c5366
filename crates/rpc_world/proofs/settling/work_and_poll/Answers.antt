use Rattle.std.proofs.Common.{◌≡◌, length, rules}
use Rattle.sim_script.specs.FollowsScript.{WorksFirst}
use Rattle.rpc_world.proofs.StageLemmas.{performed-joins}
use Rattle.rpc_world.proofs.StaysLemmas.{performed-numbered, stays-works}
use Rattle.rpc_world.proofs.settling.work_and_poll.Goals as goal

pub returns-clause-performed : goal.returns-clause-performed
returns-clause-performed c =
    let n : c.len-count.result ≡ length c.args.stage.now.ends = search rules in
    rw (← n) (performed-joins _ _ _ _ _ _ _ _ c.in_ok-work_first.ensures.performed
    c.in_ok-poll_first.ensures.performed)

pub poll_first-requires-clause-numbered : goal.poll_first-requires-clause-numbered
poll_first-requires-clause-numbered c =
    performed-numbered (WorksFirst _) (stays-works _) _ _ _ _ c.in_ok-work_first.ensures.performed c.requires.numbered
