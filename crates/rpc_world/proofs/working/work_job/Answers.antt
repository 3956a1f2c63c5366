use Rattle.std.proofs.Common.{◌≡◌, ◌∙◌, ap, length}
use Rattle.rpc_laws.specs.Working.{Works}
use Rattle.rpc_world.proofs.PeerSteps.{works-names}
use Rattle.rpc_world.proofs.StepLemmas.{grew-facts, stepped}
use Rattle.rpc_world.proofs.WorkingLemmas.{one-worked}
use Rattle.rpc_world.proofs.working.work_job.Goals as goal

pub returns-clause-performed : goal.returns-clause-performed
returns-clause-performed c =
    let is_n : c.from.result ≡ c.args.node = c.from.ensures ∙ c.node.view_is in
    let land = c.in_ok-land.ensures in
    let named = c.work-named.ensures in
    stepped (Works c.args.stage.now.worked c.args.job) c.args.node c.args.stage.now _
    c.at_mut-working.result.now _ _ _ _ _ _ c.stage.view_is (works-names _ c.args.stage.now.worked c.args.job)
    c.requires.numbered.playing
    (rw is_n at c.at_mut-working.ensures.value)
    (λ p. one-worked c.args.node c.args.job c.args.stage.now.worked c.at_mut-working.result.now
    c.work-named.new.self c.work-named.result c.sound.ensures.kept (rw c.workers.ensures.value at named.none)
    (rw c.workers.ensures.value at named.unchanged) (rw c.workers.ensures.value at named.worked) p)
    (grew-facts _ _ _ _ _ c.note_work.ensures land.whole)
    (ap length c.facts-before.ensures) (rw is_n at land.stage)
