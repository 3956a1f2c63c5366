use Rattle.std.proofs.Common.{◌≡◌, ◌∙◌, ap, length}
use Rattle.rpc_laws.specs.Working.{WorksAll}
use Rattle.rpc_world.proofs.PeerSteps.{all-worked-names}
use Rattle.rpc_world.proofs.StepLemmas.{grew-facts, stepped}
use Rattle.rpc_world.proofs.WorkingLemmas.{all-worked, at-works}
use Rattle.rpc_world.proofs.working.work_node.Goals as goal

pub returns-clause-performed : goal.returns-clause-performed
returns-clause-performed c =
    let is_n : c.from.result ≡ c.args.node = c.from.ensures ∙ c.node.view_is in
    let land = c.in_ok-land.ensures in
    at-works _ _ _ _ _ (stepped (WorksAll c.args.stage.now.worked) c.args.node c.args.stage.now _
    c.at_mut-working.result.now _ _ _ _ _ _ c.stage.view_is (all-worked-names _ c.args.stage.now.worked)
    c.requires.numbered.playing
    (rw is_n at c.at_mut-working.ensures.value)
    (all-worked c.args.node c.args.stage.now.worked c.at_mut-working.result.now _ _ _
    c.work_all.ensures) (grew-facts _ _ _ _ _ c.work_all.ensures.grew land.whole)
    (ap length c.facts-before.ensures) (rw is_n at land.stage))
