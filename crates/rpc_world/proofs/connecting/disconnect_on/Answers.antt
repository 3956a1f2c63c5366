use Rattle.std.proofs.Common.{◌≡◌, ◌∙◌, ap, length}
use Rattle.rpc_laws.specs.Groups.{Disconnects}
use Rattle.rpc_world.proofs.QuietLemmas.{disconnects-still, leaving-step}
use Rattle.rpc_world.proofs.PeerSteps.{disconnects-names}
use Rattle.rpc_world.proofs.StepLemmas.{grew-facts, grew-since, stepped}
use Rattle.rpc_world.proofs.connecting.disconnect_on.Goals as goal

pub land-requires : goal.land-requires
land-requires c =
    let makes = c.disconnect-answer.ensures.call.makes in
    grew-since _ _ _ _ _ _ makes.grew (ap length c.facts-before.ensures)

pub returns-clause-performed : goal.returns-clause-performed
returns-clause-performed c =
    let is_n : c.from.result ≡ c.args.node = c.from.ensures ∙ c.node.view_is in
    let land = c.in_ok-land.ensures in
    let P = Disconnects c.args.session in
    let makes = c.disconnect-answer.ensures.call.makes in
    stepped P c.args.node c.args.stage.now _
    c.at_mut-closing.result.now _ _ _ _ _ _ c.stage.view_is (disconnects-names _ c.args.session)
    c.requires.numbered.playing
    (rw is_n at c.at_mut-closing.ensures.value)
    (leaving-step P c.args.node c.args.stage.now.worked c.at_mut-closing.result.now _ makes.noted
    c.disconnect-answer.ensures.call.leaves
    (λ s t h. disconnects-still c.args.session s makes.noted t h) makes.step)
    (grew-facts _ _ _ _ _ makes.grew land.whole) (ap length c.facts-before.ensures) (rw is_n at land.stage)
