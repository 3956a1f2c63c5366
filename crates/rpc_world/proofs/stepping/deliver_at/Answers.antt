use Rattle.std.proofs.Common.{◌≡◌, ◌∙◌, ap, length}
use Rattle.rpc_laws.specs.Deliveries.{Delivers}
use Rattle.rpc_world.proofs.PeerSteps.{delivers-names}
use Rattle.rpc_world.proofs.QuietLemmas.{delivers-still, leaving-step}
use Rattle.rpc_world.proofs.StepLemmas.{grew-facts, stepped}
use Rattle.rpc_world.proofs.stepping.deliver_at.Goals as goal

pub returns-clause-performed : goal.returns-clause-performed
returns-clause-performed c =
    let is_n : c.from.result ≡ c.args.node = c.from.ensures ∙ c.node.view_is in
    let land = c.in_ok-land.ensures in
    let P = Delivers c.args.sender c.args.bytes.now in
    let makes = rw c.sender.view_is at c.deliver.ensures.call.makes in
    stepped P c.args.node c.args.stage.now _
    c.at_mut-receiver.result.now _ _ _ _ _ _ c.stage.view_is
    (delivers-names _ c.args.sender c.args.bytes.now c.requires.sender) c.requires.numbered.playing
    (rw is_n at c.at_mut-receiver.ensures.value)
    (leaving-step P c.args.node c.args.stage.now.worked c.at_mut-receiver.result.now _ makes.noted
    c.deliver.ensures.call.leaves (λ s t h. delivers-still c.args.sender c.args.bytes.now s makes.noted t h) makes.step)
    (grew-facts _ _ _ _ _ makes.grew land.whole) (ap length c.facts-before.ensures) (rw is_n at land.stage)
