use Rattle.std.proofs.Common.{◌≡◌, ◌∙◌, ◌∷◌, ◌++◌, [], refl}
use Rattle.message_buffer.proofs.MadeLemmas.{as-made}
use Rattle.rpc_world.proofs.NetLemmas.{makes-node}
use Rattle.rpc_world.proofs.StepLemmas.{grew-facts}
use Rattle.rpc_world.proofs.making.make_node.Goals as goal

pub returns-clause-performed : goal.returns-clause-performed
returns-clause-performed c =
    let pushed : c.push.new.self ≡ c.stage.inside.nodes ++ c.in_ok-made.made ∷ [] =
    as-made (λ _. c.push.new.self ≡ c.stage.inside.nodes ++ c.in_ok-made.made ∷ []) c.push.result _
    c.in_ok-of.ensures.made c.push.ensures.pushed in
    rw pushed (makes-node c.args.ring _ c.in_ok-made.made
    (c.in_ok-made.ensures.made ∙ rw c.len.ensures refl)
    _ _ _ c.stage.view_is
    (grew-facts _ _ _ _ _ (rw c.len.ensures at c.note.ensures) c.in_ok-check_whole.ensures.whole))
