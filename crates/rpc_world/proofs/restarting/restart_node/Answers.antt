use Rattle.std.proofs.Common.{◌≡◌, ◌∙◌, ap, length, refl}
use Rattle.rpc_world.proofs.RestartLemmas.{anew-at, restarts-node}
use Rattle.rpc_world.proofs.StepLemmas.{grew-facts, grew-since}
use Rattle.rpc_world.proofs.restarting.restart_node.Goals as goal

pub life_behind-life-requires : goal.life_behind-life-requires
life_behind-life-requires c =
    let can = anew-at _ _ _ _ c.stage.view_is c.requires.anew c.at-old.ensures in
    rw c.life.ensures.life can.life

pub land-requires : goal.land-requires
land-requires c = grew-since _ _ _ _ _ _ c.note.ensures (ap length c.facts-before.ensures)

pub returns-clause-performed : goal.returns-clause-performed
returns-clause-performed c =
    let is_n : c.from-place.result ≡ c.args.node = c.from-place.ensures ∙ c.node.view_is in
    let land = c.in_ok-land.ensures in
    restarts-node c.args.node c.life_behind-life.result c.limits-limits.result _ c.args.stage.now
    c.at-old.result.now c.in_ok-made.made _ _ _ _ c.stage.view_is c.requires.numbered
    (rw is_n at c.at-old.ensures) (c.life_behind-life.ensures ∙ rw c.life.ensures.life refl)
    c.limits-limits.ensures c.in_ok-made.ensures.made
    (grew-facts _ _ _ _ _ (rw c.life-2.view_is at c.note.ensures) land.whole)
    (ap length c.facts-before.ensures) (rw (c.set.ensures, is_n) at land.stage)
