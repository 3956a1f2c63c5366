use Rattle.std.proofs.Common.{◌<◌, length, arith}
use Rattle.packet_rings.proofs.TurningLemmas.{turn-step}
use Rattle.packet_rings.proofs.turning.turn_by.Goals as goal

pub loop-i-preserved : goal.loop-i-preserved
loop-i-preserved c =
    let within : c.loop-i._i < length c.args.entries.now.items = omega arith in
    turn-step _ _ _ _ c.loop-i.invariant c.turn.ensures within
