use Rattle.std.proofs.Common.{◌≡◌, ◌++◌, map, take}
use Rattle.sequence_picture.specs.Drawing.{flying}
use Rattle.sequence_picture.proofs.draws.show_flying.Given as goal

abbrev pub invariant-loop-track : goal.invariant-loop-track
invariant-loop-track l =
    (l.drawn ≡ l.initial.drawn ++ map flying (take l.track-index l.tracks))
    × (l.memory ≡ l.initial.memory)
