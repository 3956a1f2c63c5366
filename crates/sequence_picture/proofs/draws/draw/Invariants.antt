use Rattle.std.proofs.Common.{◌≡◌}
use Rattle.sequence_picture.proofs.DrawLemmas.{Shows}
use Rattle.sequence_picture.proofs.draws.draw.Given as goal

abbrev pub invariant-loop-place : goal.invariant-loop-place
invariant-loop-place l =
    Shows l.facts l.place l.tracks l.drawn × (l.memory ≡ l.initial.memory)
