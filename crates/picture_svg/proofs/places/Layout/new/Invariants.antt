use Rattle.std.proofs.Common.{◌≡◌}
use Rattle.picture_svg.proofs.places.Layout.new.Given as goal

abbrev pub invariant-loop-fact : goal.invariant-loop-fact
invariant-loop-fact l = l.memory ≡ l.initial.memory
