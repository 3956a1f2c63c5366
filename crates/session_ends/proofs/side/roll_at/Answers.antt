use Rattle.std.proofs.Common.{refl}
use Rattle.session_ends.proofs.ListLemmas.{get-there}
use Rattle.session_ends.proofs.side.roll_at.Goals as goal

pub returns-clause-rolls : goal.returns-clause-rolls
returns-clause-rolls c = record {
  side = c.index_mut-side.result.now;
  at = get-there c.args.sides.now.items c.args.i c.index_mut-side.result.now c.requires.known
      c.index_mut-side.ensures.value;
  later = c.roll.new.self;
  step = c.roll.ensures;
  changed = refl;
}
