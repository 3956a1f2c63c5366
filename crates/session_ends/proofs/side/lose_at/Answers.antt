use Rattle.std.proofs.Common.{refl}
use Rattle.session_ends.proofs.ListLemmas.{get-there}
use Rattle.session_ends.proofs.side.lose_at.Goals as goal

pub returns-clause-loses : goal.returns-clause-loses
returns-clause-loses c = record {
  side = c.index_mut-side.result.now;
  at = get-there c.args.sides.now.items c.args.i c.index_mut-side.result.now c.requires.known
      c.index_mut-side.ensures.value;
  later = c.lose.new.self;
  step = c.lose.ensures;
  changed = refl;
}
