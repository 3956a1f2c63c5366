use Rattle.std.proofs.Common.{refl}
use Rattle.session_ends.proofs.ListLemmas.{get-there}
use Rattle.session_ends.proofs.side.post_at.Goals as goal

pub returns-clause-posts : goal.returns-clause-posts
returns-clause-posts c = record {
  side = c.index_mut-side.result.now;
  at = get-there c.args.sides.now.items c.args.i c.index_mut-side.result.now c.requires.known
      c.index_mut-side.ensures.value;
  later = c.post.new.self;
  step = c.post.ensures;
  changed = refl;
}
