use Rattle.std.proofs.Common.{refl}
use Rattle.session_ends.proofs.ListLemmas.{get-there}
use Rattle.session_ends.proofs.side.heard_at.Goals as goal

pub returns-clause-replies : goal.returns-clause-replies
returns-clause-replies c = record {
  side = c.index_mut-side.result.now;
  at = get-there c.args.sides.now.items c.args.i c.index_mut-side.result.now c.requires.known
      c.index_mut-side.ensures.value;
  later = c.on_reply.new.self;
  step = c.on_reply.ensures;
  changed = refl;
}
