use Rattle.std.proofs.Common.{refl}
use Rattle.rpc_base.proofs.PlaceLemmas.{all-at}
use Rattle.session_ends.specs.Sides.{SideKept}
use Rattle.session_ends.proofs.ListLemmas.{get-there}
use Rattle.session_ends.proofs.side.sent_at.Goals as goal

pub sent-requires : goal.sent-requires
sent-requires c =
    let side = c.index_mut-side.result.now in
    record {
      keeps_pool = all-at (SideKept c.args.pool.now) c.args.sides.now.items c.args.i side
          c.requires.keeps (get-there c.args.sides.now.items c.args.i side c.requires.known
          c.index_mut-side.ensures.value);
      held = c.requires.held;
    }

pub returns-clause-sends : goal.returns-clause-sends
returns-clause-sends c = record {
  side = c.index_mut-side.result.now;
  at = get-there c.args.sides.now.items c.args.i c.index_mut-side.result.now c.requires.known
      c.index_mut-side.ensures.value;
  later = c.sent.new.self;
  step = c.sent.ensures;
  changed = refl;
}
