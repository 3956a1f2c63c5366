use Rattle.std.proofs.Common.{rules, refl, ◌+◌}
use Rattle.shared_pool.proofs.TriesLemmas.{missed_more, all_tried}
use Rattle.shared_pool.proofs.pool.SharedPool.borrow_any.Goals as goal

pub loop-k-preserved : goal.loop-k-preserved
loop-k-preserved c = (
  search rules,
  missed_more c.args.self.now.places c.args.start c.loop-k.k _ (c.loop-k.k + 1) _ _ _ refl (search rules)
      c.loop-k.invariant.1 (search rules),
)

pub returns-clause-all : goal.returns-clause-all
returns-clause-all c = let m = c.loop-k.invariant.1 in (
  m.0,
  all_tried c.args.self.now.places c.args.start m.0 c.requires.start (search rules),
  m.2,
)
