use Rattle.std.proofs.Common.{◌∙◌, arith}
use Rattle.poll_steps.proofs.FinishLemmas.{applied-more}
use Rattle.poll_steps.proofs.finishing.apply_all.Goals as goal

pub facts-preserved : goal.facts-preserved
facts-preserved c =
    let less = c.facts-test.true in (
      omega (arith, less),
      applied-more c.args.clock c.args.lists.now c.args.facts.now c.facts.count c.fact_at.result.now c.facts.lists
          c.apply.new.lists c.fact_at.ensures c.facts.invariant.1 c.in_ok-apply.ensures.lists,
      c.in_ok-apply.ensures.cause ∙ c.facts.invariant.2,
    )
