use Rattle.std.proofs.Common.{◌<◌, length, arith}
use Rattle.std.proofs.lemmas.List.{take_more}
use Rattle.work_laws.proofs.HistoryLemmas.{worked-append}
use Rattle.rpc_world.proofs.finished.keep.Goals as goal

pub loop-fact-preserved : goal.loop-fact-preserved
loop-fact-preserved c =
    let within : c.loop-fact.fact-index < length c.args.facts.now = omega arith in (
      rw (
        take_more c.args.facts.now c.loop-fact.fact-index c.fact-item.result within,
        ← c.fact-item.is,
        worked-append,
        ← c.loop-fact.invariant.0,
      ) c.in_ok-keep_one.ensures.kept,
      omega (arith, c.in_ok-keep_one.ensures.cause, c.loop-fact.invariant.1),
    )
