use Rattle.std.proofs.Common.{◌<◌, length, arith}
use Rattle.std.proofs.lemmas.List.{take_more}
use Rattle.rpc_laws.proofs.RunLemmas.{flight-append}
use Rattle.rpc_world.proofs.network.launch.Goals as goal

pub loop-fact-preserved : goal.loop-fact-preserved
loop-fact-preserved c =
    let within : c.loop-fact.fact-index < length c.args.facts.now = omega arith in (
      rw (
        take_more c.args.facts.now c.loop-fact.fact-index c.fact-item.result within,
        ← c.fact-item.is,
        flight-append,
        ← c.loop-fact.invariant.0,
      ) c.in_ok-launch_one.ensures.launched,
      omega (arith, c.in_ok-launch_one.ensures.cause, c.loop-fact.invariant.1),
    )
