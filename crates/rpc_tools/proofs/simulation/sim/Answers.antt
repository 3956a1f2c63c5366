use Rattle.std.proofs.Common.{refl}
use Rattle.std.proofs.KnownBytes.{Keeps-refl}
use Rattle.rpc_tools.proofs.Headline.{headline}
use Rattle.rpc_tools.proofs.ReadingLemmas.{refused-too_long}
use Rattle.rpc_tools.proofs.simulation.sim.Goals as goal

pub returns-in-TooLong-clause-simulates : goal.returns-in-TooLong-clause-simulates
returns-in-TooLong-clause-simulates g c = record {
  quiet = c.in-TooLong.ensures.gives.0;
  refused = refused-too_long _ c.in-TooLong.ensures.gives.1;
  sink = record { kept = Keeps-refl _; quiet = refl };
}

pub returns-in-TooLong-clause-headline : goal.returns-in-TooLong-clause-headline
returns-in-TooLong-clause-headline g c = λ bytes script left is source sink memory.
    headline _ bytes script _ _ _ _ (returns-in-TooLong-clause-simulates g c) left is source
    sink _ _ c.in-TooLong.ensures.cause memory
