use Rattle.std.proofs.Common.{Some, map, take}
use Rattle.rpc_base.specs.declared.event.Event.TheVariants.{DonePeerLost}
use Rattle.rpc_laws.specs.Facts.{plain}
use Rattle.rule_facts.specs.Fronts.{Fronts}
use Rattle.rule_facts.proofs.watching.calls_lost.Given as goal

abbrev pub invariant-loop-place : goal.invariant-loop-place
invariant-loop-place l =
    Fronts (map (λ c. plain l.me (DonePeerLost c.what.number)) (take l.place l.calls)) l.facts
    (Some l.place)
