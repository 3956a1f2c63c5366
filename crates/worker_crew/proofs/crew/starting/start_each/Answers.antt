use Rattle.std.proofs.Common.{rules, arith, ◌++◌, subst, List}
use Rattle.worker_crew.specs.Crews.{names}
use Rattle.worker_crew.specs.Hands.{name_of}
use Rattle.worker_crew.specs.Starting.{Shared}
use Rattle.worker_crew.specs.declared.hand.Hand.{Hand}
use Rattle.worker_crew.proofs.OutLemmas.{one-shared}
use Rattle.worker_crew.proofs.crew.starting.start_each.Goals as goal

pub loop-hand-preserved : goal.loop-hand-preserved
loop-hand-preserved g c =
    let left = subst (λ (l : List (Hand g.row.D.Denot)). Shared (names c.args.made.items)
    (g.P.Spawner.hands_out c.loop-hand.spawner) (names c.loop-hand.kept.items ++ names l))
    c.in-Some.ensures.items c.loop-hand.invariant.0 in (
      one-shared (names c.loop-hand.kept.items) (name_of c.in-Some.hand)
          (names c.pop_front.new.self.items) left c.in_default-start.ensures.0,
      search rules,
      omega arith,
    )
