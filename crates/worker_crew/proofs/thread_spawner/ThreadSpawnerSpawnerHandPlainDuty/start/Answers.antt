use Rattle.std.proofs.Common.{sym, ap, ◌∙◌, map, subst, Result}
use Rattle.rpc_outside.specs.declared.plain.service.PlainDuty.{PlainDuty}
use Rattle.worker_crew.specs.declared.hand.Hand.{Hand}
use Rattle.worker_crew.specs.Hands.{name_of}
use Rattle.worker_crew.specs.Launching.{child_name}
use Rattle.worker_crew.specs.Spawning.{Started}
use Rattle.worker_crew.proofs.thread_spawner.ThreadSpawnerSpawnerHandPlainDuty.start.Goals as goal

pub returns-in-Err : goal.returns-in-Err
returns-in-Err g c =
    subst (λ (r : Result (Unit {0}) (Hand PlainDuty)). Started name_of (name_of c.args.hand)
    c.args.self.now.refused c.refuse-in-Err.new.self.refused
    (map child_name c.args.self.now.children.items)
    (map child_name c.refuse-in-Err.new.self.children.items) r)
    (sym c.refuse-in-Err.ensures.handed_back) (
      c.args.self.now.back _ _ c.call.ensures _ c.in-Err.is,
      ap (λ v. map child_name v.items) c.refuse-in-Err.ensures.out
          ∙ ap (map child_name) c.try_reserve.ensures.items,
      c.refuse-in-Err.ensures.counted,
    )
