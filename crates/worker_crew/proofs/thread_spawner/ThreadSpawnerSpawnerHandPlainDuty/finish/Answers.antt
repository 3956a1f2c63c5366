use Rattle.std.proofs.Common.{refl, sym, ap, ◌∙◌, map, ◌++◌, ◌∷◌, []}
use mathlib.Core.List.{map-append}
use Rattle.std.proofs.lemmas.List.{append-nil}
use Rattle.worker_crew.specs.Hands.{HandName}
use Rattle.worker_crew.specs.Launching.{child_name}
use Rattle.worker_crew.proofs.thread_spawner.ThreadSpawnerSpawnerHandPlainDuty.finish.Goals as goal

pub returns : goal.returns
returns g c = (
  (
    map child_name c.pop.new.self.items,
    [],
    ap (map child_name) c.in_ok-child.ensures.items
        ∙ map-append child_name c.pop.new.self.items (c.in_ok-child.child ∷ [])
        ∙ ap (λ (n : HandName). map child_name c.pop.new.self.items ++ n ∷ []) (sym c.join.ensures),
    sym (append-nil (map child_name c.pop.new.self.items)),
  ),
  refl,
)
