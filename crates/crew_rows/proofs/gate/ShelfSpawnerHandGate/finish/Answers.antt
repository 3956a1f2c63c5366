use Rattle.std.proofs.Common.{refl, sym, ap, ◌∙◌, map, []}
use mathlib.Core.List.{map-append}
use Rattle.std.proofs.lemmas.List.{append-nil}
use Rattle.worker_crew.specs.Hands.{name_of}
use Rattle.worker_crew.specs.declared.hand.Hand.{Hand}
use Rattle.crew_rows.specs.declared.gate.Gate.{Gate}
use Rattle.crew_rows.proofs.gate.ShelfSpawnerHandGate.finish.Goals as goal

pub returns : goal.returns
returns c = let name : Hand Gate → _ = λ h. name_of h in (
  (
    map name c.pop.new.self.items,
    [],
    ap (map name) c.in_ok-hand.ensures.items ∙ map-append name c.pop.new.self.items _,
    sym (append-nil (map name c.pop.new.self.items)),
  ),
  refl,
)
