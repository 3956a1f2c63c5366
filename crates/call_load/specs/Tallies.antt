-- The calls that were asked, by how they ended.
use Rattle.std.specs.Prelude.{ℕ}
use Rattle.call_load.specs.declared.tally.Ending.{Ending}
use Rattle.call_load.specs.declared.tally.Ending.TheVariants.{Right, Wrong, Small, Lost}
use Rattle.call_load.specs.declared.tally.Tally.{Tally}

-- how many calls ended so
abbrev pub ended_so : Ending → Tally → ℕ
ended_so Right t = t.right
ended_so Wrong t = t.wrong
ended_so Small t = t.small
ended_so Lost t = t.lost
