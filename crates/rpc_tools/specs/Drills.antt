-- What each status of a drill says of its sink and of the history that it counts.
use Rattle.std.specs.Prelude.{ℕ, ◌≡◌, Some, List, []}
use Rattle.drill_line.specs.DrillLine.{drill_line}
use Rattle.drill_maker.specs.Drill.{drill_of}
use Rattle.rpc_base.specs.declared.fact.Fact.{Fact}
use Rattle.rpc_outside.specs.Writing.{Wrote, Written, Broke}
use Rattle.run_status.specs.declared.status.Status.{Status}
use Rattle.run_status.specs.declared.status.Status.TheVariants.{Done, WriteFault, NoMemory}
use Rattle.rpc_tools.specs.Outcomes.{Reports, Untouched}
use Rattle.script_grammar.specs.declared.line.Line.{Line}

-- a sink that tells what was written, and didn't fail
abbrev pub told_page : List ℕ → Written
told_page bytes = record { written = Some bytes; faults = 0 }

-- the history that the report of a script shows, as it comes into an empty sink without a fault
pub record IsReported (script : List Line) (history : List Fact) : Type 0 where
  pub report : List ℕ
  pub reports : Reports script (told_page []) (told_page report)
  pub same : reports.history ≡ history

-- the history of a drill is that of its script
abbrev pub IsDrillHistory : (seed calls : ℕ) → List Fact → Type 0
IsDrillHistory seed calls history = IsReported (drill_of seed calls) history

-- Done: the line that counts it was written
pub record WritesLine (seed calls : ℕ) (page then_page : Written) : Type 0 where
  pub history : List Fact
  pub is_drill : IsDrillHistory seed calls history
  pub wrote : Wrote page then_page (drill_line seed calls history)

-- WriteFault: a front of it was written, and the sink failed
pub record BreaksLine (seed calls : ℕ) (page then_page : Written) : Type 0 where
  pub history : List Fact
  pub is_drill : IsDrillHistory seed calls history
  pub broke : Broke page then_page (drill_line seed calls history)

-- what a drill may end with, by what its sink has written
abbrev pub Drills : Status → (seed calls : ℕ) → (page then_page : Written) → Type 0
Drills Done seed calls page then_page = WritesLine seed calls page then_page
Drills WriteFault seed calls page then_page = BreaksLine seed calls page then_page
Drills NoMemory seed calls page then_page = Untouched page then_page
Drills _ seed calls page then_page = ⊥

-- a drill that met no fault, and was refused no memory: Done, and its line
pub record Succeeds (status : Status) (seed calls : ℕ) (page then_page : Written) : Type 0 where
  pub done : status ≡ Done
  pub line : WritesLine seed calls page then_page
