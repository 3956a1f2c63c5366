-- What a run of the program did, by what its words ask for.
use Rattle.std.specs.Prelude.{◌≡◌, ◌≢◌, ℕ, List, Option, Some, None, Ok}
use Rattle.command_line.specs.declared.task.Task.{Task}
use Rattle.command_line.specs.declared.task.Task.TheVariants.{Sim, Drill, Serve, Load}
use Rattle.command_line.specs.declared.task.Task.TheVariants.{Audit}
use Rattle.command_line.specs.Words.{LoadWords, ServeWords}
use Rattle.count_line.specs.declared.audit.AuditLine.{AuditLine}
use Rattle.load_run.specs.Loading.{Loads}
use Rattle.memory_count.specs.Faults.{HasRisenBy, IsQuiet}
use Rattle.rpc_outside.specs.Reading.{Unread}
use Rattle.rpc_outside.specs.Writing.{Written}
use Rattle.rpc_tools.specs.Alone.{StartsNone, StaysAlone}
use Rattle.rpc_tools.specs.Audits.{Answers, Audits, Says}
use Rattle.rpc_tools.specs.Drills.{Drills, Succeeds as DrillSucceeds}
use Rattle.rpc_tools.specs.Outcomes.{NothingDone, Simulates, Succeeds, Unmoved}
use Rattle.rpc_tools.specs.Servers.{Serves}
use Rattle.rpc_turns.specs.Moments.{Edges, Outside}
use Rattle.run_status.specs.declared.status.Status.{Status}
use Rattle.run_status.specs.declared.status.Status.TheVariants.{NoMemory, Usage}
use Rattle.run_status.specs.Words.{lacks}
use Rattle.script_grammar.specs.declared.line.Line.{Line}
use Rattle.script_grammar.specs.Script.{script_of}

-- what is around a run: what its source has left and its sink has written, its link, clock and
-- recorder, its spawner, and how often memory was refused
pub record Around (L C R P : Type 0) : Type 0 where
  pub input : Unread
  pub page : Written
  pub edges : Edges L C R
  pub spawner : P
  pub memory : ℕ

abbrev pub around : {L C R P : Type 0} → Unread → Written → Edges L C R → P → ℕ → Around L C R P
around input page edges spawner memory = record {
  input = input;
  page = page;
  edges = edges;
  spawner = spawner;
  memory = memory;
}

-- what a run ended with and left, where its words ask for this
pub record Runs {L C R P : Type 0} (o : Outside L C R) (asked : Option Task) (told : Status)
    (old new : Around L C R P) : Type 0 where
  pub starts_none : StartsNone asked old.spawner new.spawner
  pub usage : told ≡ Usage → asked ≡ None
  pub no_task : asked ≡ None → IsQuiet old.memory new.memory → told ≡ Usage
  pub cause : HasRisenBy (lacks told) old.memory new.memory
  pub refuses : told ≡ Usage → NothingDone old.input new.input old.page new.page
  pub simulates : asked ≡ Some Sim → Simulates told old.input new.input old.page new.page
  pub headline : (bytes : List ℕ) (script : List Line) → asked ≡ Some Sim
      → old.input.left ≡ Some bytes → script_of bytes ≡ Ok script
      → IsQuiet old.input.faults new.input.faults → IsQuiet old.page.faults new.page.faults
      → IsQuiet old.memory new.memory → Succeeds script told new.input old.page new.page
  pub drills : (seed calls : ℕ) → asked ≡ Some (Drill seed calls)
      → Drills told seed calls old.page new.page
  pub audits : asked ≡ Some Audit → Audits told old.input new.input old.page new.page
  pub answers : (bytes : List ℕ) (line : AuditLine) → asked ≡ Some Audit
      → old.input.left ≡ Some bytes → Says bytes line
      → IsQuiet old.input.faults new.input.faults → IsQuiet old.page.faults new.page.faults
      → told ≢ NoMemory → Answers line told new.input old.page new.page
  pub reads_nothing : asked ≢ Some Sim → asked ≢ Some Audit → Unmoved old.input new.input
  pub serves : (words : ServeWords) → asked ≡ Some (Serve words)
      → Serves told o words old.edges new.edges old.page new.page
  pub loads : (words : LoadWords) → asked ≡ Some (Load words)
      → Loads told o words old.edges new.edges old.page new.page
  pub alone : StaysAlone asked old.edges.link new.edges.link old.edges.clock new.edges.clock
      old.edges.rec new.edges.rec
  pub drilled : (seed calls : ℕ) → asked ≡ Some (Drill seed calls)
      → IsQuiet old.page.faults new.page.faults → IsQuiet old.memory new.memory
      → DrillSucceeds told seed calls old.page new.page
