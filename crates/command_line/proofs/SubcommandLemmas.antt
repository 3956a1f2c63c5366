-- What the words of a subcommand ask for, by its name and by the rows of their matches.
use Rattle.std.proofs.Common.{◌≡◌, ◌∙◌, Bool, true, false, List, ◌∷◌, Option, Some, None, Result}
use Rattle.std.proofs.Common.{ap, refl, rules, subst, sym}
use Rattle.std.specs.Prelude.{if◌then◌else◌}
use Rattle.clap.specs.Words.{App, Row, Text, is_simple_and_free}
use Rattle.command_line.specs.Answers.{IsNone, Reads}
use Rattle.command_line.specs.Subcommands.{named, row_of, rows_in, words_in}
use Rattle.command_line.specs.Tasks.{audit_in, drill_in, given, load_in, serve_in, sim_in}
use Rattle.command_line.specs.Tasks.{taken, task_of}
use Rattle.command_line.specs.declared.subcommand.Subcommand.{Subcommand}
use Rattle.command_line.specs.declared.subcommand.Subcommand.TheVariants.{Sim, Drill, Serve, Load}
use Rattle.command_line.specs.declared.subcommand.Subcommand.TheVariants.{Audit}
use Rattle.command_line.specs.declared.task.Task.{Task}
use Rattle.command_line.specs.declared.task.WordsError.{WordsError}
use Rattle.command_line.specs.declared.task.WordsError.TheVariants.{Usage, NoMemory}

pub simple : (of : Subcommand) → is_simple_and_free (row_of of) ≡ true
simple Sim = search rules
simple Drill = search rules
simple Serve = search rules
simple Load = search rules
simple Audit = search rules

words-taken : (of : Subcommand) (words : List Text)
    → words_in of words ≡ given (taken (row_of of) words) (rows_in of)
unfolding sim_in drill_in serve_in load_in audit_in
words-taken Sim words = refl
words-taken Drill words = refl
words-taken Serve words = refl
words-taken Load words = refl
words-taken Audit words = refl

-- what the command takes, or refuses, is what the words ask for
words-so : (of : Subcommand) (words : List Text) (command : App) (rows : Option (List Row))
    → command ≡ row_of of → taken command words ≡ rows → words_in of words ≡ given rows (rows_in of)
words-so of words command rows called are = words-taken of words
    ∙ ap (λ (r : Option (List Row)). given r (rows_in of))
    (ap (λ (app : App). taken app words) (sym called) ∙ are)

pub refused-in : (of : Subcommand) (words : List Text) (command : App) (error : WordsError)
    → command ≡ row_of of → IsNone error (taken command words) → IsNone error (words_in of words)
refused-in of words command Usage called none = words-so of words command None called none
refused-in of words command NoMemory called none = tt

pub read-in : (of : Subcommand) (words : List Text) (command : App) (rows : List Row)
    (result : Result Task WordsError) → command ≡ row_of of → taken command words ≡ Some rows
    → Reads result (rows_in of rows) → Reads result (words_in of words)
read-in of words command rows result called are reads =
    subst (λ (said : Option Task). Reads result said)
    (sym (words-so of words command (Some rows) called are)) reads

choice : (b : Bool) (first : Subcommand) (rest : Option Subcommand)
    (said : Subcommand → Option Task)
    → given (if b then Some first else rest) said ≡ (if b then said first else given rest said)
choice true first rest said = refl
choice false first rest said = refl

task-named : (name : Text) (words : List Text)
    → task_of (name ∷ words) ≡ given (named name) (λ of. words_in of words)
unfolding task_of named
task-named name words = simp choice

task-so : (words : List Text) (name : Text) (rest : List Text) (of : Option Subcommand)
    → words ≡ name ∷ rest → named name ≡ of → task_of words ≡ given of (λ of. words_in of rest)
task-so words name rest of are is = ap task_of are ∙ task-named name rest
    ∙ ap (λ (o : Option Subcommand). given o (λ of. words_in of rest)) is

pub task-none : (words : List Text) (name : Text) (rest : List Text) → words ≡ name ∷ rest
    → named name ≡ None → task_of words ≡ None
task-none words name rest are none = task-so words name rest None are none

pub task-read : (words : List Text) (name : Text) (rest : List Text) (of : Subcommand)
    (result : Result Task WordsError) → words ≡ name ∷ rest → named name ≡ Some of
    → Reads result (words_in of rest) → Reads result (task_of words)
task-read words name rest of result are is reads =
    subst (λ (said : Option Task). Reads result said)
    (sym (task-so words name rest (Some of) are is)) reads
