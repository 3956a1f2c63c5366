-- The subcommands: their names, the command that takes the words of each, and what these ask for.
use Rattle.std.specs.Prelude.{List, Option, Some, None, codes, if◌then◌else◌}
use Rattle.std.specs.Str.{bytes_eq}
use Rattle.clap.specs.Words.{App, Row, Text}
use Rattle.command_line.specs.declared.subcommand.Subcommand.{Subcommand}
use Rattle.command_line.specs.declared.subcommand.Subcommand.TheVariants.{Sim, Drill, Serve, Load}
use Rattle.command_line.specs.declared.subcommand.Subcommand.TheVariants.{Audit}
use Rattle.command_line.specs.declared.task.Task.{Task}
use Rattle.command_line.specs.declared.task.Task.TheVariants.{Sim as ToSim, Audit as ToAudit}
use Rattle.command_line.specs.Rows.{audit_row, drill_row, load_row, serve_row, sim_row}
use Rattle.command_line.specs.Tasks.{audit_in, drill_in, load_in, serve_in, sim_in}
use Rattle.command_line.specs.Tasks.{drill_of_rows, load_of_rows, serve_of_rows}

-- the subcommand of a name
unfoldable pub named : Text → Option Subcommand
named name =
    if bytes_eq name (codes "sim") then Some Sim
    else (if bytes_eq name (codes "drill") then Some Drill
    else (if bytes_eq name (codes "serve") then Some Serve
    else (if bytes_eq name (codes "load") then Some Load
    else (if bytes_eq name (codes "audit") then Some Audit else None))))

-- the simple command that takes its words
abbrev pub row_of : Subcommand → App
row_of Sim = sim_row
row_of Drill = drill_row
row_of Serve = serve_row
row_of Load = load_row
row_of Audit = audit_row

-- what its words ask for
abbrev pub words_in : Subcommand → List Text → Option Task
words_in Sim words = sim_in words
words_in Drill words = drill_in words
words_in Serve words = serve_in words
words_in Load words = load_in words
words_in Audit words = audit_in words

-- the same by the rows of their matches, where its command takes them
abbrev pub rows_in : Subcommand → List Row → Option Task
rows_in Sim rows = Some ToSim
rows_in Drill rows = drill_of_rows rows
rows_in Serve rows = serve_of_rows rows
rows_in Load rows = load_of_rows rows
rows_in Audit rows = Some ToAudit
