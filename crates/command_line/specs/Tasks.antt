-- What words ask for.
use Rattle.std.specs.Prelude.{◌==◌, List, [], ◌∷◌, length, codes, Option, Some, None}
use Rattle.std.specs.Prelude.{option_and_then, if◌then◌else◌}
use Rattle.std.specs.Str.{bytes_eq}
use Rattle.clap.specs.Words.{App, Row, Text, fault_of, first_of, matches_of}
use Rattle.command_line.specs.declared.task.Task.{Task}
use Rattle.command_line.specs.declared.task.Task.TheVariants.{Sim, Drill, Serve, Load}
use Rattle.command_line.specs.declared.task.Task.TheVariants.{Audit}
use Rattle.command_line.specs.Numbers.{idle_at, number_at, some_number_at, type_at, workers_at}
use Rattle.command_line.specs.Rows.{audit_row, drill_row, load_row, serve_row, sim_row}

-- the matches of a simple command, where it takes the words: no step of reading them fails
unfoldable pub taken : App → List Text → Option (List Row)
taken row words = if length (fault_of row words) == 0 then Some (matches_of row words) else None

-- what is said of a value, where it is there
abbrev pub given : {A B : Type 0} → Option A → (A → Option B) → Option B
given value said = option_and_then said value

unfoldable pub sim_in : List Text → Option Task
sim_in words = given (taken sim_row words) (λ rows. Some Sim)

unfoldable pub audit_in : List Text → Option Task
audit_in words = given (taken audit_row words) (λ rows. Some Audit)

-- SEED from 0 to 2^63 - 1, and CALLS from 1 to 10,000
abbrev pub drill_of_rows : List Row → Option Task
drill_of_rows rows =
    given (number_at 0 9223372036854775807 (codes "SEED") rows) (λ seed.
    given (number_at 1 10000 (codes "CALLS") rows) (λ calls.
    Some (Drill seed calls)))

unfoldable pub drill_in : List Text → Option Task
drill_in words = given (taken drill_row words) drill_of_rows

-- ADDR, --turns from 1 to 2^32 - 1, --workers up to 16, or 0 where --relay is given, --life from 1
-- to 2^32 - 1, --timeout from 100 to 1,000,000 microseconds, and --spin
abbrev pub serve_of_rows : List Row → Option Task
serve_of_rows rows =
    given (first_of (codes "ADDR") rows) (λ addr.
    given (number_at 1 4294967295 (codes "turns") rows) (λ turns.
    given (workers_at rows) (λ workers.
    given (number_at 1 4294967295 (codes "life") rows) (λ life.
    given (number_at 100 1000000 (codes "timeout") rows) (λ timeout.
    Some (Serve (record {
      addr = addr;
      turns = turns;
      workers = workers;
      life = life;
      relay = first_of (codes "relay") rows;
      timeout = timeout;
      idle = idle_at rows;
    })))))))

unfoldable pub serve_in : List Text → Option Task
serve_in words = given (taken serve_row words) serve_of_rows

-- ADDR, --calls from 1 to 1,000,000, --type in its list, --size up to 1,048,576, --seed from 0 and
-- --turns from 1 up to 2^32 - 1, --bind, --frame from 1,088 to 65,507 bytes or none, --life from 1
-- to 2^32 - 1, --timeout from 100 to 1,000,000 microseconds, and --spin
abbrev pub load_of_rows : List Row → Option Task
load_of_rows rows =
    given (first_of (codes "ADDR") rows) (λ addr.
    given (number_at 1 1000000 (codes "calls") rows) (λ calls.
    given (type_at rows) (λ req_type.
    given (number_at 0 1048576 (codes "size") rows) (λ size.
    given (number_at 0 4294967295 (codes "seed") rows) (λ seed.
    given (number_at 1 4294967295 (codes "turns") rows) (λ turns.
    given (first_of (codes "bind") rows) (λ bind.
    given (some_number_at 1088 65507 (codes "frame") rows) (λ frame.
    given (number_at 1 4294967295 (codes "life") rows) (λ life.
    given (number_at 100 1000000 (codes "timeout") rows) (λ timeout.
    Some (Load (record {
      addr = addr;
      calls = calls;
      req_type = req_type;
      size = size;
      seed = seed;
      turns = turns;
      bind = bind;
      frame = frame;
      life = life;
      timeout = timeout;
      idle = idle_at rows;
    }))))))))))))

unfoldable pub load_in : List Text → Option Task
load_in words = given (taken load_row words) load_of_rows

-- what the words after the program's name ask for; the first is a subcommand's name
unfoldable pub task_of : List Text → Option Task
task_of [] = None
task_of (name ∷ words) =
    if bytes_eq name (codes "sim") then sim_in words
    else (if bytes_eq name (codes "drill") then drill_in words
    else (if bytes_eq name (codes "serve") then serve_in words
    else (if bytes_eq name (codes "load") then load_in words
    else (if bytes_eq name (codes "audit") then audit_in words else None))))
