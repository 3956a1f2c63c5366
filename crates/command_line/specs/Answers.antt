-- What reading words may answer: what they ask for, or that memory was refused.
use Rattle.std.specs.Prelude.{◌≡◌, ◌≤◌, ℕ, true, List, Option, Some, None, IfSome, Result, Ok}
use Rattle.std.specs.Prelude.{Err}
use Rattle.clap.specs.Words.{App, Text, found_of, rows_of}
use Rattle.clap.specs.declared.parser.matches.ArgMatches.{ArgMatches}
use Rattle.command_line.specs.declared.task.Task.{Task}
use Rattle.command_line.specs.declared.task.Task.TheVariants.{Sim, Drill, Serve, Load}
use Rattle.command_line.specs.declared.task.Task.TheVariants.{Audit}
use Rattle.command_line.specs.declared.task.WordsError.{WordsError}
use Rattle.command_line.specs.declared.task.WordsError.TheVariants.{Usage, NoMemory}
use Rattle.command_line.specs.Numbers.{is_type, most_workers}
use Rattle.command_line.specs.Tasks.{taken}
use Rattle.command_line.specs.Words.{LoadWords, ServeWords}

-- the words are in no row, or memory ran out
abbrev pub IsNone : {A : Type 0} → WordsError → Option A → Type 0
IsNone Usage said = said ≡ None
IsNone NoMemory said = Unit {0}

-- how often memory was refused at least: once where words ask for nothing for want of it
abbrev pub lacks_by : WordsError → ℕ
lacks_by Usage = 0
lacks_by NoMemory = 1

abbrev pub lacks : {A : Type 0} → Result A WordsError → ℕ
lacks (Ok value) = 0
lacks (Err error) = lacks_by error

-- what was read is what the words say
abbrev pub Reads : {A : Type 0} → Result A WordsError → Option A → Type 0
Reads (Ok value) said = said ≡ Some value
Reads (Err error) said = IsNone error said

-- the numbers of `serve` are in their ranges, and it has no thread where it asks another server
abbrev pub IsServeInRange : ServeWords → Type 0
IsServeInRange words =
    (1 ≤ words.turns) × (words.turns ≤ 4294967295) × (words.workers ≤ 16)
    × (1 ≤ words.life) × (words.life ≤ 4294967295)
    × (100 ≤ words.timeout) × (words.timeout ≤ 1000000)
    × (words.workers ≤ most_workers words.relay)

-- a frame, where one is given, takes the largest packet, and fits a datagram
abbrev pub IsFrameInRange : Option ℕ → Type 0
IsFrameInRange frame = IfSome frame (λ bytes. (1088 ≤ bytes) × (bytes ≤ 65507))

-- the numbers of `load` are in their ranges, and the type in its list
pub record IsLoadInRange (words : LoadWords) : Type 0 where
  pub some_calls : 1 ≤ words.calls
  pub most_calls : words.calls ≤ 1000000
  pub known_type : is_type words.req_type ≡ true
  pub most_bytes : words.size ≤ 1048576
  pub most_seed : words.seed ≤ 4294967295
  pub some_turns : 1 ≤ words.turns
  pub most_turns : words.turns ≤ 4294967295
  pub frame : IsFrameInRange words.frame
  pub some_life : 1 ≤ words.life
  pub most_life : words.life ≤ 4294967295
  pub least_timeout : 100 ≤ words.timeout
  pub most_timeout : words.timeout ≤ 1000000

-- the numbers of a task are in their ranges
abbrev pub IsInRange : Task → Type 0
IsInRange Sim = Unit {0}
IsInRange Audit = Unit {0}
IsInRange (Drill seed calls) =
    (seed ≤ 9223372036854775807) × (1 ≤ calls) × (calls ≤ 10000)
IsInRange (Serve words) = IsServeInRange words
IsInRange (Load words) = IsLoadInRange words

abbrev pub Takes : Result ArgMatches WordsError → App → List Text → Type 0
Takes (Ok found) row words = taken row words ≡ Some (rows_of (found_of found))
Takes (Err error) row words = IsNone error (taken row words)
