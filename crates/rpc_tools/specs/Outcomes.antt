-- What each status of a simulation says of its source, its sink and the script.
use Rattle.std.specs.Prelude.{ℕ, ◌≡◌, ◌<◌, ◌≤◌, Option, Some, IfSome, List, [], Ok, Err, length}
use Rattle.std.specs.Io.KnownBytes.{Keeps}
use Rattle.rpc_base.specs.declared.fact.Fact.{Fact}
use Rattle.report_text.specs.Text.{text}
use Rattle.ring_laws.specs.PairsOnce.{PairsOnce}
use Rattle.memory_count.specs.Faults.{HasRisen}
use Rattle.rpc_outside.specs.Reading.{Unread}
use Rattle.rpc_outside.specs.Writing.{Wrote, Written, Broke}
use Rattle.rpc_tools.specs.declared.reading.Input.{Input}
use Rattle.rpc_tools.specs.declared.reading.Input.TheVariants.{Whole, TooLong, Fault, Memory}
use Rattle.run_status.specs.declared.status.Status.{Status}
use Rattle.run_status.specs.declared.status.Status.TheVariants.{Done, BadScript, ReadFault}
use Rattle.run_status.specs.declared.status.Status.TheVariants.{WriteFault, NoMemory}
use Rattle.lawful_history.specs.Lawful.{Lawful}
use Rattle.script_grammar.specs.declared.bad.BadScript.{BadScript as Bad}
use Rattle.script_grammar.specs.declared.line.Line.{Line}
use Rattle.script_grammar.specs.Script.{script_of}
use Rattle.sim_script.specs.FollowsScript.{Follows}
use Rattle.stall_laws.specs.NoStall.{NoStall}
use Rattle.world_laws.specs.Laws.{EndTells}

-- nothing was read, and no fault came
pub record Unmoved (old new : Unread) : Type 0 where
  pub kept : Keeps old.left new.left
  pub quiet : new.faults ≡ old.faults

-- nothing was written, and no fault came
pub record Untouched (old new : Written) : Type 0 where
  pub kept : Keeps old.written new.written
  pub quiet : new.faults ≡ old.faults

-- the report of the history of the script was written: no other history follows the script, and the
-- report shows each fact with all its bytes, so the text names that one history. It is lawful;
-- before a datagram is repeated and a call is rolled back each packet of a session stands in one
-- place at most, and only while it is unanswered; and at the end each node's tables of calls and of
-- requests say what its facts tell. Where nothing moves at the end of a command, each call that
-- isn't over has a cause
pub record Reports (script : List Line) (page then_page : Written) : Type 0 where
  pub history : List Fact
  pub follows : Follows script history
  pub one : (h : List Fact) → Follows script h → h ≡ history
  pub lawful : Lawful history
  pub stands_once : PairsOnce history
  pub no_stall : NoStall script history
  pub requests : EndTells script history
  pub wrote : Wrote page then_page (text history)

-- a front of such a report was written, and the sink failed
pub record BreaksOff (script : List Line) (page then_page : Written) : Type 0 where
  pub history : List Fact
  pub follows : Follows script history
  pub broke : Broke page then_page (text history)

-- the grammar refuses the bytes at this line
abbrev pub IsRefused : List ℕ → Bad → Type 0
IsRefused bytes bad = script_of bytes ≡ Err bad

-- what running the bytes of a script may end with
abbrev pub RunsBytes : Status → List ℕ → (page then_page : Written) → Type 0
RunsBytes Done bytes page then_page =
    (script : List Line) × (script_of bytes ≡ Ok script) × Reports script page then_page
RunsBytes (BadScript bad) bytes page then_page = IsRefused bytes bad × Untouched page then_page
RunsBytes WriteFault bytes page then_page =
    (script : List Line) × (script_of bytes ≡ Ok script) × BreaksOff script page then_page
RunsBytes NoMemory bytes page then_page = Untouched page then_page
RunsBytes _ bytes page then_page = ⊥

-- the same of a script that was read
abbrev pub RunsScript : Status → List Line → (page then_page : Written) → Type 0
RunsScript Done script page then_page = Reports script page then_page
RunsScript WriteFault script page then_page = BreaksOff script page then_page
RunsScript NoMemory script page then_page = Untouched page then_page
RunsScript _ script page then_page = ⊥

-- all bytes that the source had left were read
abbrev pub Drained : Option (List ℕ) → Option (List ℕ) → List ℕ → Type 0
Drained left more bytes = IfSome left (λ all. (all ≡ bytes) × (more ≡ Some []))

-- what reading the source may give, of which at most so many bytes are taken
abbrev pub Gives : ℕ → Input → (input then_input : Unread) → Type 0
Gives most (Whole bytes) input then_input =
    (then_input.faults ≡ input.faults) × Drained input.left then_input.left bytes
    × (length bytes ≤ most)
Gives most TooLong input then_input =
    (then_input.faults ≡ input.faults) × IfSome input.left (λ all. most < length all)
Gives most Fault input then_input = HasRisen input.faults then_input.faults
Gives most Memory input then_input = then_input.faults ≡ input.faults

-- how many wants of memory it tells of
abbrev pub lacks_read : Input → ℕ
lacks_read Memory = 1
lacks_read _ = 0

-- the source was read to its end, and its bytes are the script's
abbrev pub ReadScript : List Line → Option (List ℕ) → Option (List ℕ) → Type 0
ReadScript script left more =
    IfSome left (λ bytes. (script_of bytes ≡ Ok script) × (more ≡ Some []))

-- Done: the whole source was read without a fault, and the report of its script written
pub record Completes (input then_input : Unread) (page then_page : Written) : Type 0 where
  pub quiet : then_input.faults ≡ input.faults
  pub script : List Line
  pub bytes : ReadScript script input.left then_input.left
  pub reports : Reports script page then_page

-- BadScript: the source was read without a fault to its end or past the longest script, and its
-- bytes are refused
pub record Refuses (bad : Bad) (input then_input : Unread) (page then_page : Written) : Type 0 where
  pub quiet : then_input.faults ≡ input.faults
  pub refused : IfSome input.left (λ bytes. IsRefused bytes bad)
  pub sink : Untouched page then_page

-- WriteFault: as Done, but the sink failed on the way
pub record FailsToWrite (input then_input : Unread) (page then_page : Written) : Type 0 where
  pub quiet : then_input.faults ≡ input.faults
  pub script : List Line
  pub bytes : ReadScript script input.left then_input.left
  pub breaks : BreaksOff script page then_page

-- ReadFault: the source failed, and nothing was written
pub record FailsToRead (input then_input : Unread) (page then_page : Written) : Type 0 where
  pub fault : HasRisen input.faults then_input.faults
  pub sink : Untouched page then_page

-- what a simulation may end with, by what its source has left and its sink has written. Where
-- memory is wanting the source hadn't failed, and nothing was written
abbrev pub Simulates : Status → (input then_input : Unread) → (page then_page : Written) → Type 0
Simulates Done input then_input page then_page = Completes input then_input page then_page
Simulates (BadScript bad) input then_input page then_page =
    Refuses bad input then_input page then_page
Simulates ReadFault input then_input page then_page = FailsToRead input then_input page then_page
Simulates WriteFault input then_input page then_page = FailsToWrite input then_input page then_page
Simulates NoMemory input then_input page then_page =
    (then_input.faults ≡ input.faults) × Untouched page then_page
Simulates _ input then_input page then_page = ⊥

-- the headline: Done, the source read to its end, and the report of a history that follows the
-- script
pub record Succeeds (script : List Line) (status : Status) (then_input : Unread)
    (page then_page : Written) : Type 0 where
  pub done : status ≡ Done
  pub ended : then_input.left ≡ Some []
  pub reports : Reports script page then_page

-- nothing was read or written
pub record NothingDone (input then_input : Unread) (page then_page : Written) : Type 0 where
  pub source : Unmoved input then_input
  pub sink : Untouched page then_page
