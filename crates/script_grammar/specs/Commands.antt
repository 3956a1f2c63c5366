-- The commands: the words and ranges of each. All words of a line are taken before any number is
-- read, so that Shape comes before Number, and numbers before the bytes of a call, so that Number
-- comes before Hex.
use Rattle.std.specs.Prelude.{ℕ, List, [], ◌∷◌, codes, Option, Some, None, Result, Ok, Err, ok_or}
use Rattle.std.specs.Prelude.{if◌then◌else◌}
use Rattle.script_grammar.specs.declared.bad.BadWhy.{BadWhy}
use Rattle.script_grammar.specs.declared.bad.BadWhy.TheVariants.{Word}
use Rattle.script_grammar.specs.declared.command.TheConstants.{LAST_SESSION, LAST_TYPE}
use Rattle.script_grammar.specs.declared.command.TheConstants.{LEAST_CREDITS, LEAST_RING}
use Rattle.script_grammar.specs.declared.command.TheConstants.{LEAST_ROUNDS, MOST_CREDITS}
use Rattle.script_grammar.specs.declared.command.TheConstants.{MOST_RING, MOST_ROOM, MOST_ROUNDS}
use Rattle.script_grammar.specs.declared.command.TheConstants.{MOST_TICK}
use Rattle.script_grammar.specs.declared.line.Command.{Command}
use Rattle.script_grammar.specs.declared.line.Command.TheVariants as command
use Rattle.script_grammar.specs.declared.verb.Verb.{Verb}
use Rattle.script_grammar.specs.declared.verb.Verb.TheVariants as verb
use Rattle.script_grammar.specs.Ask.{ask_in}
use Rattle.script_grammar.specs.Numbers.{number_in, node_in}
use Rattle.script_grammar.specs.Words.{◌>>=◌, is_word, next_word, last_word}

-- `ring=R`, R from 32 to 4,096
unfoldable pub ring_in : List (List ℕ) → Result ℕ BadWhy
ring_in words = do
  ring ← last_word (codes "ring=") words
  number_in LEAST_RING MOST_RING ring

-- `A B credits=C`, C from 1 to 256
unfoldable pub ends_in : List (List ℕ) → Result (ℕ × ℕ × ℕ) BadWhy
ends_in words = do
  (a, words) ← next_word words
  (b, words) ← next_word words
  credits ← last_word (codes "credits=") words
  a ← node_in a
  b ← node_in b
  credits ← number_in LEAST_CREDITS MOST_CREDITS credits
  Ok (a, b, credits)

-- `A S`, S up to 65,534
unfoldable pub session_in : List (List ℕ) → Result (ℕ × ℕ) BadWhy
session_in words = do
  (node, words) ← next_word words
  session ← last_word [] words
  node ← node_in node
  session ← number_in 0 LAST_SESSION session
  Ok (node, session)

-- `A S B`, B any number of 32 bits
unfoldable pub rate_in : List (List ℕ) → Result (ℕ × ℕ × ℕ) BadWhy
rate_in words = do
  (node, words) ← next_word words
  (session, words) ← next_word words
  rate ← last_word [] words
  node ← node_in node
  session ← number_in 0 LAST_SESSION session
  rate ← number_in 0 4294967295 rate
  Ok (node, session, rate)

-- `A S Y ASK room=R`, Y up to 255 and R up to 1,048,576; ASK as it stands
unfoldable pub call_parts_in : List (List ℕ) → Result (ℕ × ℕ × ℕ × List ℕ × ℕ) BadWhy
call_parts_in words = do
  (node, words) ← next_word words
  (session, words) ← next_word words
  (req_type, words) ← next_word words
  (ask, words) ← next_word words
  room ← last_word (codes "room=") words
  node ← node_in node
  session ← number_in 0 LAST_SESSION session
  req_type ← number_in 0 LAST_TYPE req_type
  room ← number_in 0 MOST_ROOM room
  Ok (node, session, req_type, ask, room)

-- `A`
unfoldable pub only_node_in : List (List ℕ) → Result ℕ BadWhy
only_node_in words = do
  node ← last_word [] words
  node_in node

-- one number
unfoldable pub only_number_in : ℕ → ℕ → List (List ℕ) → Result ℕ BadWhy
only_number_in low high words = do
  word ← last_word [] words
  number_in low high word

-- `A J`, J any number of 32 bits
unfoldable pub job_in : List (List ℕ) → Result (ℕ × ℕ) BadWhy
job_in words = do
  (node, words) ← next_word words
  job ← last_word [] words
  node ← node_in node
  job ← number_in 0 4294967295 job
  Ok (node, job)

-- what follows the first word of each command but `call`
unfoldable pub plain_in : Verb → List (List ℕ) → Result Command BadWhy
plain_in verb.Node words = do
  ring ← ring_in words
  Ok (command.Node ring)
plain_in verb.Pair words = do
  (a, b, credits) ← ends_in words
  Ok (command.Pair a b credits)
plain_in verb.Connect words = do
  (a, b, credits) ← ends_in words
  Ok (command.Connect a b credits)
plain_in verb.Disconnect words = do
  (node, session) ← session_in words
  Ok (command.Disconnect node session)
plain_in verb.Rate words = do
  (node, session, rate) ← rate_in words
  Ok (command.Rate node session rate)
plain_in verb.Poll words = do
  node ← only_node_in words
  Ok (command.Poll node)
plain_in verb.Arrive words = do
  copy ← only_number_in 0 4294967295 words
  Ok (command.Arrive copy)
plain_in verb.Lose words = do
  copy ← only_number_in 0 4294967295 words
  Ok (command.Lose copy)
plain_in verb.Repeat words = do
  copy ← only_number_in 0 4294967295 words
  Ok (command.Repeat copy)
plain_in verb.Tick words = do
  by ← only_number_in 0 MOST_TICK words
  Ok (command.Tick by)
plain_in verb.Work words = do
  (node, job) ← job_in words
  Ok (command.Work node job)
plain_in verb.Settle words = do
  rounds ← only_number_in LEAST_ROUNDS MOST_ROUNDS words
  Ok (command.Settle rounds)
plain_in verb.Restart words = do
  node ← only_node_in words
  Ok (command.Restart node)

-- what follows the word `call`
unfoldable pub call_in : List (List ℕ) → Result Command BadWhy
call_in words = do
  (node, session, req_type, ask, room) ← call_parts_in words
  ask ← ask_in ask
  Ok (command.Call node session req_type ask room)

-- the command that a word begins, but for `call`
unfoldable pub verb_of : List ℕ → Option Verb
verb_of word =
    if is_word word (codes "node") then Some verb.Node
    else (if is_word word (codes "pair") then Some verb.Pair
    else (if is_word word (codes "connect") then Some verb.Connect
    else (if is_word word (codes "disconnect") then Some verb.Disconnect
    else (if is_word word (codes "rate") then Some verb.Rate
    else (if is_word word (codes "poll") then Some verb.Poll
    else (if is_word word (codes "arrive") then Some verb.Arrive
    else (if is_word word (codes "lose") then Some verb.Lose
    else (if is_word word (codes "repeat") then Some verb.Repeat
    else (if is_word word (codes "tick") then Some verb.Tick
    else (if is_word word (codes "work") then Some verb.Work
    else (if is_word word (codes "settle") then Some verb.Settle
    else (if is_word word (codes "restart") then Some verb.Restart
    else None))))))))))))

-- a command from the words of its line
unfoldable pub command_in : List (List ℕ) → Result Command BadWhy
command_in [] = Err Word
command_in (word ∷ words) =
    if is_word word (codes "call") then call_in words
    else (ok_or (verb_of word) Word >>= λ verb. plain_in verb words)
