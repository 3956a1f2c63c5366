-- What the lines of a script are, apart from their text.
use Rattle.std.specs.Prelude.{◌≡◌, ◌≢◌, ℕ, ◌+◌, ◌<◌, ◌≤◌, List, [], ◌∷◌, ◌++◌, length, All}
use Rattle.script_grammar.specs.declared.ask.TheConstants.{MOST_BYTES}
use Rattle.script_grammar.specs.declared.command.TheConstants.{LAST_SESSION, LEAST_CREDITS}
use Rattle.script_grammar.specs.declared.command.TheConstants.{LEAST_RING, LEAST_ROUNDS}
use Rattle.script_grammar.specs.declared.command.TheConstants.{MOST_CREDITS, MOST_RING, MOST_ROOM}
use Rattle.script_grammar.specs.declared.command.TheConstants.{MOST_ROUNDS, MOST_TICK}
use Rattle.script_grammar.specs.declared.reading.TheConstants.{MOST_LINES}
use Rattle.script_grammar.specs.declared.line.AskBytes.{AskBytes}
use Rattle.script_grammar.specs.declared.line.AskBytes.TheVariants.{Given, Count}
use Rattle.script_grammar.specs.declared.line.Command.{Command}
use Rattle.script_grammar.specs.declared.line.Command.TheVariants.{Node, Pair, Connect, Disconnect}
use Rattle.script_grammar.specs.declared.line.Command.TheVariants.{Rate, Call, Poll, Arrive, Lose}
use Rattle.script_grammar.specs.declared.line.Command.TheVariants.{Repeat, Tick, Work, Settle}
use Rattle.script_grammar.specs.declared.line.Command.TheVariants.{Restart}
use Rattle.script_grammar.specs.declared.line.Line.{Line}

-- a call sends at most 2,097,152 bytes
abbrev pub IsAskInRange : AskBytes → Type 0
IsAskInRange (Given bytes) = length bytes ≤ MOST_BYTES
IsAskInRange (Count count) = count ≤ MOST_BYTES

-- each number is in its range; what isn't named here is any number of its type
abbrev pub IsInRange : Command → Type 0
IsInRange (Node ring) = (LEAST_RING ≤ ring) × (ring ≤ MOST_RING)
IsInRange (Pair a b credits) = (LEAST_CREDITS ≤ credits) × (credits ≤ MOST_CREDITS)
IsInRange (Connect a b credits) = (LEAST_CREDITS ≤ credits) × (credits ≤ MOST_CREDITS)
IsInRange (Disconnect node session) = session ≤ LAST_SESSION
IsInRange (Rate node session rate) = session ≤ LAST_SESSION
IsInRange (Call node session req_type ask room) =
    (session ≤ LAST_SESSION) × IsAskInRange ask × (room ≤ MOST_ROOM)
IsInRange (Poll node) = Unit {0}
IsInRange (Arrive copy) = Unit {0}
IsInRange (Lose copy) = Unit {0}
IsInRange (Repeat copy) = Unit {0}
IsInRange (Tick by) = by ≤ MOST_TICK
IsInRange (Work node job) = Unit {0}
IsInRange (Settle rounds) = (LEAST_ROUNDS ≤ rounds) × (rounds ≤ MOST_ROUNDS)
IsInRange (Restart node) = Unit {0}

-- a `node` command
abbrev pub IsNode : Command → Type 0
IsNode (Node ring) = Unit {0}
IsNode _ = ⊥

-- a command but `node`, which names none but the first `nodes` nodes, and in `pair` and `connect`
-- two of them
abbrev pub IsAmong : ℕ → Command → Type 0
IsAmong nodes (Node ring) = ⊥
IsAmong nodes (Pair a b credits) = (a < nodes) × (b < nodes) × (a ≢ b)
IsAmong nodes (Connect a b credits) = (a < nodes) × (b < nodes) × (a ≢ b)
IsAmong nodes (Disconnect node session) = node < nodes
IsAmong nodes (Rate node session rate) = node < nodes
IsAmong nodes (Call node session req_type ask room) = node < nodes
IsAmong nodes (Poll node) = node < nodes
IsAmong nodes (Arrive copy) = Unit {0}
IsAmong nodes (Lose copy) = Unit {0}
IsAmong nodes (Repeat copy) = Unit {0}
IsAmong nodes (Tick by) = Unit {0}
IsAmong nodes (Work node job) = node < nodes
IsAmong nodes (Settle rounds) = Unit {0}
IsAmong nodes (Restart node) = node < nodes

-- the numbers of the lines rise, from at least `least` to at most 100,000
abbrev pub IsRising : ℕ → List Line → Type 0
IsRising least [] = Unit {0}
IsRising least (line ∷ lines) =
    (least ≤ line.number) × (line.number ≤ MOST_LINES) × IsRising (line.number + 1) lines

-- 2 to 8 node lines, and then the commands among these nodes
pub record IsScript (lines : List Line) : Type 0 where
  pub rising : IsRising 2 lines
  pub ranges : All (λ line. IsInRange line.command) lines
  pub nodes : List Line
  pub others : List Line
  pub parts : lines ≡ nodes ++ others
  pub at_least_two : 2 ≤ length nodes
  pub at_most_eight : length nodes ≤ 8
  pub all_nodes : All (λ line. IsNode line.command) nodes
  pub all_others : All (λ line. IsAmong (length nodes) line.command) others
