-- The drill: the script that a number and a count of calls make.
use Rattle.std.specs.Prelude.{ℕ, zero, suc, ◌==◌, ◌+◌, ◌%◌, ◌||◌, nat_le, List, [], ◌∷◌, ◌++◌}
use Rattle.std.specs.Prelude.{if◌then◌else◌}
use Rattle.std.specs.Int.{bytes_high_first}
use Rattle.script_grammar.specs.declared.line.AskBytes.{AskBytes}
use Rattle.script_grammar.specs.declared.line.AskBytes.TheVariants.{Given, Count}
use Rattle.script_grammar.specs.declared.line.Command.{Command}
use Rattle.script_grammar.specs.declared.line.Command.TheVariants.{Node, Pair, Call, Poll, Arrive}
use Rattle.script_grammar.specs.declared.line.Command.TheVariants.{Lose, Repeat, Tick, Work, Settle}
use Rattle.script_grammar.specs.declared.line.Line.{Line}
use Rattle.drill_maker.specs.Draws.{◌>>=◌, Drawn, draw, just, seeded}

-- the three sessions are (0, 0), (0, 1) and (1, 0), by node and number
abbrev pub node_of : ℕ → ℕ
node_of x = if x == 2 then 1 else 0

abbrev pub session_of : ℕ → ℕ
session_of x = if x == 1 then 1 else 0

-- the types are 1, 2, 3, 4 and 130
abbrev pub type_of : ℕ → ℕ
type_of y = if y == 4 then 130 else y + 1

-- a tally of 8 bytes, a fill of 4 bytes, or so many bytes to echo or to reverse
unfoldable pub drawn_ask : ℕ → Drawn AskBytes
drawn_ask req_type =
    if req_type == 3 then (draw 1000 >>= λ n. just (Given (bytes_high_first 8 n)))
    else (if req_type == 4 then (draw 5000 >>= λ n. just (Given (bytes_high_first 4 n)))
    else (draw 4096 >>= λ n. just (Count n)))

-- a call, and a poll of its node
unfoldable pub drawn_call : Drawn (List Command)
drawn_call = do
  x ← draw 3
  y ← draw 5
  ask ← drawn_ask (type_of y)
  just (Call (node_of x) (session_of x) (type_of y) ask 8192 ∷ Poll (node_of x) ∷ [])

-- a command with a number below m
abbrev pub with_number : (ℕ → Command) → ℕ → Drawn Command
with_number command m = draw m >>= λ n. just (command n)

-- what the network, a node or the clock does meanwhile
abbrev pub noise_by : ℕ → Drawn Command
noise_by z =
    if z == 0 then with_number Lose 4
    else (if z == 1 then with_number Repeat 4
    else (if nat_le z 4 then with_number Arrive 4
    else (if z == 5 then with_number Poll 3
    else (if z == 6 then with_number (λ node. Work node 0) 3
    else with_number Tick 400))))

unfoldable pub drawn_noise : Drawn Command
drawn_noise = draw 8 >>= noise_by

-- so many of these
unfoldable pub drawn_noises : ℕ → Drawn (List Command)
drawn_noises zero = just []
drawn_noises (suc n) = do
  before ← drawn_noises n
  noise ← drawn_noise
  just (before ++ noise ∷ [])

-- a rest in which nothing is lost: so many rounds with a timeout each
unfoldable pub rounds : ℕ → List Command
rounds zero = []
rounds (suc n) = rounds n ++ Settle 400 ∷ Tick 5000 ∷ []

-- after every sixteenth call, and after the last one, there is a rest of six rounds and a last one
unfoldable pub rest_after : (calls call : ℕ) → List Command
rest_after calls call =
    if (call % 16 == 0) || (call == calls) then rounds 6 ++ Settle 400 ∷ [] else []

-- the first so many of the calls, each with a poll, six commands of noise, and the rest that
-- follows it
unfoldable pub drawn_calls : (calls first : ℕ) → Drawn (List Command)
drawn_calls calls zero = just []
drawn_calls calls (suc n) = do
  before ← drawn_calls calls n
  call ← drawn_call
  noises ← drawn_noises 6
  just (before ++ call ++ noises ++ rest_after calls (suc n))

-- three nodes
abbrev pub nodes : List Command
nodes = Node 256 ∷ Node 256 ∷ Node 256 ∷ []

-- each with a session to the next
abbrev pub pairs : List Command
pairs = Pair 0 1 8 ∷ Pair 0 2 3 ∷ Pair 1 2 5 ∷ []

-- commands on lines that are numbered one by one
abbrev pub numbered : ℕ → List Command → List Line
numbered number [] = []
numbered number (command ∷ commands) =
    record { number = number; command = command } ∷ numbered (number + 1) commands

-- the script of a drill; its first command stands on line 2
unfoldable pub drill_of : (seed calls : ℕ) → List Line
drill_of seed calls = numbered 2 (nodes ++ pairs ++ (drawn_calls calls calls (seeded seed)).0)
