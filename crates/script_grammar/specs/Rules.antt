-- The rules on nodes, and which command comes when.
use Rattle.std.specs.Prelude.{◌==◌, ℕ, ◌+◌, true, ◌&&◌, ◌||◌, nat_le, nat_lt, Option, Some, None}
use Rattle.std.specs.Prelude.{Result, Ok, Err, if◌then◌else◌}
use Rattle.script_grammar.specs.declared.bad.BadWhy.{BadWhy}
use Rattle.script_grammar.specs.declared.bad.BadWhy.TheVariants as why
use Rattle.script_grammar.specs.declared.before.Before.{Before}
use Rattle.script_grammar.specs.declared.line.Command.{Command}
use Rattle.script_grammar.specs.declared.line.Command.TheVariants.{Node, Pair, Connect, Disconnect}
use Rattle.script_grammar.specs.declared.line.Command.TheVariants.{Rate, Call, Poll, Arrive, Lose}
use Rattle.script_grammar.specs.declared.line.Command.TheVariants.{Repeat, Tick, Work, Settle}
use Rattle.script_grammar.specs.declared.line.Command.TheVariants.{Restart}

-- a node that a command names has to be declared: below the count of nodes
unfoldable pub names_one : ℕ → ℕ → Option BadWhy
names_one nodes node = if nat_lt node nodes then None else Some why.Node

-- two such nodes have to differ
unfoldable pub names_two : ℕ → ℕ → ℕ → Option BadWhy
names_two nodes a b =
    if nat_lt a nodes && nat_lt b nodes then (if a == b then Some why.Same else None)
    else Some why.Node

-- what is wrong with the nodes that a command names
unfoldable pub misnamed : ℕ → Command → Option BadWhy
misnamed nodes (Node ring) = None
misnamed nodes (Pair a b credits) = names_two nodes a b
misnamed nodes (Connect a b credits) = names_two nodes a b
misnamed nodes (Disconnect node session) = names_one nodes node
misnamed nodes (Rate node session rate) = names_one nodes node
misnamed nodes (Call node session req_type ask room) = names_one nodes node
misnamed nodes (Poll node) = names_one nodes node
misnamed nodes (Arrive copy) = None
misnamed nodes (Lose copy) = None
misnamed nodes (Repeat copy) = None
misnamed nodes (Tick by) = None
misnamed nodes (Work node job) = names_one nodes node
misnamed nodes (Settle rounds) = None
misnamed nodes (Restart node) = names_one nodes node

-- a node line comes before the other commands, and makes at most the eighth node
unfoldable pub node_admitted : Before → Result Before BadWhy
node_admitted before =
    if before.begun || nat_le 8 before.nodes then Err why.Nodes
    else Ok (record before { nodes = before.nodes + 1 })

-- what follows, unless something is wrong
abbrev pub unless : Option BadWhy → Before → Result Before BadWhy
unless (Some wrong) after = Err wrong
unless None after = Ok after

-- another command comes after at least two node lines, and names declared nodes
unfoldable pub other_admitted : Before → Option BadWhy → Result Before BadWhy
other_admitted before wrong =
    if nat_lt before.nodes 2 then Err why.Nodes else unless wrong (record before { begun = true })

-- what stands before the next line, where a command may come here
unfoldable pub admitted : Before → Command → Result Before BadWhy
admitted before (Node ring) = node_admitted before
admitted before command = other_admitted before (misnamed before.nodes command)
