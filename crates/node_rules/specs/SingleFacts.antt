-- Groups of one fact: all but polls, and but a connect that sets a rate, which is a connect and
-- then a rate.
use Rattle.std.specs.Prelude.{ℕ, List, [], ◌∷◌}
use Rattle.rpc_base.specs.declared.fact.Fact.{Fact}
use Rattle.rpc_laws.specs.declared.tables.Lists.{Lists}
use Rattle.rpc_laws.specs.declared.tables.Timed.{Timed}
use Rattle.rpc_laws.specs.NodeLists.{after}
use Rattle.rpc_laws.specs.PollOrder.{Poll}
use Rattle.rpc_outside.specs.declared.service.Mode.{Mode}
use Rattle.node_laws.specs.NodeRun.{Group}

-- a node with these lists at a clock
abbrev pub at_clock : ℕ → Lists → Timed
at_clock clock s = record { lists = s; clock = clock }

-- the fact is a group of a node with these lists, at any clock
abbrev pub IsGroup : Lists → Fact → Type 0
IsGroup s f =
    (mode : ℕ → Mode) → (clock : ℕ)
    → Group mode (at_clock clock s) (f ∷ []) (at_clock clock (after clock s f))

-- each group of such a node that begins with it is a poll
abbrev pub BeginsPolls : Lists → Fact → Type 0
BeginsPolls s f =
    (mode : ℕ → Mode) → (clock : ℕ) → (rest : List Fact) → (t : Timed)
    → Group mode (at_clock clock s) (f ∷ rest) t
    → (now : ℕ) × Poll mode now (at_clock clock s) (f ∷ rest) t
