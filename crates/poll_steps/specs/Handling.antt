-- The handling of the packet at the front of the ring.
use Rattle.std.specs.Prelude.{ℕ, Option, List, take, unwrap_or}
use Rattle.rpc_base.specs.declared.fact.Fact.{Fact}
use Rattle.rpc_laws.specs.declared.tables.Lists.{Lists}
use Rattle.rpc_laws.specs.NodeLists.{after_all}
use Rattle.rpc_laws.specs.PollOrder.{Handles}
use Rattle.rpc_outside.specs.PlainAnswer.{plain_mode}
use Rattle.node_rules.specs.SingleFacts.{at_clock}
use Rattle.poll_steps.specs.Steps.{IsStep}

-- the answer is how many of the facts handle it at a node with these lists, at any clock, and leave
-- the lists as they do
abbrev pub HandlesNext : Lists → List Fact → Option ℕ → Type 0
HandlesNext s facts answer =
    (clock : ℕ)
    → IsStep (Handles plain_mode) (at_clock clock s) facts
    (at_clock clock (after_all clock s (take (unwrap_or answer 0) facts))) answer
