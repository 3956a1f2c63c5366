-- The life of each node.
use Rattle.std.specs.Prelude.{ℕ, ◌≡◌, ◌+◌, ◌<◌, Option, Some, None, List, slice_index}
use Rattle.call_book.specs.SoFar.{so_far}
use Rattle.history_audit.specs.declared.numbers.TheConstants.{NODES}
use Rattle.rpc_base.specs.declared.event.Event.{Event}
use Rattle.rpc_base.specs.declared.event.Event.TheVariants.{Restarted}
use Rattle.rpc_base.specs.declared.fact.Fact.{Fact}
use Rattle.rpc_base.specs.declared.fact.Who.TheVariants.{Node}
use Rattle.rpc_laws.specs.Endpoints.{life_by}

-- these are the lives of the nodes after some facts
abbrev pub AreLives : List ℕ → List Fact → Type 0
AreLives lives h = (n : ℕ) → n < NODES → slice_index lives n ≡ life_by n (so_far h)

-- where a fact restarts its node, it tells the next life
abbrev pub TellsNextLife : List Fact → Fact → Type 0
TellsNextLife h f =
    (n life : ℕ) → f.who ≡ Node n → f.event ≡ Restarted life → life ≡ life_by n (so_far h) + 1

-- which life begins by an event, if one does
abbrev pub begun_life : Event → Option ℕ
begun_life (Restarted life) = Some life
begun_life _ = None
