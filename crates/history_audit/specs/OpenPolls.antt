-- Which nodes are in the midst of a poll.
use Rattle.std.specs.Prelude.{ℕ, ◌≡◌, ◌==◌, Bool, false, List}
use Rattle.std.specs.List.{list_any}
use Rattle.front_laws.specs.Whole.{is_open}
use Rattle.rpc_base.specs.declared.fact.Fact.{Fact}

-- whether a node is among some
abbrev pub is_among : ℕ → List ℕ → Bool
is_among n nodes = list_any (λ m. m == n) nodes

-- these nodes are, after these facts, and no others
abbrev pub AreOpen : List ℕ → List Fact → Type 0
AreOpen nodes h = (n : ℕ) → is_among n nodes ≡ is_open n false h
