-- Whether a fact is the next event of a rule.
use Rattle.std.specs.Prelude.{ℕ, ◌≡◌, Option, Some, None}
use Rattle.rpc_base.specs.declared.event.Event.{Event}
use Rattle.rpc_base.specs.declared.fact.Fact.{Fact}
use Rattle.rpc_laws.specs.Facts.{plain}

-- a fact is noted of the next event, where there is one
abbrev pub IsNext : Option Event → (me : ℕ) → Fact → Type 0
IsNext None me f = ⊥
IsNext (Some e) me f = f ≡ plain me e
