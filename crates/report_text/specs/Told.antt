-- Which bytes of a fact its line shows.
use Rattle.std.specs.Prelude.{ℕ, ◌≡◌, List, []}
use Rattle.std.specs.List.{AllByRecursion}
use Rattle.rpc_base.specs.declared.fact.Fact.{Fact}
use Rattle.report_text.specs.declared.shape.Tail.{Tail}
use Rattle.report_text.specs.declared.shape.Tail.TheVariants.{Nothing, First, Both}
use Rattle.report_text.specs.Shape.{tail_of}

-- the bytes that are not shown are none
abbrev pub NoOthers : Tail → List ℕ → List ℕ → Type 0
NoOthers Nothing first second = (first ≡ []) × (second ≡ [])
NoOthers First first second = second ≡ []
NoOthers Both first second = Unit {0}

-- a fact has no other bytes than those that its line shows
abbrev pub IsTold : Fact → Type 0
IsTold fact = NoOthers (tail_of fact.event) fact.first fact.second

abbrev pub AllTold : List Fact → Type 0
AllTold facts = AllByRecursion IsTold facts
