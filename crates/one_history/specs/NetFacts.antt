-- The facts of the network.
use Rattle.std.specs.Prelude.{◌≡◌, Bool, true, false, List}
use Rattle.std.specs.List.{AllByRecursion}
use Rattle.rpc_base.specs.declared.event.Event.{Event}
use Rattle.rpc_base.specs.declared.event.Event.TheVariants.{Carried, Lost, Missed, Repeated, Ticked}
use Rattle.rpc_base.specs.declared.fact.Fact.{Fact}
use Rattle.rpc_base.specs.declared.fact.Who.TheVariants.{Net}

-- an event that the network notes: a copy is carried, lost or repeated, a copy is missed that isn't
-- in flight, or the clock goes on
abbrev pub is_of_net : Event → Bool
is_of_net (Carried copy) = true
is_of_net (Lost copy) = true
is_of_net (Repeated copy) = true
is_of_net (Missed copy) = true
is_of_net (Ticked by) = true
is_of_net _ = false

-- no fact of the network has another event
abbrev pub AllOfNet : List Fact → Type 0
AllOfNet facts = AllByRecursion (λ f. f.who ≡ Net → is_of_net f.event ≡ true) facts
