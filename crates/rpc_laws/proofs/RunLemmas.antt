-- Facts one after another, and steps one after another.
use Rattle.std.proofs.Common.{◌≡◌, ℕ, List, [], ◌∷◌, ◌++◌, refl}
use Rattle.rpc_base.specs.declared.fact.Fact.{Fact}
use Rattle.rpc_laws.specs.declared.tables.InFlight.{InFlight}
use Rattle.rpc_laws.specs.declared.tables.Lists.{Lists}
use Rattle.rpc_laws.specs.InFlight.{flight_after, flight_after_all}
use Rattle.rpc_laws.specs.NodeLists.{after, after_all}

pub after_all-append : (clock : ℕ) (s : Lists) (x y : List Fact)
    → after_all clock s (x ++ y) ≡ after_all clock (after_all clock s x) y
after_all-append clock s [] y = refl
after_all-append clock s (f ∷ x) y = after_all-append clock (after clock s f) x y

pub me-after_all : (clock : ℕ) (s : Lists) (x : List Fact) → (after_all clock s x).me ≡ s.me
me-after_all clock s [] = refl
me-after_all clock s (f ∷ x) = me-after_all clock (after clock s f) x

pub flight-append : (c : List InFlight) (x y : List Fact)
    → flight_after_all c (x ++ y) ≡ flight_after_all (flight_after_all c x) y
flight-append c [] y = refl
flight-append c (f ∷ x) y = flight-append (flight_after c f) x y
