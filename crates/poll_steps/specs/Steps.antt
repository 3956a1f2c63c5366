-- How many of the facts that follow are a step of a poll.
use Rattle.std.specs.Prelude.{ℕ, ◌≡◌, ◌≤◌, Bool, true, false, Option, Some, None, IfSome, IsNone}
use Rattle.std.specs.Prelude.{List, [], ◌∷◌, ◌++◌, length, take}
use Rattle.rpc_base.specs.declared.event.Event.{Event}
use Rattle.rpc_base.specs.declared.event.Event.TheVariants.{Ran, Sent}
use Rattle.rpc_base.specs.declared.fact.Fact.{Fact}
use Rattle.rpc_laws.specs.declared.tables.Timed.{Timed}
use Rattle.rpc_laws.specs.Steps.{Chain, Rel}
use Rattle.rule_facts.specs.Fronts.{Starts}

abbrev pub has_next : Option Event → Bool
has_next None = false
has_next (Some e) = true

-- no front of the facts is such a step of a node that is so
abbrev pub NoFront : Rel → Timed → List Fact → Type 0
NoFront P s facts = (x : List Fact) → (t : Timed) → Starts x facts → P s x t → ⊥

-- the answer is how many of the facts are such a step, which leaves the node as t; it is None where
-- no front of them is one
pub record IsStep (P : Rel) (s : Timed) (facts : List Fact) (t : Timed) (answer : Option ℕ)
    : Type 0 where
  pub some : IfSome answer (λ n. (n ≤ length facts) × P s (take n facts) t)
  pub only : IsNone answer → NoFront P s facts

-- the front x of the facts is a number of steps P that leave the node as t, and there they end, as
-- the node and the facts behind them tell
pub record EndsAt (P : Rel) (Over : Timed → List Fact → Type 0) (s : Timed) (facts x : List Fact)
    (t : Timed) : Type 0 where
  pub rest : List Fact
  pub parted : facts ≡ x ++ rest
  pub steps : Chain P s x t
  pub over : Over t rest

-- the answer is how many of the facts are the steps up to there; it is None where they end nowhere
pub record AreSteps (P : Rel) (Over : Timed → List Fact → Type 0) (s : Timed) (facts : List Fact)
    (t : Timed) (answer : Option ℕ) : Type 0 where
  pub some : IfSome answer (λ n. (n ≤ length facts) × EndsAt P Over s facts (take n facts) t)
  pub only : IsNone answer → (x : List Fact) → (u : Timed) → EndsAt P Over s facts x u → ⊥

abbrev pub begins_with : (Event → Bool) → List Fact → Bool
begins_with test [] = false
begins_with test (f ∷ facts) = test f.event

-- steps that may stop where they like do so before the first fact whose event isn't of this kind
abbrev pub Stops : (Event → Bool) → Timed → List Fact → Type 0
Stops test t rest = begins_with test rest ≡ false

abbrev pub is_ran : Event → Bool
is_ran (Ran session request req_type) = true
is_ran _ = false

abbrev pub is_sent : Event → Bool
is_sent (Sent peer owner number) = true
is_sent _ = false
