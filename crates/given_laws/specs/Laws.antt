-- The jobs that a poll gives are those of its Given facts.
use Rattle.std.specs.Prelude.{◌≡◌, ℕ, Bool, List, map}
use Rattle.endpoint_loop.specs.Endpoints.{Crew, told}
use Rattle.endpoint_loop.specs.Polls.{PollsWith}
use Rattle.given_laws.specs.Given.{given_in, name_of}
use Rattle.node_laws.specs.Valid.{Valid}
use Rattle.rpc_base.specs.declared.fact.Fact.{Fact}
use Rattle.rpc_laws.specs.Service.{Serving}
use Rattle.rpc_laws.specs.declared.tables.Timed.{Timed}

-- in each poll of a node whose lists are valid the Given facts are those of the jobs that its
-- workers were given, in order
abbrev pub PollsGive : Type 0
PollsGive =
    (v : Serving) (answer : ℕ → List ℕ → List ℕ) (stopped : Bool) (now : ℕ) (before later : Crew)
    (s : Timed) (x : List Fact) (t : Timed) → Valid (told before.staff.out s).lists
    → (does : PollsWith v answer stopped now before later s x t)
    → given_in x ≡ map name_of does.gave
