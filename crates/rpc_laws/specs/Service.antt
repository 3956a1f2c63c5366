-- The service of a node: how it handles a type, and what it answers. The plain service is one.
use Rattle.std.specs.Prelude.{ℕ, ◌≡◌, ◌==◌, Bool, true, false, ◌||◌, if◌then◌else◌, List, [], ◌∷◌}
use Rattle.std.specs.Prelude.{◌++◌}
use Rattle.rpc_base.specs.declared.event.Event.{Event}
use Rattle.rpc_base.specs.declared.event.Event.TheVariants.{Ran, Restarted}
use Rattle.rpc_base.specs.declared.fact.Fact.{Fact}
use Rattle.rpc_outside.specs.declared.service.Mode.{Mode}
use Rattle.rpc_outside.specs.declared.service.Mode.TheVariants.{Inline, Background}
use Rattle.rpc_outside.specs.PlainAnswer.{plain_mode, plain_answer, tally}
use Rattle.rpc_outside.specs.Served.{Served}
use Rattle.rpc_outside.specs.declared.service.Service as Service

abbrev pub is_mode_inline : Mode → Bool
is_mode_inline Inline = true
is_mode_inline _ = false

abbrev pub is_mode_background : Mode → Bool
is_mode_background Background = true
is_mode_background _ = false

-- whether requests of a mode are served
abbrev pub is_handled : Mode → Bool
is_handled mode = is_mode_inline mode || is_mode_background mode

-- whether a service of these modes runs requests of a type in the event loop
abbrev pub runs_inline : (ℕ → Mode) → ℕ → Bool
runs_inline mode req_type = is_mode_inline (mode req_type)

-- whether the plain service runs requests of a type in the event loop
abbrev pub is_inline : ℕ → Bool
is_inline req_type = is_mode_inline (plain_mode req_type)

-- whether it gives them to a worker
abbrev pub is_background : ℕ → Bool
is_background req_type = is_mode_background (plain_mode req_type)

abbrev pub is_served : ℕ → Bool
is_served req_type = is_inline req_type || is_background req_type

-- the answer to a request, where the tallies before it add up to this total; only a tally looks at
-- it
abbrev pub answer_with : ℕ → ℕ → List ℕ → List ℕ
answer_with total req_type ask =
    if req_type == 3 then tally total ask else plain_answer [] req_type ask

-- what a service is: the modes of its types, and its answer to a request of a type after those that
-- it served in the event loop so far
pub record Serving : Type 0 where
  pub mode : ℕ → Mode
  pub answer : Served → ℕ → List ℕ → List ℕ

abbrev pub plain_serving : Serving
plain_serving = record { mode = plain_mode; answer = plain_answer }

-- by the members of its bound
abbrev pub rules_of : {V : Type 0} → Service.Ghosts V → Serving
rules_of v = record { mode = v.mode_of; answer = v.answer }

-- what was served in the event loop in the present life, once a fact happened: a Ran of an Inline
-- type serves its bytes
abbrev pub served_after : (ℕ → Mode) → Event → List ℕ → Served → Served
served_after mode (Ran session request req_type) ask served =
    if runs_inline mode req_type then served ++ (req_type, ask) ∷ [] else served
served_after mode (Restarted life) ask served = []
served_after mode _ ask served = served

-- and after some facts
abbrev pub served_after_all : (ℕ → Mode) → Served → List Fact → Served
served_after_all mode served [] = served
served_after_all mode served (f ∷ g) =
    served_after_all mode (served_after mode f.event f.first served) g

-- a Ran has the service's answer to its bytes after what was served so far
abbrev pub AnswersAt : Serving → Served → Event → List ℕ → List ℕ → Type 0
AnswersAt v served (Ran session request req_type) ask answer = answer ≡ v.answer served req_type ask
AnswersAt v served _ ask answer = Unit {0}

-- each Ran among the facts of one node has the service's answer after those before it
abbrev pub Answers : Serving → Served → List Fact → Type 0
Answers v served [] = Unit {0}
Answers v served (f ∷ g) =
    AnswersAt v served f.event f.first f.second
    × Answers v (served_after v.mode f.event f.first served) g
