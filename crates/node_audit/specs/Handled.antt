-- What was handled in a life of a node.
use Rattle.std.specs.Prelude.{ℕ, ◌≡◌, List, []}
use Rattle.rpc_base.specs.declared.event.Event.{Event}
use Rattle.rpc_base.specs.declared.event.Event.TheVariants.{Ran, Restarted}
use Rattle.rpc_base.specs.declared.fact.Fact.{Fact}
use Rattle.rpc_laws.specs.Service.{Answers, plain_serving, served_after_all}
use Rattle.rpc_outside.specs.PlainAnswer.{plain_mode, total_of, total_with}
use Rattle.node_audit.specs.Worked.{AreWorked, WorkedOnce}
use Rattle.node_audit.specs.declared.handled.Handled.{Handled}

-- the total of the tallies after an event with these bytes
abbrev pub total_after : ℕ → Event → List ℕ → ℕ
total_after total (Ran session request req_type) ask = total_with total req_type ask
total_after total (Restarted life) ask = 0
total_after total _ ask = total

-- the worked jobs and the tallies are those of these facts of a life
pub record KeepsHandled (h : Handled) (x : List Fact) : Type 0 where
  pub worked : AreWorked h.worked.jobs.keys x
  pub total : h.total ≡ total_of (served_after_all plain_mode [] x)

-- no job is worked twice, and each answer is the plain service's
pub record IsHandled (x : List Fact) : Type 0 where
  pub once : WorkedOnce x
  pub answers : Answers plain_serving [] x
