-- The fact that the handler of a background job ran.
use Rattle.std.specs.Prelude.{ℕ, ◌==◌, ◌&&◌, Bool, false, Option, None, List}
use Rattle.std.specs.List.{position}
use Rattle.std.specs.Str.{bytes_eq}
use Rattle.rpc_base.specs.declared.event.Event.{Event}
use Rattle.rpc_base.specs.declared.event.Event.TheVariants.{Ran}
use Rattle.rpc_base.specs.declared.fact.Fact.{Fact}
use Rattle.rpc_laws.specs.declared.tables.Job.{Job}
use Rattle.rpc_laws.specs.declared.tables.Lists.{Lists}
use Rattle.rpc_laws.specs.declared.tables.Timed.{Timed}
use Rattle.rpc_laws.specs.Jobs.{is_job}
use Rattle.rpc_laws.specs.NodeLists.{after_all}
use Rattle.rpc_laws.specs.PollOrder.{FinishesOne}
use Rattle.rule_facts.specs.Fronts.{Starts}
use Rattle.node_rules.specs.SingleFacts.{at_clock}
use Rattle.rule_facts.specs.Tells.{is_node}

-- whether it was the handler of this job, on the job's bytes
abbrev pub tells_ran : Job → Event → Bool
tells_ran job (Ran t r y) = (t == job.session) && ((r == job.request) && (y == job.req_type))
tells_ran job _ = false

abbrev pub says_ran : ℕ → Job → Fact → Bool
says_ran me job f = is_node me f.who && (tells_ran job f.event && bytes_eq f.first job.ask)

-- where the job stands whose handler ran, by the event
abbrev pub place_of_ran : List Job → Event → Option ℕ
place_of_ran out (Ran t r y) = position (is_job t r) out
place_of_ran out _ = None

-- these facts finish a job of a node with these lists, at any clock
abbrev pub Finish : Lists → List Fact → Type 0
Finish s x =
    (clock : ℕ) → FinishesOne (at_clock clock s) x (at_clock clock (after_all clock s x))

-- no front of these facts finishes one, at any clock
abbrev pub FinishNone : Lists → List Fact → Type 0
FinishNone s facts =
    (clock : ℕ) → (x : List Fact) → (t : Timed) → Starts x facts
    → FinishesOne (at_clock clock s) x t → ⊥
