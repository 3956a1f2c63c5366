-- What a script works on, and what the services of its nodes answered.
use Rattle.std.specs.Prelude.{ℕ, ◌≡◌, false, List, get_or, map}
use Rattle.std.specs.List.{filter, list_any}
use Rattle.rpc_base.specs.declared.fact.Fact.{Fact}
use Rattle.endpoint_loop.specs.Endpoints.{Running, told}
use Rattle.network_model.specs.declared.stage.Stage.{Stage}
use Rattle.rpc_laws.specs.declared.tables.InFlight.{InFlight}
use Rattle.rpc_laws.specs.declared.tables.Timed.{Timed}
use Rattle.rpc_laws.specs.declared.tables.WorkedJob.{WorkedJob}
use Rattle.rpc_laws.specs.AtMostOnce.{is_at}
use Rattle.rpc_laws.specs.Service.{Answers, plain_serving, served_after_all}
use Rattle.rpc_outside.specs.PlainAnswer.{plain_mode}
use Rattle.rpc_outside.specs.PlainStands.{PlainStands}
use Rattle.rpc_outside.specs.Served.{Served}
use Rattle.sim_script.specs.FollowsScript.{is_wanting}
use Rattle.worker_crew.specs.Local.{Local, out_of}

-- an endpoint with the plain service, which is seen as its total, and with workers on the world's
-- own thread
abbrev pub End : Type 0
End = Running ℕ Local

-- the endpoints of a script's nodes in the order of their numbers, the copies in flight, the jobs
-- that were worked and aren't finished, and the clock
pub record Play : Type 0 where
  pub ends : List End
  pub flight : List InFlight
  pub worked : List WorkedJob
  pub clock : ℕ

-- a node as scripts see it: each job of its endpoint asks what the workers have of it
abbrev pub told_end : End → Timed
told_end e = told (out_of e.workers) e.timed

abbrev pub stage_of : Play → Stage
stage_of s = record {
  nodes = map told_end s.ends;
  flight = s.flight;
  worked = s.worked;
  clock = s.clock;
}

-- the total of the tallies that the service of each node served
abbrev pub totals_of : Play → List ℕ
totals_of s = map (λ e. e.service) s.ends

-- that of node n, 0 before it is made
abbrev pub total_at : ℕ → List ℕ → ℕ
total_at n totals = get_or totals n 0

-- the facts of one node
abbrev pub facts_at : ℕ → List Fact → List Fact
facts_at n x = filter (λ f. is_at n f.who) x

-- none of these facts tells that something was wanting
abbrev pub Whole : List Fact → Type 0
Whole x = list_any (λ f. is_wanting f.event) x ≡ false

-- where the tallies that were served before add up to total, each Ran of these facts has its
-- answer, and they add up to next after them
abbrev pub ServesAll : (total next : ℕ) → List Fact → Type 0
ServesAll total next x =
    (served : Served) → PlainStands total served
    → Answers plain_serving served x × PlainStands next (served_after_all plain_mode served x)

-- each Ran of these facts has its answer, and none of them runs in the event loop
abbrev pub Quiet : List Fact → Type 0
Quiet x =
    (served : Served)
    → Answers plain_serving served x × (served_after_all plain_mode served x ≡ served)

-- at each node the facts answer as the plain service does, and none of them tells that something
-- was wanting
pub record Plainly (x : List Fact) (old new : List ℕ) : Type 0 where
  pub whole : Whole x
  pub serves : (n : ℕ) → ServesAll (total_at n old) (total_at n new) (facts_at n x)
