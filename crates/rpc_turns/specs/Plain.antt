-- The endpoint with the plain service and a crew.
use Rattle.std.specs.Prelude.{◌≡◌, ℕ, List, [], length}
use Rattle.endpoint_loop.specs.PlainMembers.{plain_members}
use Rattle.endpoint_loop.specs.Endpoints.{Running}
use Rattle.rpc_base.specs.declared.fact.Fact.{Fact}
use Rattle.rpc_base.specs.declared.limits.Limits.{Limits}
use Rattle.rpc_base.specs.declared.limits.TheConstants.{USUAL_JOBS, USUAL_RING}
use Rattle.rpc_laws.specs.NodeLists.{new_node}
use Rattle.rpc_outside.specs.PlainAnswer.{background_answer}
use Rattle.rpc_outside.specs.Recording.{Log}
use Rattle.rpc_turns.specs.Turns.{GoesOnBy as GoesOnIn, Stands as StandsBy}
use Rattle.worker_crew.specs.Crews.{AreStarted, CrewState, team_of, untold}
use Rattle.worker_crew.specs.Dispatching.{jobs_in, looks_in}
use Rattle.worker_crew.specs.Hands.{HandName}
use Rattle.worker_crew.specs.declared.workers.Workers as Workers

-- a ring of 1,024 places, 64 jobs and a timeout of so many microseconds
abbrev pub limits_at : (timeout : ℕ) → Limits
limits_at timeout = record { ring = USUAL_RING; jobs = USUAL_JOBS; timeout = timeout }

-- an endpoint with the plain service, which is seen as its total, and with a crew
abbrev pub End : Type 0
End = Running ℕ CrewState

-- a crew with the plain service's duty, by what contracts see of workers: it tells neither which of
-- its jobs wait nor which are worked
abbrev pub crew_members : Workers.Ghosts CrewState
crew_members = record {
  answer = background_answer;
  limit = λ c. c.dispatching.places;
  out = λ c. jobs_in c.dispatching;
  given = λ c. c.dispatching.given;
  worked = untold;
  waiting = untold;
  looks = λ c. looks_in c.dispatching;
  team = team_of;
}

-- it stands for these facts, as the endpoint of node 0
abbrev pub Stands : Limits → List Fact → End → Type 0
Stands limits g e = StandsBy plain_members crew_members limits g e

-- it goes on by facts
abbrev pub GoesOnBy : {R : Type 0} → (R → Log) → (old new : End) → (before now : R) → Type 0
GoesOnBy log old new before now = GoesOnIn log plain_members crew_members old new before now

-- a crew for usual limits, to which no job was given
pub record IsFresh (c : CrewState) : Type 0 where
  pub limit : c.dispatching.places ≡ USUAL_JOBS
  pub given : c.dispatching.given ≡ 0
  pub none : jobs_in c.dispatching ≡ []

-- the endpoint of node 0 in this life with these limits and this crew, which noted nothing so far
pub record IsNew (life : ℕ) (limits : Limits) (c : CrewState) (e : End) : Type 0 where
  pub timed : e.timed ≡ new_node 0 life limits
  pub workers : e.workers ≡ c
  pub stands : Stands limits [] e

-- and its crew has so many hands, of which these are out
pub record IsCrewed (life : ℕ) (limits : Limits) (hands : ℕ) (out : List HandName) (e : End)
    : Type 0 where
  pub timed : e.timed ≡ new_node 0 life limits
  pub stands : Stands limits [] e
  pub made : length e.workers.dispatching.view.used ≡ hands
  pub started : AreStarted e.workers out
