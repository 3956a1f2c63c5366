-- What the two ends of a session hold is of one call: the server's requests and jobs, and the
-- answers that calls take.
use Rattle.std.specs.Prelude.{ℕ, ◌≡◌, ◌+◌, ◌-◌, ◌*◌, ◌||◌, Bool, not, Some, is_none, List, []}
use Rattle.std.specs.Prelude.{length, take, slice_get, if◌then◌else◌, IfSome, Contains}
use Rattle.std.specs.List.{AllByRecursion}
use Rattle.rpc_base.specs.declared.limits.TheConstants.{PART_BYTES}
use Rattle.rpc_base.specs.declared.event.Event.TheVariants.{Ran}
use Rattle.rpc_base.specs.declared.fact.Fact.{Fact}
use Rattle.rpc_laws.specs.declared.tables.Asking.{Asking}
use Rattle.rpc_laws.specs.declared.tables.Job.{Job}
use Rattle.rpc_laws.specs.declared.tables.Lists.{Lists}
use Rattle.rpc_laws.specs.declared.tables.Progress.{Progress}
use Rattle.rpc_laws.specs.declared.tables.Served.{Served}
use Rattle.rpc_laws.specs.declared.tables.Way.{Way}
use Rattle.rpc_laws.specs.Calls.{asked_packets}
use Rattle.rpc_laws.specs.Endpoints.{Endpoint, Lived, noted_two}
use Rattle.rpc_laws.specs.OwnAnswer.{IsCallOf}
use Rattle.end_laws.specs.Moments.{Moment, Always, first_moment}

-- the endpoint that node n is now, by its lists, and the one at the other end of a way
abbrev pub here : ℕ → Lists → Endpoint
here n l = record { node = n; life = l.life }

abbrev pub peer_of : Way → Endpoint
peer_of way = record { node = way.peer; life = way.life }

-- the bytes of a request went away: a worker has them, or the handler ran
abbrev pub is_away : Served → Bool
is_away q = q.working || not (is_none q.answer)

-- the request in a slot of a server session is this call, which its client end began with this
-- number: of its type and size, with its parts taken in turn, until they went away. Its answer is
-- that of its run
pub record HoldsCall (past : List Lived) (m : Endpoint) (way : Way) (q : Served) (call room : ℕ)
    (ask : List ℕ) : Type 0 where
  pub own : IsCallOf past (peer_of way) call m way.number q.number q.req_type room ask
  pub size : q.size ≡ length ask
  pub parts : q.ask ≡ (if is_away q then [] else take (PART_BYTES * q.taken) ask)
  pub answer : IfSome q.answer (λ answer. Contains past
      (noted_two m (Ran way.number q.number q.req_type) ask answer))

pub record IsOfCall (past : List Lived) (m : Endpoint) (way : Way) (q : Served) : Type 0 where
  pub call : ℕ
  pub room : ℕ
  pub ask : List ℕ
  pub holds : HoldsCall past m way q call room ask

-- a background job is of a call that was begun with its number on its session: of that call's type,
-- with its whole bytes. Its session may have ended since
pub record IsOfJob (past : List Lived) (m : Endpoint) (job : Job) : Type 0 where
  pub node : Endpoint
  pub call : ℕ
  pub room : ℕ
  pub own : IsCallOf past node call m job.session job.request job.req_type room job.ask

-- what a call has taken of an answer are the first parts of the answer that its own request's run
-- gave
pub record IsOfRun (past : List Lived) (way : Way) (a : Asking) (p : Progress) (size : ℕ)
    : Type 0 where
  pub answer : List ℕ
  pub ran : Contains past
      (noted_two (peer_of way) (Ran way.other p.request a.req_type) a.ask answer)
  pub sized : size ≡ length answer
  pub parts : p.parts ≡ take (PART_BYTES * (p.got + 1 - asked_packets a)) answer

-- an active call was asked and began on its session, and what it took is of its own run
pub record IsOfSession (past : List Lived) (n : Endpoint) (way : Way) (a : Asking) (p : Progress)
    : Type 0 where
  pub own : IsCallOf past n a.number (peer_of way) way.other p.request a.req_type a.room a.ask
  pub answer : IfSome p.answer (IsOfRun past way a p)

-- so it is for each request in a slot of a server session, for each job that is out, and for each
-- active call of a client session
pub record TwoEnds (w : Moment) : Type 0 where
  pub servers : (m : ℕ) (l : Lists) → slice_get w.nodes m ≡ Some l
      → AllByRecursion (λ v. AllByRecursion (IsOfCall w.past (here m l) v.way) v.slots) l.servers
  pub jobs : (m : ℕ) (l : Lists) → slice_get w.nodes m ≡ Some l
      → AllByRecursion (IsOfJob w.past (here m l)) l.jobs.out
  pub clients : (n : ℕ) (l : Lists) → slice_get w.nodes n ≡ Some l
      → AllByRecursion (λ x. AllByRecursion (λ c. IfSome c.progress
      (IsOfSession w.past (here n l) x.way c.what)) x.calls) l.clients

-- so it is at each moment
abbrev pub AllTwoEnds : List Fact → Type 0
AllTwoEnds h = Always TwoEnds first_moment h
