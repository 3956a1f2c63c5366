-- One turn of a run that relays: the endpoint's own turn, then the ends of calls, then the jobs
-- that were given.
use Rattle.std.specs.Prelude.{◌≡◌, ℕ, List, [], ◌∷◌, ◌++◌, map, Option, Result, Ok, Err}
use Rattle.std.specs.List.{filter}
use Rattle.client_core.specs.Shown.{done_fact}
use Rattle.client_core.specs.declared.outcome.Done.{Done}
use Rattle.deferred_calls.specs.Desks.{HasNumbers, Jobs, out_of, parcel_of}
use Rattle.deferred_calls.specs.declared.job.Numbered.{Numbered}
use Rattle.desk_laws.specs.Staying.{desk_members, with_desk}
use Rattle.endpoint_loop.specs.Endpoints.{Running, told as lists_told}
use Rattle.endpoint_loop.specs.declared.endpoint.poll.Turn.{Turn}
use Rattle.node_steps.specs.Changes.{Change}
use Rattle.node_steps.specs.Handed.{HandBack}
use Rattle.node_steps.specs.Notes.{asked_in, is_end}
use Rattle.given_laws.specs.Given.{given_in, name_of}
use Rattle.message_buffer.specs.Buffer.{bytes_of}
use Rattle.relay_steps.specs.Passing.{Passes, PassesAll, Relayed, relayed, StandsAfter}
use Rattle.relay_turns.specs.declared.turn.TurnFault.{TurnFault}
use Rattle.relay_turns.specs.declared.turn.TurnFault.TheVariants.{LinkFault, NoMemory}
use Rattle.relays.specs.Relaying.{GoesOn, Relaying, Settles, Stands as StandsWith}
use Rattle.rpc_base.specs.declared.fact.Fact.{Fact}
use Rattle.rpc_laws.specs.declared.tables.Job.{Job}
use Rattle.rpc_outside.specs.Recording.{Grew, Log}
use Rattle.rpc_outside.specs.declared.service.Service as Service
use Rattle.rpc_turns.specs.Moments.{Moment, Outside, Rested, rested, where_at}
use Rattle.rpc_turns.specs.Queue.{KeepsAll}
use Rattle.rpc_turns.specs.Turns.{RunsOn, TakesTurn, TellsTurn}
use Rattle.rpc_turns.specs.declared.ended.Ended.{Ended}
use Rattle.rpc_turns.specs.declared.rest.Rest.{Rest}
use Rattle.worker_board.specs.declared.Parcel.{Parcel}

-- an endpoint over a desk, what its run does where nothing comes, and the jobs that were asked of
-- another server
pub record Relayer (V : Type 0) : Type 0 where
  pub endpoint : Running V Jobs
  pub rest : Rest
  pub relays : Relaying

abbrev pub relayer : {V : Type 0} → Running V Jobs → Rest → Relaying → Relayer V
relayer e rest r = record { endpoint = e; rest = rest; relays = r }

-- the same, without the rest
abbrev pub at_work : {V : Type 0} → Relayer V → Relayed V
at_work w = relayed w.endpoint w.relays

-- the same moment, of its endpoint alone, and with what it does where nothing comes
abbrev pub endpoint_at : {V L C R : Type 0} → Moment (Relayer V) L C R
    → Moment (Running V Jobs) L C R
endpoint_at m = record { run = m.run.endpoint; edges = m.edges }

abbrev pub rested_at : {V L C R : Type 0} → Moment (Relayer V) L C R
    → Moment (Rested V Jobs) L C R
rested_at m = record { run = rested m.run.endpoint m.run.rest; edges = m.edges }

-- the ends of these calls are settled, one after another; behind each the handles that are out are
-- of the jobs that were asked
abbrev pub SettlesAll : (ℕ → List ℕ → List ℕ) → List Done → (desk last : Jobs)
    → (old new : Relaying) → Type 0
SettlesAll answer [] desk last old new = (last ≡ desk) × (new ≡ old)
SettlesAll answer (d ∷ ds) desk last old new =
    (then : Jobs) × (between : Relaying) × Settles answer d desk then old between
    × StandsWith then [] between × SettlesAll answer ds then last between new

-- the ends of these calls are settled, and then all jobs that wait are passed on
pub record RelaysAll {V R : Type 0} (log : R → Log) (service : Service.Ghosts V)
    (answer : ℕ → List ℕ → List ℕ) (dones : List Done) (old new : Relayed V) (before now : R)
    : Type 0 where
  pub numbers : HasNumbers old.endpoint.workers.handled
  pub settled : Running V Jobs
  pub between : Relaying
  pub others : settled ≡ with_desk old.endpoint settled.workers
  pub settles : SettlesAll answer dones old.endpoint.workers settled.workers old.relays between
  pub passes : PassesAll log service answer (relayed settled between) new before now
  pub handles : StandsWith new.endpoint.workers [] new.relays

-- the job of a parcel, as a node's lists have it
abbrev pub job_out : Parcel → Job
job_out p =
    record { session = p.session; request = p.request; req_type = p.req_type; ask = bytes_of p.ask }

-- these jobs are the last of those that are out at a node, with their types and their bytes
pub record AreOut {V : Type 0} (gave : List Parcel) (e : Running V Jobs) : Type 0 where
  pub others : List Job
  pub out : (lists_told (out_of e.workers) e.timed).lists.jobs.out ≡ others ++ map job_out gave

-- what a turn does with calls and jobs. `turned` are the facts of the endpoint's own turn, which
-- leaves it as `mid`: calls are over in it, and jobs are given. Then the calls that are over are
-- settled, in order; and then the jobs that were given get their handles and are passed on, in
-- order, each by its fact in `asked`
pub record Relays {V : Type 0} (answer : ℕ → List ℕ → List ℕ) (turned asked : List Fact)
    (old : Relayed V) (mid : Running V Jobs) (new : Relayed V) : Type 0 where
  -- the calls that are over
  pub dones : List Done
  pub ends : filter is_end turned ≡ map (done_fact 0) dones
  pub back : HandBack dones old.endpoint.handed mid.handed
  -- the jobs that are given: those of its Given facts
  pub gave : List Parcel
  pub given : given_in turned ≡ map name_of gave
  pub out : AreOut gave mid
  pub goes : GoesOn gave old.endpoint.workers mid.workers
  -- no two jobs whose handles are out have one number
  pub numbers : HasNumbers mid.workers.handled
  -- the answered jobs that it took
  pub taken : List Parcel
  pub answered : old.endpoint.workers.answered ≡ taken ++ mid.workers.answered
  -- no other call is asked
  pub asks : asked_in turned ≡ 0
  pub desk : Jobs
  pub between : Relaying
  pub settles : SettlesAll answer dones mid.workers desk old.relays between
  pub jobs : List Numbered
  pub are_given : map parcel_of jobs ≡ gave
  pub passes : Passes answer (relayed (with_desk mid desk) between) jobs asked new
  -- and then the handles that are out are of the jobs that were asked, and no job waits for one
  pub handles : StandsWith new.endpoint.workers [] new.relays
  pub none_waits : new.endpoint.workers.waiting ≡ []

-- a turn of a run that relays. The endpoint makes a turn of its own, and the recorder grows by the
-- facts of that and then by those of the jobs that are passed on: by all of these the endpoint goes
-- on, and the link sends just what they say. `memory` counts what was refused in its own turn
pub record RelaysTurn {V L C R : Type 0} (service : Service.Ghosts V)
    (answer : ℕ → List ℕ → List ℕ) (o : Outside L C R) (told : Option Turn)
    (old new : Moment (Relayer V) L C R) : Type 0 where
  pub mid : Running V Jobs
  pub mid_rec : R
  pub from : Ended
  pub to : Ended
  pub memory : Change ℕ
  pub takes : TakesTurn service (desk_members answer) o KeepsAll told (rested_at old)
      (where_at (rested mid new.run.rest) new.edges.link new.edges.clock mid_rec) from to memory
  pub tells : TellsTurn service (desk_members answer) o KeepsAll (endpoint_at old)
      (where_at mid new.edges.link new.edges.clock mid_rec) from to
  pub asked : List Fact
  pub grew : Grew (o.log mid_rec) (o.log new.edges.rec) asked
  pub after : StandsAfter service answer asked mid new.run.endpoint
  pub relays : Relays answer tells.goes.noted asked (at_work old.run) mid (at_work new.run)
  pub runs : RunsOn service (desk_members answer) o (endpoint_at old) (endpoint_at new) 1
  pub noted : runs.goes.noted ≡ tells.goes.noted ++ asked

-- what holds where a turn found the memory that it wanted
abbrev pub UnlessWanting : Result Turn TurnFault → Type 0 → Type 0
UnlessWanting (Ok turn) P = P
UnlessWanting (Err LinkFault) P = P
UnlessWanting (Err NoMemory) P = Unit {0}

-- how many wants of memory a fault of a turn tells of
abbrev pub lacks_for : TurnFault → ℕ
lacks_for LinkFault = 0
lacks_for NoMemory = 1
