-- Jobs that are finished: whose they are, what is known of what they asked, and where their answers
-- go.
use Rattle.std.specs.Prelude.{◌≡◌, ℕ, ◌<◌, ◌==◌, ◌&&◌, ◌++◌, Bool, Option, Some, None, IfSome}
use Rattle.std.specs.Prelude.{option_map, List, [], ◌∷◌, length, sum_by}
use Rattle.std.specs.List.{AllByRecursion, find}
use Rattle.message_buffer.specs.Buffer.{bytes_of}
use Rattle.packet_header.specs.Parts.{IsMessage}
use Rattle.packet_rings.specs.Values.{EntryValue}
use Rattle.rpc_base.specs.Tables.{without_first}
use Rattle.rpc_base.specs.declared.fact.Fact.{Fact}
use Rattle.rpc_laws.specs.declared.tables.Job.{Job}
use Rattle.rpc_laws.specs.declared.tables.Server.{Server}
use Rattle.rpc_laws.specs.declared.tables.Timed.{Timed}
use Rattle.rpc_laws.specs.Jobs.{is_job}
use Rattle.rpc_laws.specs.PollOrder.{finished_facts}
use Rattle.rpc_laws.specs.Queues.{replies}
use Rattle.rpc_laws.specs.Steps.{Rel, Goes, Then}
use Rattle.rpc_outside.specs.Recording.{Grew, Log}
use Rattle.rpc_outside.specs.declared.service.Mode.{Mode}
use Rattle.rpc_outside.specs.declared.service.Mode.TheVariants.{Background}
use Rattle.session_store.specs.Changes.{FinishesAt}
use Rattle.worker_board.specs.declared.Parcel.{Parcel}
use Rattle.worker_crew.specs.Jobs.{FoundUnfinished, IsAnswered, Job as CrewJob}
use Rattle.node_steps.specs.Changes.{◌⟶◌, Change}
use Rattle.node_steps.specs.Seen.{Asks, asking}
use Rattle.node_steps.specs.declared.jobs.JobName.{JobName}
use Rattle.worker_crew.specs.declared.workers.Workers as Workers

-- whether a job that is out is that of request r of session t
abbrev pub is_named : (t r : ℕ) → JobName → Bool
is_named t r n = n.session == t && n.request == r

-- all jobs that are out are of types that workers answer
abbrev pub AllBackground : (ℕ → Mode) → List Job → Type 0
AllBackground mode jobs = AllByRecursion (λ job. mode job.req_type ≡ Background) jobs

-- what the job of a parcel asks are the parcel's bytes
abbrev pub AsksOf : Parcel → Asks → Type 0
AsksOf p asks = asks p.session p.request ≡ bytes_of p.ask

-- a worker's answer goes to the request of a server session, where the session stands
abbrev pub AnswersTo : Option ℕ → (r : ℕ) → List ℕ → Option EntryValue → List Server → List Server
    → Type 0
AnswersTo None r bytes o old new = (o ≡ None) × (new ≡ old)
AnswersTo (Some i) r bytes o old new = FinishesAt i r bytes o old new

-- a job that is out, with what it asks, as the workers have it
abbrev pub asked_job : Asks → Job → CrewJob
asked_job asks job = record {
  session = job.session;
  request = job.request;
  req_type = job.req_type;
  ask = asks job.session job.request;
}

-- the answer to such a job is no longer than a message
abbrev pub CanFinish : (answer : ℕ → List ℕ → List ℕ) → Asks → Job → Type 0
CanFinish answer asks job =
    IsMessage (length (answer job.req_type (asks job.session job.request)))

-- the workers, which answer so, have exactly the jobs of the node that are out, and these ask so:
-- however jobs are counted, the two counts are the same
pub record Agree (answer : ℕ → List ℕ → List ℕ) (asks : Asks) (out : List CrewJob) (s : Timed)
    : Type 0 where
  pub same : (count : CrewJob → ℕ)
      → sum_by (λ job. count (asked_job asks job)) s.lists.jobs.out ≡ sum_by count out
  pub ready : AllByRecursion (CanFinish answer asks) s.lists.jobs.out

-- what the workers of a node are, beside what they answer: how many jobs they take, how many they
-- were given, which are out, and which of them wait to be worked, where that is told
pub record Staff : Type 0 where
  pub limit : ℕ
  pub given : ℕ
  pub out : List CrewJob
  pub waiting : Option (List Parcel)

abbrev pub staff_of : {W : Type 0} → Workers.Ghosts W → W → Staff
staff_of w workers = record {
  limit = w.limit workers;
  given = w.given workers;
  out = w.out workers;
  waiting = w.waiting workers;
}

-- workers before a step and after it: how they answer, and what they were and are
pub record StaffChange : Type 0 where
  pub answer : ℕ → List ℕ → List ℕ
  pub old : Staff
  pub new : Staff

abbrev pub staffed_by : (ℕ → List ℕ → List ℕ) → Change Staff → StaffChange
staffed_by answer staff = record { answer = answer; old = staff.old; new = staff.new }

abbrev pub staff_change : {W : Type 0} → Workers.Ghosts W → Change W → StaffChange
staff_change w crew = staffed_by w.answer (staff_of w crew.old ⟶ staff_of w crew.new)

-- workers that have exactly the jobs of the node take as many as the node does, and were given as
-- many
pub record AreStaffed (answer : ℕ → List ℕ → List ℕ) (asks : Asks) (staff : Staff) (s : Timed)
    : Type 0 where
  pub agree : Agree answer asks staff.out s
  pub limit_is : staff.limit ≡ s.lists.jobs.limit
  pub given_is : staff.given ≡ s.lists.jobs.given

-- the job of this request is finished with its worker's answer, while fewer replies are queued than
-- the ring is long
pub record FinishesBy (answer : ℕ → List ℕ → List ℕ) (session request : ℕ) (s : Timed)
    (x : List Fact) (t : Timed) : Type 0 where
  pub room : replies s.lists.queued < s.lists.room
  pub job : Job
  pub is_out : find (is_job session request) s.lists.jobs.out ≡ Some job
  pub facts : x ≡ finished_facts (answer job.req_type job.ask) s.lists job
  pub goes : Goes s x t

-- the jobs of these parcels are, one after another
abbrev pub FinishesThese : (ℕ → List ℕ → List ℕ) → List Parcel → Rel
FinishesThese answer [] s x t = (x ≡ []) × (t ≡ s)
FinishesThese answer (p ∷ ps) s x t =
    Then (FinishesBy answer p.session p.request) (FinishesThese answer ps) s x t

-- the jobs without those of these parcels
abbrev pub jobs_left : List Parcel → List Job → List Job
jobs_left [] out = out
jobs_left (p ∷ ps) out = jobs_left ps (without_first (is_job p.session p.request) out)

-- jobs that came back are finished, each with its answer. Where the workers tell which jobs are
-- worked, these are the first of them, in order. The others are out
pub record FinishesTaken (answer : ℕ → List ℕ → List ℕ) (later : List CrewJob)
    (worked rest : Option (List Parcel)) (asks : Asks) (s : Timed) (x : List Fact) (t : Timed)
    : Type 0 where
  pub parcels : List Parcel
  pub answered : AllByRecursion (IsAnswered answer) parcels
  pub finishes : FinishesThese answer parcels (asking asks s) x (asking asks t)
  pub first : worked ≡ option_map (λ ps. parcels ++ ps) rest
  pub left : t.lists.jobs ≡ record s.lists.jobs { out = jobs_left parcels s.lists.jobs.out }
  pub agree : Agree answer asks later t

-- so it is, whatever the jobs ask, as long as the workers had exactly the jobs of the node: what
-- they have out, and what of it is worked, changes with the node
pub record MakesFinished {R : Type 0} (log : R → Log) (answer : ℕ → List ℕ → List ℕ)
    (out : Change (List CrewJob)) (worked : Change (Option (List Parcel))) (node : Change Timed)
    (rec : Change R) : Type 0 where
  pub noted : List Fact
  pub grew : Grew (log rec.old) (log rec.new) noted
  pub step : (asks : Asks) → Agree answer asks out.old node.old
      → FinishesTaken answer out.new worked.old worked.new asks node.old noted node.new

-- no job came back: none is worked, where that is told; and where it isn't, no job is out, or each
-- was found unfinished
abbrev pub NoneBack : Option (List Parcel) → (out looks later : ℕ) → Type 0
NoneBack worked out looks later =
    IfSome worked (λ ps. ps ≡ []) × FoundUnfinished worked out looks later
