-- The law of a run that relays, over the whole list of its facts: which call each job that was
-- given has, and by what each is answered.
use Rattle.std.specs.Prelude.{◌≡◌, ◌↔◌, ℕ, suc, ◌+◌, Bool, false, if◌then◌else◌, IsTrue, List, []}
use Rattle.std.specs.Prelude.{◌∷◌, ◌++◌, length, map, Option}
use Rattle.std.specs.List.{AllByRecursion, filter}
use Rattle.client_core.specs.Shown.{done_fact}
use Rattle.client_core.specs.declared.outcome.Done.{Done}
use Rattle.deferred_calls.specs.Law.{finished}
use Rattle.deferred_calls.specs.declared.job.Numbered.{Numbered}
use Rattle.endpoint_loop.specs.declared.endpoint.poll.Turn.{Turn}
use Rattle.node_steps.specs.Notes.{is_end}
use Rattle.given_laws.specs.Given.{given_in, name_of}
use Rattle.node_laws.specs.NodeRun.{LifeRun}
use Rattle.relay_steps.specs.Passing.{IsRefusal, nested_fact, Relayed}
use Rattle.relay_turns.specs.Turning.{at_work, job_out, Relayer, RelaysTurn}
use Rattle.relay_turns.specs.Working.{HasPending, Nested, WorksOn}
use Rattle.relays.specs.Relaying.{HasAnswer}
use Rattle.rpc_base.specs.Taking.{TakenOut}
use Rattle.rpc_base.specs.declared.fact.Fact.{Fact}
use Rattle.rpc_base.specs.declared.limits.Limits.{Limits}
use Rattle.rpc_laws.specs.Service.{rules_of}
use Rattle.rpc_laws.specs.declared.tables.Job.{Job}
use Rattle.rpc_laws.specs.declared.tables.Timed.{Timed}
use Rattle.rpc_outside.specs.declared.service.Service as Service
use Rattle.rpc_turns.specs.Moments.{Moment, Outside}
use Rattle.worker_board.specs.declared.Parcel.{Parcel}

-- so many turns of a run that relays, one after another, and what they noted
pub data TurnsRun {V L C R : Type 0} (service : Service.Ghosts V) (answer : ℕ → List ℕ → List ℕ)
    (o : Outside L C R) (from : Moment (Relayer V) L C R)
    : ℕ → List Fact → Moment (Relayer V) L C R → Type 0 where
  no_turn : TurnsRun service answer o from 0 [] from
  one_more : {many : ℕ} {g : List Fact} {mid : Moment (Relayer V) L C R}
      → TurnsRun service answer o from many g mid
      → (told : Option Turn) → (to : Moment (Relayer V) L C R)
      → (turn : RelaysTurn service answer o told mid to)
      → TurnsRun service answer o from (suc many) (g ++ turn.runs.goes.noted) to

-- a call that is over, and whether its job was answered with the other server's answer
pub record Over : Type 0 where
  pub nested : Nested
  pub done : Done
  pub relayed : Bool

-- how a job that was given was passed on: its call was asked, or it was refused, and then the job
-- was answered here
pub data Passing : Type 0 where
  asked : Nested → Passing
  refused : Numbered → Passing

abbrev pub job_passed : Passing → Numbered
job_passed (asked n) = n.job
job_passed (refused job) = job

-- the fact by which it was passed on: the Asked of its call, on the session with the other server,
-- of its type less 128, with its bytes; or the refusal of that call
abbrev pub IsFactOf : Passing → Fact → Type 0
IsFactOf (asked n) f = f ≡ nested_fact 0 n.call n.job
IsFactOf (refused job) f = IsRefusal 0 f

-- each job has its own fact, in order
abbrev pub AreFactsOf : List Passing → List Fact → Type 0
AreFactsOf [] [] = Unit {0}
AreFactsOf [] (f ∷ fs) = ⊥
AreFactsOf (p ∷ ps) [] = ⊥
AreFactsOf (p ∷ ps) (f ∷ fs) = IsFactOf p f × AreFactsOf ps fs

abbrev pub asked_of : List Passing → List Nested
asked_of [] = []
asked_of (asked n ∷ ps) = n ∷ asked_of ps
asked_of (refused job ∷ ps) = asked_of ps

abbrev pub refused_of : List Passing → List Numbered
refused_of [] = []
refused_of (asked n ∷ ps) = refused_of ps
refused_of (refused job ∷ ps) = job ∷ refused_of ps

-- a call that is over ended as its Done says, and its job was answered with the other server's
-- answer exactly where it ended well, with that job's answer
pub record IsOver (answer : ℕ → List ℕ → List ℕ) (o : Over) : Type 0 where
  pub call : o.done.call ≡ o.nested.call
  pub relayed : IsTrue o.relayed ↔ HasAnswer answer o.nested.job o.done

-- each of these calls was asked and not over, and is over now; the others are left
abbrev pub EndEach : List Nested → List Over → List Nested → Type 0
EndEach pending [] left = left ≡ pending
EndEach pending (x ∷ xs) left =
    (mid : List Nested) × TakenOut (λ n. false) x.nested pending mid × EndEach mid xs left

-- what is told of a turn: the facts of the endpoint's own turn, and those of the relaying; the
-- calls of jobs that were over in it; and the jobs that were given in it, as they were passed on
pub record TurnTold : Type 0 where
  pub turned : List Fact
  pub noted : List Fact
  pub over : List Over
  pub passed : List Passing

abbrev pub job_over : Over → Numbered
job_over o = o.nested.job

-- how many jobs were answered with the other server's answers, and how many here
abbrev pub by_other : Over → ℕ
by_other o = if o.relayed then 1 else 0

abbrev pub by_us : Over → ℕ
by_us o = if o.relayed then 0 else 1

abbrev pub count_relayed : List Over → ℕ
count_relayed [] = 0
count_relayed (o ∷ os) = by_other o + count_relayed os

abbrev pub count_here : List Over → ℕ
count_here [] = 0
count_here (o ∷ os) = by_us o + count_here os

-- the jobs that were answered in a turn, in order: those whose calls were over in it, and those
-- whose calls were refused in it
abbrev pub answered_in : TurnTold → List Numbered
answered_in t = map job_over t.over ++ refused_of t.passed

-- between turns: the calls of jobs that are asked and not over, the parcels of the jobs that are
-- answered and not taken, and how many were answered with the other server's answers, and how many
-- here
pub record Book : Type 0 where
  pub pending : List Nested
  pub answered : List Parcel
  pub relayed : ℕ
  pub here : ℕ

-- no job was asked or answered so far
abbrev pub new_book : Book
new_book = record { pending = []; answered = []; relayed = 0; here = 0 }

-- a run that notes these facts leaves its node with these jobs given last
pub record GaveLast (IsRunTo : Timed → Type 0) (jobs : List Job) : Type 0 where
  pub at : Timed
  pub runs : IsRunTo at
  pub others : List Job
  pub out : at.lists.jobs.out ≡ others ++ jobs

-- the deferred promise of one turn, whose facts come behind `past`
pub record KeepsTurn {V : Type 0} (service : Service.Ghosts V) (answer : ℕ → List ℕ → List ℕ)
    (life : ℕ) (limits : Limits) (past : List Fact) (t : TurnTold) (old new : Book) : Type 0 where
  -- the jobs of its Given facts, with their types and bytes, are those that are passed on in it
  pub given : given_in t.turned ≡ map (λ p. name_of (job_passed p).parcel) t.passed
  pub gave : GaveLast (λ s. LifeRun (rules_of service) 0 life limits (past ++ t.turned) s)
      (map (λ p. job_out (job_passed p).parcel) t.passed)
  -- each by a fact of its own, behind its Given
  pub facts : AreFactsOf t.passed t.noted
  -- the calls that are over in it are of jobs whose Asked came before, and which weren't answered
  pub ends : filter is_end t.turned ≡ map (λ o. done_fact 0 o.done) t.over
  pub over : AllByRecursion (IsOver answer) t.over
  pub left : List Nested
  pub were_pending : EndEach old.pending t.over left
  pub pending : new.pending ≡ left ++ asked_of t.passed
  -- the jobs of these, and those whose calls are refused in it, are answered in it, and no others
  pub taken : List Parcel
  pub answers : old.answered ++ map (finished answer) (answered_in t) ≡ taken ++ new.answered
  -- and are counted
  pub relayed : new.relayed ≡ old.relayed + count_relayed t.over
  pub here : new.here ≡ old.here + count_here t.over + length (refused_of t.passed)

-- the facts of a turn
abbrev pub facts_of : TurnTold → List Fact
facts_of t = t.turned ++ t.noted

-- the deferred promise, turn after turn, from these facts and this book on
pub data KeepsTurns {V : Type 0} (service : Service.Ghosts V) (answer : ℕ → List ℕ → List ℕ)
    (life : ℕ) (limits : Limits) (past : List Fact) (old : Book)
    : List TurnTold → List Fact → Book → Type 0 where
  keeps_none : KeepsTurns service answer life limits past old [] [] old
  keeps_more : {ts : List TurnTold} {g : List Fact} {mid : Book}
      → KeepsTurns service answer life limits past old ts g mid → (t : TurnTold) → (new : Book)
      → KeepsTurn service answer life limits (past ++ g) t mid new
      → KeepsTurns service answer life limits past old (ts ++ t ∷ []) (g ++ facts_of t) new

-- how many jobs were answered
abbrev pub count_answered : List TurnTold → ℕ
count_answered [] = 0
count_answered (t ∷ ts) = length (answered_in t) + count_answered ts

-- the deferred promise of a run: it holds of each turn, and the two counts are those of the jobs
-- that were answered
pub record KeepsDeferred {V : Type 0} (service : Service.Ghosts V) (answer : ℕ → List ℕ → List ℕ)
    (life : ℕ) (limits : Limits) (past : List Fact) (g : List Fact) (old new : Book) : Type 0
  where
    pub turns : List TurnTold
    pub each : KeepsTurns service answer life limits past old turns g new
    pub counts : new.relayed + new.here ≡ old.relayed + old.here + count_answered turns

-- the book of a moment
pub record IsBookOf {V : Type 0} (s : Relayed V) (b : Book) : Type 0 where
  pub pending : HasPending b.pending s
  pub answered : b.answered ≡ s.endpoint.workers.answered
  pub relayed : b.relayed ≡ s.relays.relayed
  pub here : b.here ≡ s.relays.here

-- the law: turns of a run that works on keep the deferred promise, from the book of the first
-- moment to that of the last, and the run works on behind them
abbrev pub TurnsKeep : {V L C R : Type 0} → Service.Ghosts V → (ℕ → List ℕ → List ℕ)
    → Outside L C R → Type 0
TurnsKeep {V} {L} {C} {R} service answer o =
    (limits : Limits) (past g : List Fact) (many : ℕ) (from to : Moment (Relayer V) L C R)
    (old : Book)
    → WorksOn service answer limits past (at_work from.run) → IsBookOf (at_work from.run) old
    → TurnsRun service answer o from many g to
    → (new : Book) × IsBookOf (at_work to.run) new
    × WorksOn service answer limits (past ++ g) (at_work to.run)
    × KeepsDeferred service answer from.run.endpoint.timed.lists.life limits past g old new
