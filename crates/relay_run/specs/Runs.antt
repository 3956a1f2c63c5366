-- A run of a server that asks its background calls of another one.
use Rattle.std.specs.Prelude.{◌≡◌, ℕ, ◌+◌, ◌≤◌, ◌==◌, ◌⊎◌, ◌∷◌, ◌++◌, List, [], length}
use Rattle.std.specs.Prelude.{if◌then◌else◌, Bool, Option, Result, Ok, Err}
use Rattle.command_line.specs.Words.{ServeWords}
use Rattle.count_line.specs.Line.{line_text}
use Rattle.count_line.specs.declared.word.Word.TheVariants as word
use Rattle.deferred_calls.specs.Desks.{Jobs}
use Rattle.desk_laws.specs.Staying.{desk_members}
use Rattle.endpoint_loop.specs.Endpoints.{Running}
use Rattle.endpoint_loop.specs.PlainMembers.{plain_members}
use Rattle.endpoint_loop.specs.declared.endpoint.poll.Turn.{Turn}
use Rattle.relay_run.specs.declared.opening.TheConstants.{RELAY_CREDITS}
use Rattle.relay_steps.specs.Passing.{StandsAfter}
use Rattle.relay_turns.specs.Deferred.{Book, IsBookOf, KeepsDeferred, TurnsRun}
use Rattle.relay_turns.specs.Deferred.{new_book}
use Rattle.relay_turns.specs.Turning.{Relayer, RelaysTurn, at_work, relayer}
use Rattle.relay_turns.specs.Working.{IsAtWork, WorksOn}
use Rattle.relay_turns.specs.declared.turn.TurnFault.{TurnFault}
use Rattle.relay_turns.specs.declared.turn.TurnFault.TheVariants.{LinkFault, NoMemory}
use Rattle.relays.specs.Relaying.{Relaying}
use Rattle.rpc_base.specs.declared.event.Event.TheVariants.{Opened}
use Rattle.rpc_base.specs.declared.fact.Fact.{Fact}
use Rattle.rpc_base.specs.declared.limits.Limits.{Limits}
use Rattle.rpc_base.specs.declared.limits.TheConstants.{USUAL_JOBS}
use Rattle.rpc_laws.specs.Facts.{plain}
use Rattle.rpc_laws.specs.NodeLists.{new_node}
use Rattle.rpc_laws.specs.declared.tables.Counted.{Counted}
use Rattle.memory_count.specs.Faults.{HasRisen}
use Rattle.rpc_outside.specs.PlainAnswer.{background_answer}
use Rattle.rpc_outside.specs.Recording.{Grew, Log}
use Rattle.rpc_outside.specs.Writing.{Broke, Wrote, Written}
use Rattle.rpc_outside.specs.declared.link.Link as Link
use Rattle.rpc_turns.specs.Moments.{Edges, Moment, Outside, where_at}
use Rattle.rpc_turns.specs.Plain.{limits_at}
use Rattle.rpc_turns.specs.Rests.{resting}
use Rattle.rpc_turns.specs.Turns.{HasTurned, RunsOn, Stands as StandsBy}
use Rattle.rpc_turns.specs.declared.rest.Rest.{Rest}
use Rattle.run_status.specs.Starting.{KeepsTraffic, Reaches}
use Rattle.run_status.specs.Words.{sleeps}
use Rattle.run_status.specs.declared.going.Going.{Going}
use Rattle.run_status.specs.declared.going.Going.TheVariants.{On, Over}
use Rattle.run_status.specs.declared.status.Status.{Status}
use Rattle.run_status.specs.declared.status.Status.TheVariants as status
use Rattle.serve_run.specs.Serving.{HasNotRun}
use Rattle.worker_crew.specs.declared.workers.Workers as Workers

-- an endpoint with the plain service, which is seen as its total, and with a desk
abbrev pub DeskEnd : Type 0
DeskEnd = Running ℕ Jobs

-- the desk with the plain service's duty, by what contracts see of workers
abbrev pub plain_desk : Workers.Ghosts Jobs
plain_desk = desk_members background_answer

-- it stands for these facts, as the endpoint of node 0
abbrev pub Stands : Limits → List Fact → DeskEnd → Type 0
Stands limits g e = StandsBy plain_members plain_desk limits g e

-- a desk for so many jobs, to which none was given
abbrev pub empty_desk : ℕ → Jobs
empty_desk limit = record {
  limit = limit;
  given = 0;
  waiting = [];
  handled = [];
  answered = [];
}

-- and no job was asked of the other server, and none answered
abbrev pub none_relayed : ℕ → Relaying
none_relayed limit = record { limit = limit; asked = []; relayed = 0; here = 0 }

-- the endpoint of node 0 in this life with these limits and an empty desk, which noted nothing so
-- far
pub record IsNew (life : ℕ) (limits : Limits) (e : DeskEnd) : Type 0 where
  pub timed : e.timed ≡ new_node 0 life limits
  pub workers : e.workers ≡ empty_desk limits.jobs
  pub handed : e.handed ≡ []
  pub stands : Stands limits [] e

-- the recorder grew by the opening of the endpoint's next client session with this peer, and of
-- nothing else
pub record Opens {R : Type 0} (log : R → Log) (peer : ℕ) (old new : DeskEnd) (before now : R)
    : Type 0 where
  pub noted : List Fact
  pub opens : noted
      ≡ plain old.timed.lists.me (Opened (length old.timed.lists.clients) peer RELAY_CREDITS) ∷ []
  pub grew : Grew (log before) (log now) noted
  pub stands : StandsAfter plain_members background_answer noted old new
  pub workers : new.workers ≡ old.workers
  pub handed : new.handed ≡ old.handed ++ [] ∷ []

-- its endpoint, what it does where nothing comes, the jobs that were asked of the other server, the
-- turns that it makes, and how many it made
pub record RelaysSoFar : Type 0 where
  pub endpoint : DeskEnd
  pub rest : Rest
  pub relays : Relaying
  pub turns : ℕ
  pub made : ℕ

-- the same, as a turn has it
abbrev pub relayer_in : RelaysSoFar → Relayer ℕ
relayer_in s = relayer s.endpoint s.rest s.relays

-- the same moment, as a turn has it, and of its endpoint alone
abbrev pub relayer_at : {L C R : Type 0} → Moment RelaysSoFar L C R → Moment (Relayer ℕ) L C R
relayer_at m = record { run = relayer_in m.run; edges = m.edges }

abbrev pub end_at : {L C R : Type 0} → Moment RelaysSoFar L C R → Moment DeskEnd L C R
end_at m = record { run = m.run.endpoint; edges = m.edges }

-- what holds between its turns
abbrev pub IsRelaying : RelaysSoFar → Type 0
IsRelaying s = IsAtWork plain_members background_answer (at_work (relayer_in s))

abbrev pub one_more : (endpoint : DeskEnd) → Rest → Relaying → RelaysSoFar → RelaysSoFar
one_more endpoint rest relays s =
    record s { endpoint = endpoint; rest = rest; relays = relays; made = s.made + 1 }

-- one turn was made and counted
pub record HasRelayed {L C R : Type 0} (o : Outside L C R) (old new : Moment RelaysSoFar L C R)
    : Type 0 where
  pub told : Option Turn
  pub turn : RelaysTurn plain_members background_answer o told (relayer_at old) (relayer_at new)
  pub counted : new.run ≡ one_more new.run.endpoint new.run.rest new.run.relays old.run

-- so many turns were made, one after another, as many as are counted: what their facts tell stands
-- beside them
pub record RelaysOn {L C R : Type 0} (o : Outside L C R) (old new : Moment RelaysSoFar L C R)
    : Type 0 where
  pub many : ℕ
  pub made : new.run.made ≡ old.run.made + many
  pub turns : new.run.turns ≡ old.run.turns
  pub runs : RunsOn plain_members plain_desk o (end_at old) (end_at new) many
  pub each : TurnsRun plain_members background_answer o (relayer_at old) many runs.goes.noted
      (relayer_at new)

-- so many turns were made, of which the last may have lacked memory
pub record TurnsOn {L C R : Type 0} (o : Outside L C R) (old new : Moment RelaysSoFar L C R)
    : Type 0 where
  pub many : ℕ
  pub made : new.run.made ≡ old.run.made + many
  pub turns : new.run.turns ≡ old.run.turns
  pub runs : RunsOn plain_members plain_desk o (end_at old) (end_at new) many

-- what holds where a turn found the memory that it wanted
abbrev pub UnlessNoMemory : Going → Type 0 → Type 0
UnlessNoMemory (Over status.NoMemory) claim = Unit {0}
UnlessNoMemory _ claim = claim

-- how it goes on after a turn, where all are made or some are left
abbrev pub going_after : Result Turn TurnFault → (all_made : Bool) → Going
going_after (Err NoMemory) all_made = Over status.NoMemory
going_after (Err LinkFault) all_made = Over status.LinkFault
going_after (Ok turn) all_made = if all_made then Over status.Done else On

-- it is over where all turns are made
abbrev pub going_at : RelaysSoFar → Going
going_at s = if s.made == s.turns then Over status.Done else On

-- what a turn answers: that there was no memory; that the link failed; or how it goes on, where
-- neither is so
abbrev pub Answers : (before now : ℕ) → RelaysSoFar → Going → Type 0
Answers before now s going =
    (going ≡ Over status.NoMemory)
    ⊎ (((going ≡ Over status.LinkFault) × HasRisen before now)
    ⊎ ((going ≡ going_at s) × (now ≡ before)))

-- `turns T ran R given J dropped D overflowed O relayed X here Y`
abbrev pub relays_line : (turns : ℕ) → Counted → (answered_there answered_here : ℕ) → List ℕ
relays_line turns c answered_there answered_here =
    line_text (record { word = word.Turns; number = turns }
    ∷ record { word = word.Ran; number = c.ran } ∷ record { word = word.Given; number = c.given }
    ∷ record { word = word.Dropped; number = c.dropped }
    ∷ record { word = word.Overflowed; number = c.overflowed }
    ∷ record { word = word.Relayed; number = answered_there }
    ∷ record { word = word.Here; number = answered_here } ∷ [])

abbrev pub line_of : RelaysSoFar → List ℕ
line_of s =
    relays_line s.turns s.endpoint.timed.lists.counts s.relays.relayed s.relays.here

-- how the turns of a run end: all are made; the link failed in the last of them; or there was no
-- memory in it
abbrev pub TurnsEnd : {L C R : Type 0} → Status → Outside L C R
    → (old new : Moment RelaysSoFar L C R) → Type 0
TurnsEnd status.Done o old new =
    (new.run.made ≡ new.run.turns) × (o.net.faults new.edges.link ≡ o.net.faults old.edges.link)
    × RelaysOn o old new
TurnsEnd status.LinkFault o old new =
    (new.run.made ≤ new.run.turns)
    × HasRisen (o.net.faults old.edges.link) (o.net.faults new.edges.link)
    × RelaysOn o old new
TurnsEnd status.NoMemory o old new = (new.run.made ≤ new.run.turns) × TurnsOn o old new
TurnsEnd _ o old new = ⊥

-- a server was started: its link took its address, knows the other server's, and tells else what it
-- told; its endpoint is new, in the life of its words, with usual limits but for their timeout, and
-- opened one session, with the other server; no job was given, and no turn made
pub record StartsRelaying {L R : Type 0} (log : R → Log) (net : Link.Ghosts L) (words : ServeWords)
    (other : List ℕ) (link then_link : L) (before now : R) (s : RelaysSoFar) : Type 0 where
  pub noted : List Fact
  pub peer : ℕ
  pub reaches : Reaches net words.addr other then_link peer
  pub traffic : KeepsTraffic net link then_link
  pub faults : net.faults then_link ≡ net.faults link
  pub opens : noted ≡ plain 0 (Opened 0 peer RELAY_CREDITS) ∷ []
  pub grew : Grew (log before) (log now) noted
  pub life : s.endpoint.timed.lists.life ≡ words.life
  pub works : WorksOn plain_members background_answer (limits_at words.timeout) noted
      (at_work (relayer_in s))
  pub desk : s.endpoint.workers ≡ empty_desk USUAL_JOBS
  pub book : IsBookOf (at_work (relayer_in s)) new_book
  pub rest : s.rest ≡ resting (sleeps words.idle)
  pub turns : s.turns ≡ words.turns
  pub made : s.made ≡ 0

-- a server was started, and so many turns were made, which left this run: what they noted is a run
-- of its node, which begins with the opening of its session
pub record HasTurnedSome {L C R : Type 0} (o : Outside L C R) (words : ServeWords)
    (other : List ℕ) (many : ℕ) (old : Edges L C R) (new : Moment RelaysSoFar L C R) : Type 0 where
  pub ready : L
  pub mid : R
  pub start : RelaysSoFar
  pub starts : StartsRelaying o.log o.net words other old.link ready old.rec mid start
  pub turned : HasTurned plain_members plain_desk o words.life (limits_at words.timeout) old
      (end_at new) many
  pub facts : List Fact
  pub opens : turned.noted ≡ plain 0 (Opened 0 starts.peer RELAY_CREDITS) ∷ facts

-- each of them is one turn of its endpoint, and what they noted keeps the deferred promise, with
-- the jobs that are counted as answered with the other server's answers, and here
pub record HasRelayedSome {L C R : Type 0} (o : Outside L C R) (words : ServeWords)
    (other : List ℕ) (many : ℕ) (old : Edges L C R) (new : Moment RelaysSoFar L C R) : Type 0 where
  pub some : HasTurnedSome o words other many old new
  pub each : TurnsRun plain_members background_answer o
      (relayer_at (where_at some.start some.ready old.clock some.mid)) many some.facts
      (relayer_at new)
  pub book : Book
  pub is_book : IsBookOf (at_work (relayer_in new.run)) book
  pub keeps : KeepsDeferred plain_members background_answer words.life (limits_at words.timeout)
      some.starts.noted some.facts new_book book

-- all turns were made, the link didn't fail, and the line counts what happened
pub record HasRelayedAll {L C R : Type 0} (o : Outside L C R) (words : ServeWords)
    (other : List ℕ) (old new : Edges L C R) (line : List ℕ) : Type 0 where
  pub run : RelaysSoFar
  pub relayed : HasRelayedSome o words other words.turns old (record { run = run; edges = new })
  pub quiet : o.net.faults new.link ≡ o.net.faults old.link
  pub counts : line ≡ relays_line words.turns run.endpoint.timed.lists.counts run.relays.relayed
      run.relays.here

-- the link failed: before the first turn, or in the last of those that were made
abbrev pub StopsEarly : {L C R : Type 0} → Outside L C R → ServeWords → (other : List ℕ)
    → (old new : Edges L C R) → Type 0
StopsEarly o words other old new =
    HasNotRun o old new
    ⊎ ((made : ℕ) × (run : RelaysSoFar) × (made ≤ words.turns)
    × HasRelayedSome o words other made old (record { run = run; edges = new }))

-- there was no memory: before the first turn, or in the last of those that were made
abbrev pub WantsMemory : {L C R : Type 0} → Outside L C R → ServeWords → (other : List ℕ)
    → (old new : Edges L C R) → Type 0
WantsMemory o words other old new =
    HasNotRun o old new
    ⊎ ((made : ℕ) × (run : RelaysSoFar) × (made ≤ words.turns)
    × HasTurnedSome o words other made old (record { run = run; edges = new }))

-- how `serve --relay` ends: the line was written, or a front of it where the sink failed; or the
-- link failed, or there was no memory, and nothing was written
abbrev pub Relays : {L C R : Type 0} → Status → Outside L C R → ServeWords → (other : List ℕ)
    → (old new : Edges L C R) → (page then_page : Written) → Type 0
Relays status.Done o words other old new page then_page =
    (line : List ℕ) × HasRelayedAll o words other old new line × Wrote page then_page line
Relays status.WriteFault o words other old new page then_page =
    (line : List ℕ) × HasRelayedAll o words other old new line × Broke page then_page line
Relays status.LinkFault o words other old new page then_page =
    HasRisen (o.net.faults old.link) (o.net.faults new.link)
    × StopsEarly o words other old new × (then_page ≡ page)
Relays status.NoMemory o words other old new page then_page =
    WantsMemory o words other old new × (then_page ≡ page)
Relays _ o words other old new page then_page = ⊥
