-- A run of a client.
use Rattle.std.specs.Prelude.{◌≡◌, ◌≢◌, ℕ, ◌+◌, ◌-◌, ◌<◌, ◌≤◌, ◌==◌, ◌&&◌, ◌⊎◌, Bool, true, false}
use Rattle.std.specs.Prelude.{Option}
use Rattle.std.specs.Prelude.{if◌then◌else◌, List, [], ◌∷◌, map}
use Rattle.std.specs.List.{filter, find, range_with_len}
use Rattle.client_core.specs.Shown.{done_fact}
use Rattle.count_line.specs.declared.word.Word.TheVariants as word
use Rattle.count_line.specs.Line.{line_text}
use Rattle.endpoint_loop.specs.declared.endpoint.poll.Turn.{Turn}
use Rattle.node_steps.specs.Changes.{Change}
use Rattle.node_steps.specs.Notes.{Makes, asked_in, is_asked, is_end, sent_of}
use Rattle.endpoint_loop.specs.PlainMembers.{plain_members}
use Rattle.node_steps.specs.Status.{pending_told}
use Rattle.command_line.specs.Words.{LoadWords}
use Rattle.load_plan.specs.Calls.{Calls, asked_bytes, calls_of, room_of}
use Rattle.message_buffer.specs.Buffer.{Buffer}
use Rattle.load_run.specs.declared.ledger.Ledger.{Ledger}
use Rattle.load_run.specs.Tallies.{Counts, Tallies}
use Rattle.rpc_turns.specs.Buffers.{AreBuffersFor}
use Rattle.rpc_turns.specs.Chains.{Turns}
use Rattle.rpc_turns.specs.Moments.{Edges, Moment, Outside, Rested, rested, where_at}
use Rattle.rpc_turns.specs.Plain.{End, GoesOnBy, Stands, crew_members, limits_at}
use Rattle.rpc_turns.specs.Queue.{KeepsAll}
use Rattle.rpc_turns.specs.Rests.{resting}
use Rattle.rpc_turns.specs.Turns.{HasTurned, RunsOn, TakesTurn}
use Rattle.rpc_turns.specs.declared.ended.Ended.{Ended}
use Rattle.rpc_turns.specs.declared.rest.Rest.{Rest}
use Rattle.run_status.specs.Starting.{KeepsTraffic, Reaches}
use Rattle.run_status.specs.Words.{sleeps}
use Rattle.worker_crew.specs.Crews.{CrewState}
use Rattle.load_run.specs.declared.run.TheConstants.{LOAD_CREDITS}
use Rattle.rpc_base.specs.declared.event.Event.TheVariants.{Asked, Opened}
use Rattle.rpc_base.specs.declared.fact.Fact.{Fact}
use Rattle.rpc_base.specs.declared.limits.Limits.{Limits}
use Rattle.rpc_base.specs.declared.state.SessionState.{SessionState}
use Rattle.rpc_base.specs.declared.state.SessionState.TheVariants.{Connected, Closed, Failed}
use Rattle.rpc_base.specs.declared.state.SessionState.TheVariants.{Broken}
use Rattle.rpc_laws.specs.declared.tables.Timed.{Timed}
use Rattle.rpc_laws.specs.Facts.{plain, with_bytes}
use Rattle.rpc_laws.specs.Groups.{Asks, Disconnects, state_of}
use Rattle.rpc_laws.specs.Sessions.{is_client}
use Rattle.rpc_laws.specs.Steps.{Rel, Visits}
use Rattle.memory_count.specs.Faults.{HasRisen}
use Rattle.rpc_outside.specs.Recording.{Grew, Log}
use Rattle.rpc_outside.specs.Writing.{Broke, Wrote, Written}
use Rattle.rpc_outside.specs.declared.link.Link as Link
use Rattle.run_status.specs.declared.going.Going.{Going}
use Rattle.run_status.specs.declared.going.Going.TheVariants.{On, Over}
use Rattle.run_status.specs.declared.status.Status.{Status}
use Rattle.run_status.specs.declared.status.Status.TheVariants as status

-- its endpoint and what it does where nothing comes, its session, its calls with how they ended,
-- how many it asked, and the turns that it makes and made
pub record LoadsSoFar : Type 0 where
  pub endpoint : End
  pub rest : Rest
  pub session : ℕ
  pub ledger : Ledger
  pub asked : ℕ
  pub turns : ℕ
  pub made : ℕ

-- the state of its session, and how many calls are pending
abbrev pub state_in : LoadsSoFar → SessionState
state_in s = state_of (find (is_client s.session) s.endpoint.timed.lists.clients)

abbrev pub pending_in : LoadsSoFar → ℕ
pending_in s = pending_told (find (is_client s.session) s.endpoint.timed.lists.clients)

abbrev pub unasked : LoadsSoFar → ℕ
unasked s = s.ledger.plan.calls - s.asked

-- the buffers that a call is asked with
abbrev pub AreBuffersOf : Calls → (call : ℕ) → (req resp : Buffer) → Type 0
AreBuffersOf c call req resp = AreBuffersFor (asked_bytes c call) (room_of c) req resp

-- call k of a session, as it is noted where it is asked
abbrev pub ask_noted : Calls → (session k : ℕ) → Fact
ask_noted c session k = with_bytes 0 (Asked k session c.req_type (room_of c)) (asked_bytes c k)

-- the calls that were asked by these facts are those from call `from` on, in their order
abbrev pub AsksInOrder : Calls → (session from : ℕ) → List Fact → Type 0
AsksInOrder c session from noted =
    filter (λ f. is_asked f.event) noted
    ≡ map (ask_noted c session) (range_with_len from (asked_in noted))

-- only its endpoint changed, and how many calls were asked
pub record Keeps (old new : LoadsSoFar) : Type 0 where
  pub rest : new.rest ≡ old.rest
  pub session : new.session ≡ old.session
  pub ledger : new.ledger ≡ old.ledger
  pub turns : new.turns ≡ old.turns
  pub made : new.made ≡ old.made

-- call number k is asked, while fewer than 64 are pending
pub record AsksNext (session : ℕ) (c : Calls) (k : ℕ) (s : Timed) (x : List Fact) (t : Timed)
    : Type 0 where
  pub few : pending_told (find (is_client session) s.lists.clients) < 64
  pub asks : Asks session c.req_type (asked_bytes c k) (room_of c) s x t

-- n calls are asked, the first of them call number `first`
abbrev pub AsksCalls : (session : ℕ) → Calls → (first n : ℕ) → Rel
AsksCalls session c first n = Visits (λ k. AsksNext session c (first + k)) n

-- calls are asked in their order, while the session is Connected, until 64 are pending or all are
-- asked
pub record AsksMany {R : Type 0} (log : R → Log) (old new : LoadsSoFar) (before now : R)
    : Type 0 where
  pub many : ℕ
  pub asked : new.asked ≡ old.asked + many
  pub asks : Makes log (AsksCalls old.session old.ledger.plan old.asked many)
      old.endpoint.timed new.endpoint.timed before now
  pub enough : state_in new ≡ Connected → (unasked new ≡ 0) ⊎ (64 ≤ pending_in new)
  pub keeps : Keeps old new

-- its session begins to close where no call is pending, and otherwise nothing happens
pub record ClosesIdle {R : Type 0} (log : R → Log) (old new : LoadsSoFar) (before now : R)
    : Type 0 where
  pub asked : new.asked ≡ old.asked
  pub closes : pending_in old ≡ 0
      → Makes log (Disconnects old.session) old.endpoint.timed new.endpoint.timed before now
  pub waits : pending_in old ≢ 0 → (new ≡ old) × (now ≡ before)

-- what happens before a turn of the endpoint: nothing where its session isn't Connected, and
-- otherwise calls are asked, and the session begins to close where none is pending then
abbrev pub PreparesIn : {R : Type 0} → SessionState → (R → Log) → (old new : LoadsSoFar)
    → (before now : R) → Type 0
PreparesIn {R} Connected log old new before now =
    (mid : LoadsSoFar) × (via : R)
    × AsksMany log old mid before via × ClosesIdle log mid new via now
PreparesIn _ log old new before now = (new ≡ old) × (now ≡ before)

abbrev pub Prepares : {R : Type 0} → (R → Log) → (old new : LoadsSoFar) → (before now : R) → Type 0
Prepares log old new before now =
    PreparesIn (state_in old) log old new before now

-- the recorder grew by facts by which its endpoint goes on, that send nothing, end no call, and ask
-- as many calls as are counted, each in its turn where so many were asked before
pub record Passes {R : Type 0} (log : R → Log) (old new : End) (before now : R) (c : Calls)
    (session from to : ℕ) : Type 0 where
  pub goes : GoesOnBy log old new before now
  pub asks : to ≡ from + asked_in goes.noted
  pub order : (limits : Limits) → (past : List Fact) → Stands limits past old
      → from ≡ asked_in past → AsksInOrder c session from goes.noted
  pub sends : sent_of goes.noted ≡ []
  pub ends : filter is_end goes.noted ≡ []

-- so it did from one state of a load to another
abbrev pub PassesTo : {R : Type 0} → (R → Log) → (old new : LoadsSoFar) → (before now : R) → Type 0
PassesTo log old new before now =
    Passes log old.endpoint new.endpoint before now old.ledger.plan old.session old.asked new.asked

-- the same moment, of its endpoint alone, and with what it does where nothing comes
abbrev pub end_at : {L C R : Type 0} → Moment LoadsSoFar L C R → Moment End L C R
end_at m = record { run = m.run.endpoint; edges = m.edges }

abbrev pub rested_by : {L C R : Type 0} → (endpoint : End) → Rest → Edges L C R
    → Moment (Rested ℕ CrewState) L C R
rested_by endpoint rest edges = record { run = rested endpoint rest; edges = edges }

-- a turn was made, while so often memory was refused: it was prepared, and the endpoint made a
-- turn, within it. The calls that were over then were counted, where there was memory for each
pub record HasLoaded {L C R : Type 0} (o : Outside L C R) (old new : Moment LoadsSoFar L C R)
    (memory : Change ℕ) : Type 0 where
  pub ready : LoadsSoFar
  pub mid : R
  pub prepares : Prepares o.log old.run ready old.edges.rec mid
  pub keeps : Keeps old.run ready
  pub told : Option Turn
  pub none : Ended
  pub none_over : KeepsAll none []
  pub ended : Ended
  pub within : Change ℕ
  pub begins : memory.old ≤ within.old
  pub ends : within.new ≤ memory.new
  pub takes : TakesTurn plain_members crew_members o KeepsAll told
      (rested_by ready.endpoint ready.rest (record old.edges { rec = mid }))
      (rested_by new.run.endpoint new.run.rest new.edges) none ended within
  pub counts : ended.memory ≡ 0
      → Counts (map (done_fact 0) ended.dones.items) ready.ledger new.run.ledger
  pub then_is : new.run ≡ record ready {
    endpoint = new.run.endpoint;
    rest = new.run.rest;
    ledger = new.run.ledger;
    made = ready.made + 1;
  }

-- the same, however often memory was refused
abbrev pub HasLoadedOnce : {L C R : Type 0} → Outside L C R
    → (old new : Moment LoadsSoFar L C R) → Type 0
HasLoadedOnce o old new = (memory : Change ℕ) × HasLoaded o old new memory

-- n turns were made: its endpoint goes on by what was noted, and the calls that were asked and
-- those that ended among that were counted
pub record LoadsOn {L C R : Type 0} (o : Outside L C R) (old new : Moment LoadsSoFar L C R) (n : ℕ)
    : Type 0 where
  pub runs : RunsOn plain_members crew_members o (end_at old) (end_at new) n
  pub asks : (limits : Limits) → (past : List Fact) → Stands limits past old.run.endpoint
      → new.run.asked ≡ old.run.asked + asked_in runs.goes.noted
  pub order : (limits : Limits) → (past : List Fact) → Stands limits past old.run.endpoint
      → old.run.asked ≡ asked_in past
      → AsksInOrder old.run.ledger.plan old.run.session old.run.asked runs.goes.noted
  pub counts : (limits : Limits) → (past : List Fact) → Stands limits past old.run.endpoint
      → Counts runs.goes.noted old.run.ledger new.run.ledger
  pub session : new.run.session ≡ old.run.session
  pub turns : new.run.turns ≡ old.run.turns
  pub made : new.run.made ≡ old.run.made + n

-- so many turns were made, one after another: what follows from them stands beside them
pub record LoadsTurns {L C R : Type 0} (o : Outside L C R) (many : ℕ)
    (old new : Moment LoadsSoFar L C R) : Type 0 where
  pub each : Turns (HasLoadedOnce o) many old new
  pub on : LoadsOn o old new many

-- unless there was no memory
abbrev pub UnlessNoMemory : Going → Type 0 → Type 0
UnlessNoMemory (Over status.NoMemory) claim = Unit {0}
UnlessNoMemory _ claim = claim

-- and unless the link failed
abbrev pub UnlessFailed : Going → Type 0 → Type 0
UnlessFailed (Over status.NoMemory) claim = Unit {0}
UnlessFailed (Over status.LinkFault) claim = Unit {0}
UnlessFailed _ claim = claim

-- its session is over
abbrev pub is_over : SessionState → Bool
is_over Closed = true
is_over Failed = true
is_over Broken = true
is_over _ = false

-- all calls were asked, and as many ended well with a right answer
abbrev pub is_clean : LoadsSoFar → Bool
is_clean s = (unasked s == 0) && (s.ledger.tally.ok == s.ledger.plan.calls)

-- how it is to end, where its session is over or all turns are made
abbrev pub going_at : LoadsSoFar → Going
going_at s =
    if is_over (state_in s) then Over (if is_clean s then status.Done else status.CallsFailed)
    else (if s.made == s.turns then Over status.TurnsSpent else On)

-- what a turn answers: that the link failed, exactly where it did; else that there was no memory,
-- or how it goes on
abbrev pub Answers : (before now : ℕ) → LoadsSoFar → Going → Type 0
Answers before now s going =
    ((going ≡ Over status.LinkFault) × HasRisen before now)
    ⊎ ((now ≡ before) × ((going ≡ Over status.NoMemory) ⊎ (going ≡ going_at s)))

-- `calls N ok A small B lost C wrong D unasked E`
abbrev pub calls_line : LoadsSoFar → List ℕ
calls_line s =
    line_text (record { word = word.Calls; number = s.ledger.plan.calls }
    ∷ record { word = word.Ok; number = s.ledger.tally.ok }
    ∷ record { word = word.Small; number = s.ledger.tally.small }
    ∷ record { word = word.Lost; number = s.ledger.tally.lost }
    ∷ record { word = word.Wrong; number = s.ledger.tally.wrong }
    ∷ record { word = word.Unasked; number = unasked s } ∷ [])

-- the line was written, and its status is told, and Done says that all calls were asked and ended
-- well with a right answer; or a front of the line, where the sink failed
abbrev pub Prints : LoadsSoFar → Status → Written → Written → Type 0
Prints s status.WriteFault old new = Broke old new (calls_line s)
Prints s status.Done old new =
    (going_at s ≡ Over status.Done) × Wrote old new (calls_line s)
    × (s.asked ≡ s.ledger.plan.calls) × (s.ledger.tally.ok ≡ s.ledger.plan.calls)
Prints s told old new =
    (going_at s ≡ Over told) × Wrote old new (calls_line s)

-- a client was started: its link reaches the server, and tells else what it told; a session was
-- opened with the server, and nothing asked yet
pub record StartsAs {L R : Type 0} (log : R → Log) (net : Link.Ghosts L) (words : LoadWords)
    (link then_link : L) (before now : R) (s : LoadsSoFar) : Type 0 where
  pub noted : List Fact
  pub peer : ℕ
  pub reaches : Reaches net words.bind words.addr then_link peer
  pub traffic : KeepsTraffic net link then_link
  pub faults : net.faults then_link ≡ net.faults link
  pub opens : noted ≡ plain 0 (Opened s.session peer LOAD_CREDITS) ∷ []
  pub grew : Grew (log before) (log now) noted
  pub life : s.endpoint.timed.lists.life ≡ words.life
  pub stands : Stands (limits_at words.timeout) noted s.endpoint
  pub rest : s.rest ≡ resting (sleeps words.idle)
  pub sends : sent_of noted ≡ []
  pub ends : filter is_end noted ≡ []
  pub none : asked_in noted ≡ 0
  pub plan : s.ledger.plan ≡ calls_of words
  pub tally : s.ledger.tally ≡ record { ok = 0; small = 0; lost = 0; wrong = 0 }
  pub asked : s.asked ≡ 0
  pub turns : s.turns ≡ words.turns
  pub made : s.made ≡ 0

-- how the turns of a run end: the link failed; or there was no memory, and it didn't; or the run is
-- over, and it didn't
abbrev pub TurnsEnd : {L C R : Type 0} → Status → Outside L C R
    → (old new : Moment LoadsSoFar L C R) → Type 0
TurnsEnd status.LinkFault o old new =
    HasRisen (o.net.faults old.edges.link) (o.net.faults new.edges.link)
TurnsEnd status.NoMemory o old new = o.net.faults new.edges.link ≡ o.net.faults old.edges.link
TurnsEnd told o old new =
    (going_at new.run ≡ Over told)
    × (o.net.faults new.edges.link ≡ o.net.faults old.edges.link)
    × (many : ℕ)
    × LoadsTurns o many old new

-- what `load` did once its run was over: it was started, and made its turns, one after another; the
-- calls that were asked are the first of its calls, in their order; how many were and how calls
-- ended are counts of what was noted, and the link didn't fail
pub record HasRun {L C R : Type 0} (o : Outside L C R) (words : LoadWords) (old : Edges L C R)
    (new : Moment LoadsSoFar L C R) : Type 0 where
  pub ready : L
  pub mid : R
  pub start : LoadsSoFar
  pub starts : StartsAs o.log o.net words old.link ready old.rec mid start
  pub each : Turns (HasLoadedOnce o) new.run.made (where_at start ready old.clock mid) new
  pub over : going_at new.run ≢ On
  pub plan : new.run.ledger.plan ≡ calls_of words
  pub turns : new.run.turns ≡ words.turns
  pub turned : HasTurned plain_members crew_members o words.life (limits_at words.timeout) old
      (end_at new) new.run.made
  pub opens : (peer : ℕ) × (rest : List Fact)
      × (turned.noted ≡ plain 0 (Opened new.run.session peer LOAD_CREDITS) ∷ rest)
  pub asked : new.run.asked ≡ asked_in turned.noted
  pub order : AsksInOrder new.run.ledger.plan new.run.session 0 turned.noted
  pub tallies : Tallies new.run.ledger.plan new.run.ledger.tally turned.noted
  pub quiet : o.net.faults new.edges.link ≡ o.net.faults old.link

-- the facts that were noted are a run of node 0 in this life with these limits
pub record NotesRun {R : Type 0} (log : R → Log) (life : ℕ) (limits : Limits) (before later : R)
    : Type 0 where
  pub noted : List Fact
  pub grew : Grew (log before) (log later) noted
  pub runs : (noted ≡ [])
      ⊎ ((endpoint : End) × (endpoint.timed.lists.life ≡ life) × Stands limits noted endpoint)

-- how `load` ends: the link failed, or there was no memory and it didn't, and nothing was written;
-- or its run was over, and the line was written, or a front of it where the sink failed
abbrev pub Loads : {L C R : Type 0} → Status → Outside L C R → LoadWords
    → (old new : Edges L C R) → (page then_page : Written) → Type 0
Loads status.LinkFault o words old new page then_page =
    HasRisen (o.net.faults old.link) (o.net.faults new.link)
    × NotesRun o.log words.life (limits_at words.timeout) old.rec new.rec
    × (then_page ≡ page)
Loads status.NoMemory o words old new page then_page =
    (o.net.faults new.link ≡ o.net.faults old.link)
    × NotesRun o.log words.life (limits_at words.timeout) old.rec new.rec
    × (then_page ≡ page)
Loads told o words old new page then_page =
    (run : LoadsSoFar)
    × HasRun o words old (record { run = run; edges = new })
    × Prints run told page then_page
