-- A run of a server.
use Rattle.std.specs.Prelude.{◌≡◌, ℕ, ◌+◌, ◌≤◌, ◌==◌, ◌⊎◌, Option, List, [], ◌∷◌}
use Rattle.std.specs.Prelude.{if◌then◌else◌, ⊤, IfSome}
use Rattle.client_core.specs.declared.outcome.Done.{Done}
use Rattle.count_line.specs.declared.word.Word.TheVariants as word
use Rattle.count_line.specs.Line.{line_text}
use Rattle.endpoint_loop.specs.declared.endpoint.poll.Turn.{Turn}
use Rattle.endpoint_loop.specs.PlainMembers.{plain_members}
use Rattle.node_steps.specs.Changes.{Change}
use Rattle.command_line.specs.Words.{ServeWords}
use Rattle.rpc_laws.specs.NodeLists.{new_node}
use Rattle.rpc_laws.specs.declared.tables.Counted.{Counted}
use Rattle.memory_count.specs.Faults.{HasRisen}
use Rattle.rpc_outside.specs.Writing.{Broke, Wrote, Written}
use Rattle.rpc_outside.specs.declared.link.Link as Link
use Rattle.rpc_turns.specs.Chains.{Turns}
use Rattle.rpc_turns.specs.Moments.{Edges, Moment, Outside, Rested, rested, where_at}
use Rattle.rpc_turns.specs.Plain.{End, Stands, crew_members, limits_at}
use Rattle.rpc_turns.specs.Rests.{resting}
use Rattle.rpc_turns.specs.Turns.{HasTurned, RunsOn, TakesTurn}
use Rattle.rpc_turns.specs.declared.rest.Rest.{Rest}
use Rattle.run_status.specs.Starting.{KeepsTraffic}
use Rattle.run_status.specs.Words.{sleeps}
use Rattle.run_status.specs.declared.going.Going.{Going}
use Rattle.run_status.specs.declared.going.Going.TheVariants.{On, Over}
use Rattle.run_status.specs.declared.status.Status.{Status}
use Rattle.run_status.specs.declared.status.Status.TheVariants as status
use Rattle.serve_run.specs.declared.run.NoCalls.{NoCalls}
use Rattle.worker_crew.specs.Crews.{CrewState}

-- its endpoint, what it does where nothing comes, the turns that it makes, and how many it made
pub record ServesSoFar : Type 0 where
  pub endpoint : End
  pub rest : Rest
  pub turns : ℕ
  pub made : ℕ

abbrev pub one_more : End → Rest → ServesSoFar → ServesSoFar
one_more endpoint rest s = record s { endpoint = endpoint; rest = rest; made = s.made + 1 }

-- the same moment, of its endpoint alone, and with what it does where nothing comes
abbrev pub end_at : {L C R : Type 0} → Moment ServesSoFar L C R → Moment End L C R
end_at m = record { run = m.run.endpoint; edges = m.edges }

abbrev pub rested_at : {L C R : Type 0} → Moment ServesSoFar L C R
    → Moment (Rested ℕ CrewState) L C R
rested_at m = record { run = rested m.run.endpoint m.run.rest; edges = m.edges }

-- one turn was made and counted, whatever the endpoint told of it, while so often memory was
-- refused; a server has no calls that end
pub record HasServed {L C R : Type 0} (o : Outside L C R) (old new : Moment ServesSoFar L C R)
    (memory : Change ℕ) : Type 0 where
  pub told : Option Turn
  pub from : NoCalls
  pub to : NoCalls
  pub takes : TakesTurn plain_members crew_members o (λ (k : NoCalls) (ds : List Done). ⊤) told
      (rested_at old) (rested_at new) from to memory
  pub counted : new.run ≡ one_more new.run.endpoint new.run.rest old.run

-- the same, however often memory was refused
abbrev pub HasTurnedOnce : {L C R : Type 0} → Outside L C R
    → (old new : Moment ServesSoFar L C R) → Type 0
HasTurnedOnce o old new = (memory : Change ℕ) × HasServed o old new memory

-- it is over where all turns are made
abbrev pub going_at : ServesSoFar → Going
going_at s = if s.made == s.turns then Over status.Done else On

-- what a turn answers: that the link failed, exactly where it did
abbrev pub Answers : (before now : ℕ) → ServesSoFar → Going → Type 0
Answers before now s going =
    ((going ≡ Over status.LinkFault) × HasRisen before now)
    ⊎ ((going ≡ going_at s) × (now ≡ before))

-- `turns T ran R given J dropped D overflowed O`
abbrev pub turns_line : (turns : ℕ) → Counted → List ℕ
turns_line turns c =
    line_text (record { word = word.Turns; number = turns }
    ∷ record { word = word.Ran; number = c.ran } ∷ record { word = word.Given; number = c.given }
    ∷ record { word = word.Dropped; number = c.dropped }
    ∷ record { word = word.Overflowed; number = c.overflowed } ∷ [])

-- the line was written, or a front of it where the sink failed
abbrev pub Writes : Status → (line : List ℕ) → Written → Written → Type 0
Writes status.Done line old new = Wrote old new line
Writes status.WriteFault line old new = Broke old new line
Writes _ line old new = ⊥

abbrev pub Prints : ServesSoFar → Status → Written → Written → Type 0
Prints s told old new =
    Writes told (turns_line s.turns s.endpoint.timed.lists.counts) old new

-- so many turns were made, one after another, as many as are counted: what follows from them stands
-- beside them
pub record ServesOn {L C R : Type 0} (o : Outside L C R) (old new : Moment ServesSoFar L C R)
    : Type 0 where
  pub many : ℕ
  pub made : new.run.made ≡ old.run.made + many
  pub turns : new.run.turns ≡ old.run.turns
  pub each : Turns (HasTurnedOnce o) many old new
  pub runs : RunsOn plain_members crew_members o (end_at old) (end_at new) many

-- how the turns of a run end: all are made, or the link failed in the last of them
abbrev pub TurnsEnd : {L C R : Type 0} → Status → Outside L C R
    → (old new : Moment ServesSoFar L C R) → Type 0
TurnsEnd status.Done o old new =
    (new.run.made ≡ new.run.turns) × (o.net.faults new.edges.link ≡ o.net.faults old.edges.link)
    × ServesOn o old new
TurnsEnd status.LinkFault o old new =
    (new.run.made ≤ new.run.turns)
    × HasRisen (o.net.faults old.edges.link) (o.net.faults new.edges.link)
    × ServesOn o old new
TurnsEnd _ o old new = ⊥

-- a server was started: its link took the address of its words for its own, and tells else what it
-- told; its endpoint is new, in the life of its words, with usual limits but for their timeout; no
-- turn was made
pub record StartsServing {L : Type 0} (net : Link.Ghosts L) (words : ServeWords)
    (link then_link : L) (s : ServesSoFar) : Type 0 where
  pub bound : IfSome (net.bound then_link) (λ bytes. bytes ≡ words.addr)
  pub traffic : KeepsTraffic net link then_link
  pub faults : net.faults then_link ≡ net.faults link
  pub timed : s.endpoint.timed ≡ new_node 0 words.life (limits_at words.timeout)
  pub stands : Stands (limits_at words.timeout) [] s.endpoint
  pub rest : s.rest ≡ resting (sleeps words.idle)
  pub turns : s.turns ≡ words.turns
  pub made : s.made ≡ 0

-- a server was started, and so many turns were made, which left this run: each is one turn of its
-- endpoint, and what they noted is a run of its node
pub record HasServedSome {L C R : Type 0} (o : Outside L C R) (words : ServeWords) (many : ℕ)
    (old : Edges L C R) (new : Moment ServesSoFar L C R) : Type 0 where
  pub ready : L
  pub start : ServesSoFar
  pub starts : StartsServing o.net words old.link ready start
  pub each : Turns (HasTurnedOnce o) many (where_at start ready old.clock old.rec) new
  pub turned : HasTurned plain_members crew_members o words.life (limits_at words.timeout) old
      (end_at new) many

-- all turns were made, the link didn't fail, and the line counts what happened
pub record HasServedAll {L C R : Type 0} (o : Outside L C R) (words : ServeWords)
    (old new : Edges L C R) (line : List ℕ) : Type 0 where
  pub run : ServesSoFar
  pub served : HasServedSome o words words.turns old (record { run = run; edges = new })
  pub quiet : o.net.faults new.link ≡ o.net.faults old.link
  pub counts : line ≡ turns_line words.turns run.endpoint.timed.lists.counts

-- no turn was made: nothing was noted or sent, and the clock gave no number
pub record HasNotRun {L C R : Type 0} (o : Outside L C R) (old new : Edges L C R) : Type 0 where
  pub sent : o.net.sent new.link ≡ o.net.sent old.link
  pub ticks : new.clock ≡ old.clock
  pub noted : new.rec ≡ old.rec

-- the link failed: before the first turn, or in the last of those that were made
abbrev pub StopsEarly : {L C R : Type 0} → Outside L C R → ServeWords → (old new : Edges L C R)
    → Type 0
StopsEarly o words old new =
    HasNotRun o old new
    ⊎ ((made : ℕ) × (run : ServesSoFar) × (made ≤ words.turns)
    × HasServedSome o words made old (record { run = run; edges = new }))

-- how `serve` ends: the line was written, or a front of it where the sink failed; or the link
-- failed, or there was no memory to start, and nothing was written
abbrev pub Serves : {L C R : Type 0} → Status → Outside L C R → ServeWords
    → (old new : Edges L C R) → (page then_page : Written) → Type 0
Serves status.Done o words old new page then_page =
    (line : List ℕ) × HasServedAll o words old new line × Wrote page then_page line
Serves status.WriteFault o words old new page then_page =
    (line : List ℕ) × HasServedAll o words old new line × Broke page then_page line
Serves status.LinkFault o words old new page then_page =
    HasRisen (o.net.faults old.link) (o.net.faults new.link)
    × StopsEarly o words old new × (then_page ≡ page)
Serves status.NoMemory o words old new page then_page =
    (o.net.faults new.link ≡ o.net.faults old.link) × HasNotRun o old new × (then_page ≡ page)
Serves _ o words old new page then_page = ⊥
