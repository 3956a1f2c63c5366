-- A poll of an endpoint.
use Rattle.std.specs.Prelude.{count_by, ◌≡◌, ℕ, ◌+◌, ◌≤◌, ◌⊎◌, ◌||◌, if◌then◌else◌, Bool, true}
use Rattle.std.specs.Prelude.{false, Option, Some, None, option_map, IfSome, List, ◌++◌, length}
use Rattle.std.specs.Prelude.{map, Result, Ok, Err, IfOk}
use Rattle.node_steps.specs.Counts.{is_handled, is_sent}
use Rattle.node_steps.specs.Links.{left_one, HeldBack, Troubles, unsent_in, troubles_of}
use Rattle.std.specs.List.{filter}
use Rattle.client_core.specs.Shown.{done_fact}
use Rattle.client_core.specs.declared.outcome.Done.{Done}
use Rattle.memory_count.specs.Faults.{HasCause, HasRisen, HasRisenBy}
use Rattle.rpc_base.specs.declared.fact.Fact.{Fact}
use Rattle.rpc_laws.specs.declared.tables.Timed.{Timed}
use Rattle.rpc_laws.specs.Pacing.{line}
use Rattle.rpc_laws.specs.PollOrder.{PollBy, SendsAll, SendsSome}
use Rattle.rpc_laws.specs.Queues.{replies}
use Rattle.rpc_laws.specs.Service.{Serving, rules_of}
use Rattle.rpc_laws.specs.Steps.{Rel}
use Rattle.rpc_outside.specs.Linking.{Carried, NoneComes}
use Rattle.rpc_outside.specs.Recording.{Grew}
use Rattle.worker_board.specs.declared.Parcel.{Parcel}
use Rattle.node_steps.specs.Changes.{◌⟶◌, Change}
use Rattle.node_steps.specs.Given.{Gave}
use Rattle.node_steps.specs.Lacks.{lacks_in}
use Rattle.node_steps.specs.declared.told.Listening.{Listening}
use Rattle.endpoint_loop.specs.declared.endpoint.poll.Turn.{Turn}
use Rattle.node_steps.specs.declared.told.Asking.{Asking}
use Rattle.node_steps.specs.declared.told.Sending.{Sending}
use Rattle.node_steps.specs.Jobs.{FinishesThese, NoneBack, jobs_left, staff_of}
use Rattle.node_steps.specs.Notes.{is_end, sent_of}
use Rattle.endpoint_loop.specs.Endpoints.{Crew, IsStaffed, Running, told, crew_of}
use Rattle.node_steps.specs.Requests.{RunsHandlers, ServiceChange, SparesShort, job_named}
use Rattle.node_steps.specs.Requests.{service_change}
use Rattle.node_steps.specs.Handed.{GivesBackTo}
use Rattle.endpoint_loop.specs.Bounds.{Bounds}
use Rattle.endpoint_loop.specs.Stands.{GoesOn}
use Rattle.rpc_outside.specs.declared.link.Link as Link

-- the jobs of these parcels are finished; then no more came back, or as many replies are queued as
-- the ring is long
pub record FinishesBack (answer : ℕ → List ℕ → List ℕ) (parcels : List Parcel) (before now : Crew)
    (s : Timed) (x : List Fact) (t : Timed) : Type 0 where
  pub finishes : FinishesThese answer parcels s x t
  pub over : (t.lists.room ≤ replies t.lists.queued)
      ⊎ NoneBack now.worked (length t.lists.jobs.out) before.looks now.looks

-- what a poll told, where the link didn't fail
abbrev pub turn_of : {E : Type 0} → Result Turn E → Option Turn
turn_of (Ok turn) = Some turn
turn_of (Err fault) = None

-- what it tells by what its steps handed to the link: the answers of control packets, the requests
-- of its sessions, and packets of calls. Where one met a fault it tells nothing
abbrev pub turn_told : {E : Type 0} → (handled : ℕ) → Listening → Asking → Result Sending E
    → Option Turn
turn_told handled heard asked (Ok sending) =
    if heard.failed || asked.failed then None
    else Some (record {
      handled = heard.heard + handled;
      sent = heard.sent + asked.sent + sending.sent;
      busy = sending.busy;
    })
turn_told handled heard asked (Err fault) = None

-- whether the link stopped the sending: it was busy, or failed
abbrev pub is_stopped : Option Turn → Bool
is_stopped (Some turn) = turn.busy
is_stopped None = true

-- packets are sent until none is ready, unless the link stopped it
abbrev pub SendsUntil : (stopped : Bool) → Rel
SendsUntil true = SendsSome
SendsUntil false = SendsAll

-- how many packets the link didn't take: each that is Unsent, and the first of the line, where one
-- is left at the end
abbrev pub held_in : List Fact → Timed → ℕ
held_in x t = unsent_in x + left_one (line t.clock t.lists.queued)

-- what a poll does where the workers have exactly the jobs of the node, as they do after it: these
-- parcels came back, the first that were worked where that is told, and those were given
pub record PollsWith (v : Serving) (answer : ℕ → List ℕ → List ℕ) (stopped : Bool) (now : ℕ)
    (before later : Crew) (s : Timed) (x : List Fact) (t : Timed) : Type 0 where
  pub parcels : List Parcel
  pub gave : List Parcel
  pub first : before.worked ≡ option_map (λ ps. parcels ++ ps) later.worked
  pub waits : later.staff.waiting ≡ option_map (λ ps. ps ++ gave) before.staff.waiting
  pub jobs : t.lists.jobs.out ≡ jobs_left parcels s.lists.jobs.out ++ map job_named gave
  pub staffed : IsStaffed answer later.staff t
  pub polls : PollBy (FinishesBack answer parcels before later) (SendsUntil stopped) v.mode
      now (told before.staff.out s) x (told later.staff.out t)

-- a turn tells how many packets were handled, and how many were sent
pub record CountsTurn (x : List Fact) (turn : Turn) : Type 0 where
  pub handled : turn.handled ≡ count_by (λ f. is_handled f.event) x
  pub sent : turn.sent ≡ count_by (λ f. is_sent f.event) x

-- what a link tells of what it was handed: what it sent, where it tells that, and its counts
pub record LinkTells : Type 0 where
  pub sent : Option (List Carried)
  pub troubles : Troubles

abbrev pub wire_of : {L : Type 0} → Link.Ghosts L → L → LinkTells
wire_of l link = record { sent = l.sent link; troubles = troubles_of l link }

-- what a poll tells besides: each handler that ran has its answer, the calls that the continuation
-- was given are those whose ends were noted, in order, and the turn counts its facts. The link,
-- where it tells what it sent, sent exactly the datagrams of the Sent facts, and failed or was busy
-- for each packet that it didn't take. No short request in front of the receive ring was dropped
-- for want of memory, whatever the allocator did; and for each that was dropped so, and each
-- session that starved, memory was refused
pub record TellsOfPoll {K : Type 0} (given : K → List Done → Type 0) (service : ServiceChange)
    (told : Option Turn) (link : Change LinkTells) (node : Change Timed) (x : List Fact)
    (k : Change K) (memory : Change ℕ) : Type 0 where
  pub answers : RunsHandlers service x
  pub dones : List Done
  pub ends : filter is_end x ≡ map (done_fact node.old.lists.me) dones
  pub gave : Gave given k.old k.new dones
  pub counts : IfSome told (CountsTurn x)
  pub took : link.new.sent ≡ option_map (λ ds. ds ++ sent_of x) link.old.sent
  pub held : HeldBack (held_in x node.new) link.old.troubles link.new.troubles
  pub spared : SparesShort service.rules node.old.lists.ring x
  pub wants : HasRisenBy (lacks_in x) memory.old memory.new

-- the recorder grew by the facts of a poll
pub record MakesPoll {R K V W : Type 0} (b : Bounds R K V W) (told : Option Turn) (now : ℕ)
    (link : Change LinkTells) (e : Change (Running V W)) (rec : Change R) (k : Change K)
    (memory : Change ℕ) : Type 0 where
  pub noted : List Fact
  pub grew : Grew (b.log rec.old) (b.log rec.new) noted
  pub does : IsStaffed b.workers.answer (staff_of b.workers e.old.workers) e.old.timed
      → PollsWith (rules_of b.service) b.workers.answer (is_stopped told) now
      (crew_of b.workers e.old.workers) (crew_of b.workers e.new.workers) e.old.timed noted
      e.new.timed
      × TellsOfPoll b.given (service_change b.service (e.old.service ⟶ e.new.service)) told link
      (e.old.timed ⟶ e.new.timed) noted k memory

-- a poll, and what it leaves: whatever the endpoint stood for, it stands for that and the facts of
-- the poll; the turn is busy only where the link was busy once more; the workers are of the same
-- team; no datagram came; the link failed exactly where a fault is told; what was handed in comes
-- back with the calls that end; and memory isn't refused less often
pub record Polls {R K L V W E : Type 0} (b : Bounds R K V W) (net : Link.Ghosts L)
    (told : Result Turn E) (now : ℕ) (link : Change L) (e : Change (Running V W)) (rec : Change R)
    (k : Change K) (memory : Change ℕ) : Type 0 where
  pub polls : MakesPoll b (turn_of told) now (wire_of net link.old ⟶ wire_of net link.new) e rec k
      memory
  pub goes_on : GoesOn b.log b.service b.workers e.old e.new rec.old rec.new
  pub busy : IfOk told (λ turn. turn.busy ≡ true
      → HasRisen (net.busies link.old) (net.busies link.new))
  pub team : b.workers.team e.new.workers ≡ b.workers.team e.old.workers
  pub lists : NoneComes net.waiting net.received link.old link.new
  pub cause : HasCause (net.faults link.old) (net.faults link.new) told
  pub handed : GivesBackTo b.given e.old.handed e.new.handed k.old k.new
  pub no_less : memory.old ≤ memory.new
