-- What an endpoint does in its turns and in calls of its application, and what a wire run of which
-- it is a node becomes by them.
use Rattle.std.specs.Prelude.{ℕ, ◌≡◌, ◌≢◌, Option, Some, List, [], ◌∷◌, ◌++◌, slice_get}
use Rattle.std.specs.List.{slice_set}
use Rattle.client_core.specs.declared.outcome.Done.{Done}
use Rattle.rpc_base.specs.declared.fact.Fact.{Fact}
use Rattle.rpc_base.specs.declared.limits.Limits.{Limits}
use Rattle.rpc_outside.specs.Linking.{Carried}
use Rattle.rpc_outside.specs.Recording.{Grew, Log}
use Rattle.rpc_outside.specs.declared.link.Link as Link
use Rattle.rpc_outside.specs.declared.service.Service as Service
use Rattle.rpc_laws.specs.declared.tables.Timed.{Timed}
use Rattle.rpc_laws.specs.Deliveries.{Delivers}
use Rattle.rpc_laws.specs.Groups.{Asks, Connects, Disconnects, SetsRate}
use Rattle.rpc_laws.specs.NodeLists.{new_node}
use Rattle.rpc_laws.specs.Service.{rules_of, served_after_all}
use Rattle.rpc_laws.specs.Steps.{Rel}
use Rattle.node_laws.specs.NodeRun.{IsCredits}
use Rattle.end_laws.specs.JointRun.{Party, Joint, at_node}
use Rattle.end_laws.specs.WireRun.{WireRun}
use Rattle.endpoint_loop.specs.Endpoints.{Leaves}
use Rattle.node_steps.specs.Changes.{◌⟶◌, Change}
use Rattle.node_steps.specs.Jobs.{staff_of}
use Rattle.node_steps.specs.Notes.{Makes, sent_of}
use Rattle.endpoint_loop.specs.Polls.{LinkTells, MakesPoll}
use Rattle.endpoint_loop.specs.Endpoints.{IsStaffed, Running, told}
use Rattle.endpoint_loop.specs.Turns.{MakesTurn}
use Rattle.endpoint_loop.specs.declared.endpoint.poll.Turn.{Turn}
use Rattle.turn_laws.specs.Deeds.{Deed, NodeDid, noted_in}
use Rattle.endpoint_loop.specs.Bounds.{bounds}
use Rattle.turn_laws.specs.Wires.{AreOnWire, on_wire}
use Rattle.worker_crew.specs.declared.workers.Workers as Workers

-- the lists of an endpoint, in which each job asks what its workers have of it
abbrev pub seen : {V W : Type 0} → Workers.Ghosts W → Running V W → Timed
seen workers e = told (workers.out e.workers) e.timed

-- ds is what this endpoint did since it was made with this life and these limits: its node did so;
-- its service stands for what ran in the event loop; and its workers have exactly its jobs
pub record EndpointDid {V W : Type 0} (service : Service.Ghosts V) (workers : Workers.Ghosts W)
    (life : ℕ) (limits : Limits) (ds : List Deed) (e : Running V W) : Type 0 where
  pub did : NodeDid (rules_of service) e.timed.lists.me life limits ds (seen workers e)
  pub serves : service.stands e.service (served_after_all service.mode_of [] (noted_in ds))
  pub staffed : IsStaffed workers.answer (staff_of workers e.workers) e.timed

-- node n of a wire run is this endpoint
pub record IsEndpoint {V W : Type 0} (service : Service.Ghosts V) (workers : Workers.Ghosts W)
    (n : ℕ) (g : List Fact) (s : Joint) (e : Running V W) : Type 0 where
  pub is_node : slice_get s.nodes n ≡ Some (seen workers e)
  pub me : e.timed.lists.me ≡ n
  pub serves : service.stands e.service (served_after_all service.mode_of [] (at_node n g))
  pub staffed : IsStaffed workers.answer (staff_of workers e.workers) e.timed

-- node m and its facts are as they were
pub record Stays (m : ℕ) (g h : List Fact) (s t : Joint) : Type 0 where
  pub facts : at_node m h ≡ at_node m g
  pub node : slice_get t.nodes m ≡ slice_get s.nodes m

-- with these facts a wire run goes on: its node n is this endpoint then, the others stay, and what
-- the endpoint sent is on the wire, in that order
pub record GoesOnWire {V W : Type 0} (service : Service.Ghosts V) (workers : Workers.Ghosts W)
    (parties : ℕ → Party) (n : ℕ) (g : List Fact) (s : Joint) (noted : List Fact)
    (new : Running V W) : Type 0 where
  pub end : Joint
  pub run : WireRun parties (g ++ noted) end
  pub left : end ≡ record {
    nodes = slice_set s.nodes n (seen workers new);
    flight = s.flight ++ on_wire n (sent_of noted);
  }
  pub is_endpoint : IsEndpoint service workers n (g ++ noted) end new
  pub others : (m : ℕ) → m ≢ n → Stays m g (g ++ noted) s end

-- so it does from any moment of a wire run in which what came is on the wire to this node
abbrev pub GoesOnFrom : {V W : Type 0} → Service.Ghosts V → Workers.Ghosts W → List Carried
    → List Fact → Running V W → Running V W → Type 0
GoesOnFrom service workers came noted old new =
    (parties : ℕ → Party) (n : ℕ) (g : List Fact) (s : Joint)
    → (parties n).serving ≡ rules_of service → WireRun parties g s
    → IsEndpoint service workers n g s old → AreOnWire s.flight n came
    → GoesOnWire service workers parties n g s noted new

-- the recorder grew by some facts. With these, and with what came, the endpoint did one deed more;
-- and by them a wire run goes on
pub record DoesMore {R V W : Type 0} (log : R → Log) (service : Service.Ghosts V)
    (workers : Workers.Ghosts W) (came : List Carried) (old new : Running V W) (before now : R)
    : Type 0 where
  pub noted : List Fact
  pub grew : Grew (log before) (log now) noted
  pub did : (life : ℕ) (limits : Limits) (ds : List Deed)
      → EndpointDid service workers life limits ds old
      → EndpointDid service workers life limits (ds ++ record {
        node = old.timed.lists.me;
        came = came;
        noted = noted;
      } ∷ []) new
  pub goes : GoesOnFrom service workers came noted old new

-- an endpoint that was just made did nothing yet, whatever its life is
abbrev pub NewDidNothing : {V W : Type 0} → Service.Ghosts V → Workers.Ghosts W → Type 0
NewDidNothing {V} {W} service workers =
    (me life : ℕ) (limits : Limits) (e : Running V W) → e.timed ≡ new_node me life limits
    → workers.out e.workers ≡ [] → service.stands e.service []
    → IsStaffed workers.answer (staff_of workers e.workers) e.timed
    → EndpointDid service workers life limits [] e

-- a turn is a deed with the datagrams that came in it
abbrev pub TurnsAreDeeds : {R K L V W : Type 0} → (R → Log) → Link.Ghosts L
    → (K → List Done → Type 0) → Service.Ghosts V → Workers.Ghosts W → Type 0
TurnsAreDeeds {R} {K} {L} {V} {W} log net given service workers =
    (turn : Option Turn) (now : ℕ) (link then_link : L) (old new : Running V W) (before later : R)
    (from to : K) (memory : Change ℕ)
    → IsStaffed workers.answer (staff_of workers old.workers) old.timed
    → (m : MakesTurn (bounds log given service workers) net turn now (link ⟶ then_link) (old ⟶ new)
    (before ⟶ later) (from ⟶ to) memory) → DoesMore log service workers m.came old new before later

-- so is a poll, in which none comes
abbrev pub PollsAreDeeds : {R K V W : Type 0} → (R → Log) → (K → List Done → Type 0)
    → Service.Ghosts V → Workers.Ghosts W → Type 0
PollsAreDeeds {R} {K} {V} {W} log given service workers =
    (turn : Option Turn) (now : ℕ) (link then_link : LinkTells) (old new : Running V W)
    (before later : R) (from to : K) (memory : Change ℕ)
    → IsStaffed workers.answer (staff_of workers old.workers) old.timed
    → MakesPoll (bounds log given service workers) turn now (link ⟶ then_link) (old ⟶ new)
    (before ⟶ later) (from ⟶ to) memory
    → DoesMore log service workers [] old new before later

-- and so is a delivery, of the datagram that it delivers
abbrev pub DeliveriesAreDeeds : {R V W : Type 0} → (R → Log) → Service.Ghosts V
    → Workers.Ghosts W → Type 0
DeliveriesAreDeeds {R} {V} {W} log service workers =
    (peer : ℕ) (bytes : List ℕ) (old new : Running V W) (before now : R)
    → IsStaffed workers.answer (staff_of workers old.workers) old.timed
    → Makes log (Delivers peer bytes) old.timed new.timed before now → Leaves old new
    → DoesMore log service workers ((peer, bytes) ∷ []) old new before now

-- what an application calls between two turns
pub data Call : Type 0 where
  ask : (session req_type : ℕ) → (bytes : List ℕ) → (room : ℕ) → Call
  connect : (peer credits rate : ℕ) → Call
  disconnect : (session : ℕ) → Call
  set_rate : (session rate : ℕ) → Call

-- what the call does with its node
abbrev pub CallDoes : Call → Rel
CallDoes (ask session req_type bytes room) = Asks session req_type bytes room
CallDoes (connect peer credits rate) = Connects peer credits rate
CallDoes (disconnect session) = Disconnects session
CallDoes (set_rate session rate) = SetsRate session rate

-- a session has 1 to 256 credits
abbrev pub MayCall : Call → Type 0
MayCall (connect peer credits rate) = IsCredits credits
MayCall _ = Unit {0}

-- and so is such a call
abbrev pub CallsAreDeeds : {R V W : Type 0} → (R → Log) → Service.Ghosts V → Workers.Ghosts W
    → Type 0
CallsAreDeeds {R} {V} {W} log service workers =
    (call : Call) → MayCall call → (old new : Running V W) (before now : R)
    → IsStaffed workers.answer (staff_of workers old.workers) old.timed
    → Makes log (CallDoes call) old.timed new.timed before now → Leaves old new
    → DoesMore log service workers [] old new before now
