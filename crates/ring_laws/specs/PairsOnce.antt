-- While no datagram was repeated, no call rolled back and no node restarted, a packet that is on
-- its way is unanswered, and stands in one place only.
use Rattle.std.specs.Prelude.{ℕ, ◌≡◌, ◌≤◌, ◌<◌, ◌+◌, ◌-◌, ◌==◌, ◌&&◌, not, Bool}
use Rattle.std.specs.Prelude.{false, Option, Some, None, List, length, count_by, slice_get, true}
use Rattle.std.specs.Bool.{MatchBool}
use Rattle.std.specs.List.{find, AllByRecursion}
use Rattle.packet_header.specs.Parts.{packet_count}
use Rattle.packet_header.specs.Reading.{message_of}
use Rattle.packet_header.specs.declared.packet.MessageHeader.{MessageHeader}
use Rattle.rpc_base.specs.declared.fact.Fact.{Fact}
use Rattle.rpc_base.specs.declared.owner.Owner.{Owner}
use Rattle.rpc_base.specs.declared.owner.Owner.TheVariants.{Ask, Reply, Control}
use Rattle.rpc_laws.specs.declared.tables.Call.{Call}
use Rattle.rpc_laws.specs.declared.tables.Client.{Client}
use Rattle.rpc_laws.specs.declared.tables.InFlight.{InFlight}
use Rattle.rpc_laws.specs.declared.tables.Job.{Job}
use Rattle.rpc_laws.specs.declared.tables.Lists.{Lists}
use Rattle.rpc_laws.specs.declared.tables.Progress.{Progress}
use Rattle.rpc_laws.specs.declared.tables.Server.{Server}
use Rattle.rpc_laws.specs.Calls.{is_active}
use Rattle.rpc_laws.specs.Front.{is_message}
use Rattle.rpc_laws.specs.Queues.{is_queued}
use Rattle.rpc_laws.specs.Requests.{is_server as is_session}
use Rattle.rpc_laws.specs.Sessions.{is_connected}
use Rattle.end_laws.specs.Kinds.{is_ask}
use Rattle.end_laws.specs.Moments.{Moment, Always, first_moment}
use Rattle.ring_laws.specs.CalmRing.{Calm}

-- packet k of request r was posted on a client session, and its reply isn't taken
pub record IsUnanswered (x : Client) (r k : ℕ) : Type 0 where
  pub call : Call
  pub active : find (is_active r) x.calls ≡ Some call
  pub progress : Progress
  pub is_progress : call.progress ≡ Some progress
  pub taken : progress.got ≤ k
  pub posted : k < progress.posted

-- packet k of request r for server session t
abbrev pub is_asking : (t r k : ℕ) → Option MessageHeader → Bool
is_asking t r k None = false
is_asking t r k (Some h) = is_ask h.kind && (h.session == t && (h.request == r && h.number == k))

-- the reply to it, for client session s
abbrev pub is_replying : (s r k : ℕ) → Option MessageHeader → Bool
is_replying s r k None = false
is_replying s r k (Some h) =
    not (is_ask h.kind) && (h.session == s && (h.request == r && h.number == k))

-- a job of request r of session t, whose last packet is k
abbrev pub is_job_of : (t r k : ℕ) → Job → Bool
is_job_of t r k j = j.session == t && (j.request == r && packet_count (length j.ask) - 1 == k)

-- in how many places packet k of request r of a session stands: queued at the client end, in flight
-- to the server end, in the ring there, as a job that is out, queued there as a reply, in flight
-- back, and in the ring of the client end
abbrev pub places : (flight : List InFlight) → (n s : ℕ) → Lists → (m t : ℕ) → Lists → (r k : ℕ) → ℕ
places flight n s client m t server r k =
    count_by (is_queued (Ask s r) k) client.queued
    + count_by (λ c. c.to == m && is_asking t r k (message_of c.bytes)) flight
    + count_by (λ a. is_asking t r k (message_of a.bytes)) server.ring
    + count_by (is_job_of t r k) server.jobs.out
    + count_by (is_queued (Reply t r) k) server.queued
    + count_by (λ c. c.to == n && is_replying s r k (message_of c.bytes)) flight
    + count_by (λ a. is_replying s r k (message_of a.bytes)) client.ring

-- client session s of node n and server session t of node m are the ends of one session, and both
-- are there
pub record AreEndsOf (w : Moment) (n s : ℕ) (client : Lists) (x : Client) (m t : ℕ) (server : Lists)
    (v : Server) : Type 0 where
  pub is_client : slice_get w.nodes n ≡ Some client
  pub client_there : slice_get client.clients s ≡ Some x
  pub is_server : slice_get w.nodes m ≡ Some server
  pub server_there : find (is_session t) server.servers ≡ Some v
  pub peer : x.way.peer ≡ m
  pub other : x.way.other ≡ t
  pub peer_life : x.way.life ≡ server.life
  pub home : v.way.peer ≡ n
  pub number : v.way.other ≡ s
  pub home_life : v.way.life ≡ client.life

-- a packet of the session stands once at most, and only while it is unanswered
pub record StandsOnce (w : Moment) (n s : ℕ) (client : Lists) (x : Client) (m t : ℕ)
    (server : Lists) (r k : ℕ) : Type 0 where
  pub once : places w.flight n s client m t server r k ≤ 1
  pub unanswered : 1 ≤ places w.flight n s client m t server r k → IsUnanswered x r k

-- so does each packet of each session
abbrev pub AllStandOnce : Moment → Type 0
AllStandOnce w =
    (n s : ℕ) (client : Lists) (x : Client) (m t : ℕ) (server : Lists) (v : Server)
    → AreEndsOf w n s client x m t server v → (r k : ℕ) → StandsOnce w n s client x m t server r k

-- a datagram for a node is a packet of a connected session that has an end there, and it is
-- unanswered
pub record IsOpen (w : Moment) (to : ℕ) (bytes : List ℕ) : Type 0 where
  pub header : MessageHeader
  pub reads : message_of bytes ≡ Some header
  pub home : ℕ
  pub number : ℕ
  pub client : Lists
  pub session : Client
  pub node : ℕ
  pub other : ℕ
  pub server : Lists
  pub end : Server
  pub ends : AreEndsOf w home number client session node other server end
  pub connected : is_connected session.state ≡ true
  pub comes : MatchBool (is_ask header.kind) ((to ≡ node) × (header.session ≡ other))
      ((to ≡ home) × (header.session ≡ number))
  pub unanswered : IsUnanswered session header.request header.number

-- packet k of request r is unanswered, in a connected session with this end at node n: its client
-- end where it asks, and its server end where it doesn't
pub record IsOpenAt (w : Moment) (asks : Bool) (n number r k : ℕ) : Type 0 where
  pub home : ℕ
  pub session : ℕ
  pub client : Lists
  pub item : Client
  pub node : ℕ
  pub other : ℕ
  pub server : Lists
  pub end : Server
  pub ends : AreEndsOf w home session client item node other server end
  pub connected : is_connected item.state ≡ true
  pub here : MatchBool asks ((n ≡ home) × (number ≡ session)) ((n ≡ node) × (number ≡ other))
  pub unanswered : IsUnanswered item r k

-- so is the packet that an owner has queued; session control has no packets of calls
abbrev pub IsOpenOwner : Moment → ℕ → Owner → ℕ → Type 0
IsOpenOwner w n (Ask s r) k = IsOpenAt w true n s r k
IsOpenOwner w n (Reply t r) k = IsOpenAt w false n t r k
IsOpenOwner w n Control k = Unit {0}

-- and the last packet of a request that is a job
abbrev pub IsOpenJob : Moment → ℕ → Job → Type 0
IsOpenJob w n j = IsOpenAt w false n j.session j.request (packet_count (length j.ask) - 1)

-- each packet of each session stands once at most, and each packet of a call that is in flight, in
-- a ring, queued or a job is unanswered
pub record IsTidy (w : Moment) : Type 0 where
  pub once : AllStandOnce w
  pub flight : AllByRecursion (λ c. is_message c.bytes ≡ true → IsOpen w c.to c.bytes) w.flight
  pub rings : (n : ℕ) (l : Lists) → slice_get w.nodes n ≡ Some l
      → AllByRecursion (λ a. IsOpen w n a.bytes) l.ring
  pub queued : (n : ℕ) (l : Lists) → slice_get w.nodes n ≡ Some l
      → AllByRecursion (λ q. IsOpenOwner w n q.owner q.number) l.queued
  pub jobs : (n : ℕ) (l : Lists) → slice_get w.nodes n ≡ Some l
      → AllByRecursion (IsOpenJob w n) l.jobs.out

-- so it is at each calm moment
abbrev pub PairsOnce : List Fact → Type 0
PairsOnce h = Always (λ w. Calm w.past → IsTidy w) first_moment h
