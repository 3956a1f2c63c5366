-- What the client sessions of a store begin, post and become, as the definitions over histories
-- have them.
use Rattle.std.specs.Prelude.{ℕ, ◌≡◌, ◌<◌, ◌≤◌, ◌+◌, ◌*◌, Bool, true, false, Option, Some, None}
use Rattle.std.specs.Prelude.{IfSome, List, [], count_by, length, slice_get, slice_set}
use Rattle.std.specs.Prelude.{option_and_then, option_map}
use Rattle.std.specs.List.{AllByRecursion, find, list_any}
use Rattle.rpc_base.specs.declared.owner.Owner.TheVariants.{Ask, Reply}
use Rattle.rpc_base.specs.declared.state.SessionState.TheVariants.{Broken, Closing, Connecting}
use Rattle.rpc_base.specs.declared.state.SessionState.{SessionState}
use Rattle.packet_header.specs.Parts.{packet_count}
use Rattle.packet_rings.specs.Values.{EntryValue}
use Rattle.client_core.specs.declared.active.Active.{Active}
use Rattle.rpc_laws.specs.declared.tables.Call.{Call}
use Rattle.rpc_laws.specs.declared.tables.Client.{Client}
use Rattle.rpc_laws.specs.Posting.{beginning, if_connected, posting}
use Rattle.rpc_laws.specs.GoBackN.{row_of}
use Rattle.rpc_laws.specs.Sessions.{begins, ends, is_connected, posts, rolls}
use Rattle.rpc_laws.specs.declared.rows.TimerRow.{TimerRow}
use Rattle.rpc_laws.specs.declared.tables.Progress.{Progress}
use Rattle.rpc_laws.specs.declared.tables.Queued.{Queued}
use Rattle.rpc_laws.specs.declared.tables.Server.{Server}
use Rattle.rpc_laws.specs.PollOrder.{is_working}
use Rattle.rpc_laws.specs.Requests.{answered, is_request}
use Rattle.server_core.specs.Steps.{gone_on_as}
use Rattle.node_laws.specs.QueuedPackets.{is_ask_of}
use Rattle.session_ends.specs.declared.server.ServerEnd.{ServerEnd}
use Rattle.session_ends.specs.declared.side.ClientEnd.{ClientEnd}
use Rattle.session_store.specs.Ends.{begun_event, posted_event, progress_of, told_of}
use Rattle.session_store.specs.Joined.{is_paced}
use Rattle.session_ends.specs.Joined.{is_owned}
use Rattle.session_store.specs.Sides.{Shown}

-- session i became f of what it was
pub record ChangesAt (i : ℕ) (f : Client → Client) (old new : List Client) : Type 0 where
  pub client : Client
  pub place : slice_get old i ≡ Some client
  pub changed : new ≡ slice_set old i (f client)

-- session i began its next call, or there is none
abbrev pub BeginsAt : ℕ → Option (ℕ × ℕ) → List Client → List Client → Type 0
BeginsAt i None old new =
    (option_and_then (if_connected beginning) (slice_get old i) ≡ None) × (new ≡ old)
BeginsAt i (Some b) old new =
    (option_and_then (if_connected beginning) (slice_get old i) ≡ Some (begun_event b))
    × ChangesAt i (begins b.0 b.1) old new

-- where session i is Connected, there is room in the ring for the packets of its free credits
abbrev pub MayQueue : ℕ → Shown → Type 0
MayQueue i s = IfSome (slice_get s.clients i)
    (λ x. is_connected x.state ≡ true → length s.queued + x.free ≤ s.size)

-- and in the pacer
abbrev pub MayPace : ℕ → Shown → Type 0
MayPace i s = IfSome (slice_get s.clients i)
    (λ x. is_connected x.state ≡ true → 2 * (count_by is_paced s.queued + x.free) ≤ s.size)

-- session i posted this packet next
pub record PostsNext (i : ℕ) (p : ℕ × ℕ) (old new : List Client) : Type 0 where
  pub client : Client
  pub place : slice_get old i ≡ Some client
  pub next : if_connected posting client ≡ Some (posted_event client.way.number p)
  pub changed : new ≡ slice_set old i (posts p.0 p.1 client)

-- session i posted its next packet, or there is none
abbrev pub PostsAt : ℕ → Option (ℕ × ℕ) → List Client → List Client → Type 0
PostsAt i None old new =
    (option_and_then (if_connected posting) (slice_get old i) ≡ None) × (new ≡ old)
PostsAt i (Some p) old new = PostsNext i p old new

-- an active call of session i with fewer than eight rollbacks, of which no packet is queued
pub record MayRoll (i number : ℕ) (s : Shown) : Type 0 where
  pub client : Client
  pub place : slice_get s.clients i ≡ Some client
  pub connected : is_connected client.state ≡ true
  pub progress : Progress
  pub active : progress_of number client ≡ Some progress
  pub few : progress.rolls < 8
  pub idle : list_any (is_owned (Ask i progress.request)) s.queued ≡ false

-- it was rolled back
pub record RollsAt (i number : ℕ) (old new : List Client) : Type 0 where
  pub client : Client
  pub place : slice_get old i ≡ Some client
  pub progress : Progress
  pub active : progress_of number client ≡ Some progress
  pub changed : new ≡ slice_set old i (rolls number progress.posted progress.got client)

-- no packet of session i is queued
abbrev pub IsIdle : ℕ → List Queued → Type 0
IsIdle i queued = list_any (λ q. is_ask_of i q.owner) queued ≡ false

-- what is known of a client session's other end
pub record IsClientEnd (e : ClientEnd) (x : Client) : Type 0 where
  pub peer : e.peer ≡ x.way.peer
  pub credits : e.credits ≡ x.limit
  pub server : e.server ≡ x.way.other
  pub life : e.life ≡ x.way.life

-- what never changes of a server session
pub record IsEnd (e : ServerEnd) (v : Server) : Type 0 where
  pub number : e.session ≡ v.way.number
  pub peer : e.peer ≡ v.way.peer
  pub client : e.client ≡ v.way.other
  pub life : e.life ≡ v.way.life
  pub credits : e.credits ≡ v.credits

-- no reply to a request of a server session is queued
abbrev pub IsDrained : List Queued → Server → Type 0
IsDrained queued v = AllByRecursion
    (λ q. list_any (is_owned (Reply v.way.number q.number)) queued ≡ false) v.slots

-- what the timer rule says of an active call of session i, at this clock and with this timeout
abbrev pub RowAt : (now timeout i number : ℕ) → TimerRow → Shown → Type 0
RowAt now timeout i number row s =
    IfSome (slice_get s.clients i) (λ x. IfSome (progress_of number x)
    (λ p. row_of now timeout i s.queued p ≡ row))

-- what is told of an active call of session i
pub record ActiveAt (i : ℕ) (a : Active) (clients : List Client) : Type 0 where
  pub client : Client
  pub place : slice_get clients i ≡ Some client
  pub progress : Progress
  pub active : progress_of a.call client ≡ Some progress
  pub told : a ≡ told_of a.call progress

-- a session that is Connected
abbrev pub IsConnected : Option Client → Type 0
IsConnected o = IfSome o (λ x. is_connected x.state ≡ true)

-- a session that is in this state
abbrev pub IsInState : SessionState → Option Client → Type 0
IsInState state o = IfSome o (λ x. x.state ≡ state)

-- a session that is opened, and one that closes, has a request of its own
abbrev pub has_request : SessionState → Bool
has_request Connecting = true
has_request Closing = true
has_request _ = false

abbrev pub HasRequest : Option Client → Type 0
HasRequest o = IfSome o (λ x. has_request x.state ≡ true)

-- one more of these was sent, at this clock
abbrev pub sent_again : (clock : ℕ) → Client → Client
sent_again clock x = record x { sends = x.sends + 1; sent_at = clock }

-- a session that has no calls
abbrev pub HasNoCalls : Option Client → Type 0
HasNoCalls o = IfSome o (λ x. x.calls ≡ [])

-- a session that has lost its peer
abbrev pub IsLost : Option Client → Type 0
IsLost o = IfSome o (λ x. x.state ≡ Broken)

-- the calls of session i
abbrev pub calls_in : Option Client → List Call
calls_in None = []
calls_in (Some x) = x.calls

abbrev pub first_number : List Call → Option ℕ
first_number calls = option_map (λ c. c.what.number) (slice_get calls 0)

-- the first call of session i ended, or it has none
abbrev pub LosesAt : ℕ → Option ℕ → List Client → List Client → Type 0
LosesAt i None old new =
    (first_number (calls_in (slice_get old i)) ≡ None) × (new ≡ old)
LosesAt i (Some n) old new =
    (first_number (calls_in (slice_get old i)) ≡ Some n) × ChangesAt i (ends n) old new

-- whether a request waits for a worker's answer
abbrev pub is_waited : ℕ → Server → Bool
is_waited r v = is_working (find (is_request r) v.slots)

-- it has it, and the entry is the reply to the request's last packet
pub record AnswersAt (i r : ℕ) (bytes : List ℕ) (e : EntryValue) (old new : List Server)
    : Type 0 where
  pub server : Server
  pub place : slice_get old i ≡ Some server
  pub waited : is_waited r server ≡ true
  pub owner : e.owner ≡ Reply server.way.number r
  pub peer : e.peer ≡ server.way.peer
  pub last : IfSome (find (is_request r) server.slots) (λ q. e.number + 1 ≡ packet_count q.size)
  pub changed : new ≡ slice_set old i (gone_on_as r (answered bytes) server)

-- server session i has the answer of a worker to a request that waited for it, or none waited
abbrev pub FinishesAt : (i r : ℕ) → List ℕ → Option EntryValue → List Server → List Server → Type 0
FinishesAt i r bytes None old new =
    IfSome (slice_get old i) (λ v. is_waited r v ≡ false) × (new ≡ old)
FinishesAt i r bytes (Some e) old new = AnswersAt i r bytes e old new
