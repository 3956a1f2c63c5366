-- What always holds of a node and of what its store has room for.
use Rattle.std.specs.Prelude.{◌≡◌, ℕ, ◌+◌, ◌*◌, ◌<◌, ◌≤◌, Bool, true, false, None, [], length}
use Rattle.std.specs.List.{AllByRecursion}
use Rattle.packet_header.specs.Ranges.{Within, lives}
use Rattle.rpc_base.specs.declared.limits.TheConstants.{MOST_CREDITS, MOST_RING, SESSION_NUMBERS}
use Rattle.rpc_base.specs.declared.owner.Owner.{Owner}
use Rattle.rpc_base.specs.declared.owner.Owner.TheVariants.{Ask, Reply, Control}
use Rattle.rpc_base.specs.declared.state.SessionState.{SessionState}
use Rattle.rpc_base.specs.declared.state.SessionState.TheVariants.{Closing, Connected, Spent}
use Rattle.rpc_laws.specs.declared.tables.Client.{Client}
use Rattle.rpc_laws.specs.declared.tables.Pace.{Pace}
use Rattle.rpc_laws.specs.declared.tables.Queued.{Queued}
use Rattle.rpc_laws.specs.declared.tables.Server.{Server}
use Rattle.rpc_laws.specs.declared.tables.Timed.{Timed}
use Rattle.rpc_laws.specs.Queues.{is_reply, replies}
use Rattle.rpc_laws.specs.Sessions.{is_connected}
use Rattle.node_laws.specs.Kept.{Kept}
use Rattle.node_laws.specs.Valid.{NumberedFrom}
use Rattle.session_store.specs.Ends.{Ascends}

-- a packet of a call or a reply to one; control packets are never queued
abbrev pub is_of_call : Owner → Bool
is_of_call (Ask s r) = true
is_of_call (Reply t r) = true
is_of_call Control = false

-- such a packet; no reply is paced
abbrev pub IsSendable : Queued → Type 0
IsSendable q = (is_of_call q.owner ≡ true) × (is_reply q.owner ≡ true → q.due ≡ None)

abbrev pub pace_no : Pace → ℕ
pace_no p = p.session

abbrev pub CallsAscend : Client → Type 0
CallsAscend x = Ascends x.calls

-- a session that is connected, or closes, has a server session
abbrev pub has_server : SessionState → Bool
has_server Connected = true
has_server Spent = true
has_server Closing = true
has_server _ = false

-- a client session has 1 to 256 credits, and the number of its server session and the life of that
-- one's endpoint, where it has one. It sent its own request nine times at most. One that isn't
-- connected has no call
pub record IsSettled (x : Client) : Type 0 where
  pub some : 1 ≤ x.limit
  pub most : x.limit ≤ MOST_CREDITS
  pub life : has_server x.state ≡ true → Within lives x.way.life
  pub joined : has_server x.state ≡ true → x.way.other < SESSION_NUMBERS
  pub few : x.sends ≤ 9
  pub none_left : is_connected x.state ≡ false → x.calls ≡ []

-- so many credits a session may have
abbrev pub IsCredit : ℕ → Type 0
IsCredit n = (1 ≤ n) × (n ≤ MOST_CREDITS)

abbrev pub HasCredit : Server → Type 0
HasCredit v = IsCredit v.credits

-- the lists are kept, the calls of each session stand in the order of their numbers, the pace of
-- each client session stands in the place of its number, and there are no more sessions of either
-- kind than numbers. There is room for as many packets of calls as the receive ring is long, and
-- for as many replies. The pool has sixteen places for each credit that the sessions may have, and
-- two for each job. Its life is in its range
pub record Fits (s : Timed) (size places : ℕ) : Type 0 where
  pub kept : Kept s.lists
  pub ascends : AllByRecursion CallsAscend s.lists.clients
  pub paces : NumberedFrom pace_no 0 s.lists.paces
  pub each : length s.lists.paces ≡ length s.lists.clients
  pub numbers : length s.lists.clients ≤ SESSION_NUMBERS
  pub server_numbers : s.lists.server_numbers ≤ SESSION_NUMBERS
  pub alive : Within lives s.lists.life
  pub settled : AllByRecursion IsSettled s.lists.clients
  pub credits : AllByRecursion HasCredit s.lists.servers
  pub sendable : AllByRecursion IsSendable s.lists.queued
  pub replies : replies s.lists.queued ≤ s.lists.room
  pub most : s.lists.room ≤ MOST_RING
  pub packets : size ≡ 2 * s.lists.room
  pub jobs : 1 ≤ s.lists.jobs.limit
  pub buffers : places ≡ 16 * s.lists.room + 2 * s.lists.jobs.limit
