-- Sessions that share a pool and a transmit ring: what they show, and what always holds of them.
-- The ring has here all that is queued, also what is paced.
use Rattle.std.specs.Prelude.{◌≡◌, ℕ, ◌+◌, ◌*◌, ◌<◌, ◌≤◌, ◌==◌, ◌&&◌, Bool, true, false, Some, List}
use Rattle.std.specs.Prelude.{[], ◌∷◌, count_by, length, map, sum_by, slice_get}
use Rattle.std.specs.List.{AllByRecursion, list_any}
use Rattle.rpc_base.specs.declared.owner.Owner.{Owner}
use Rattle.rpc_base.specs.declared.owner.Owner.TheVariants.{Ask, Reply, Control}
use Rattle.buffer_pool.specs.Counting.{Counts}
use Rattle.buffer_pool.specs.Pool.{Pool, spare_of}
use Rattle.packet_rings.specs.Rings.{Ring}
use Rattle.packet_rings.specs.Values.{EntryValue}
use Rattle.rpc_base.specs.declared.limits.TheConstants.{MOST_CREDITS, MOST_REFERENCES}
use Rattle.rpc_laws.specs.Groups.{live_credits}
use Rattle.rpc_laws.specs.declared.tables.Call.{Call}
use Rattle.rpc_laws.specs.declared.tables.Client.{Client}
use Rattle.rpc_laws.specs.declared.tables.Queued.{Queued}
use Rattle.rpc_laws.specs.declared.tables.Server.{Server}
use Rattle.client_core.specs.Counting.{CountsQueued}
use Rattle.client_core.specs.Handing.{Handed, handed_of}
use Rattle.client_core.specs.KeepsPool.{names}
use Rattle.server_core.specs.Counting.{CountsQueued as CountsReplies}
use Rattle.server_core.specs.Flushing.{HoldsAll}
use Rattle.server_core.specs.KeepsPool.{names as slot_names, places as slot_places}
use Rattle.server_core.specs.Session.{Session as Serving}
use Rattle.server_core.specs.Shown.{shown as shown_server}
use Rattle.session_store.specs.Ends.{Ascends, shown_end}
use Rattle.session_ends.specs.declared.side.Side.{Side}
use Rattle.session_ends.specs.Sides.{IsOfSide, Rises, ServerKept, SideKept, numbers_in}
use Rattle.session_ends.specs.Joined.{queued_of}

-- a client session as the definitions over histories have it
abbrev pub shown_side : Pool → Side → Client
shown_side pool s = shown_end s.stage pool s.peer s.session

-- and what was handed in with its calls
abbrev pub side_handed : Pool → Side → List Handed
side_handed pool s = handed_of pool s.session

-- how often all client sessions name a place, and how many places they name
abbrev pub names_in : ℕ → List Side → ℕ
names_in p sides = sum_by (λ s. names p s.session.active) sides

abbrev pub places_in : List Side → ℕ
places_in sides = sum_by (λ s. 2 * length s.session.active) sides

-- and the server sessions
abbrev pub served_names : ℕ → List Serving → ℕ
served_names p servers = sum_by (λ v. slot_names p v.slots) servers

abbrev pub served_places : List Serving → ℕ
served_places servers = sum_by (λ v. slot_places v.slots) servers

-- what contracts see of all sessions and of what is queued
pub record Shown : Type 0 where
  pub clients : List Client
  -- what was handed in with the calls of each client session
  pub handed : List (List Handed)
  pub servers : List Server
  pub queued : List Queued
  -- how long the ring may be, and how many places the pool has: those that are empty, and those
  -- that the sessions name
  pub size : ℕ
  pub places : ℕ

abbrev pub shown_of : Pool → List Side → List Serving → Ring EntryValue → Shown
shown_of pool sides servers tx = record {
  clients = map (shown_side pool) sides;
  handed = map (side_handed pool) sides;
  servers = map (shown_server pool) servers;
  queued = map queued_of tx.items;
  size = tx.size;
  places = spare_of pool + places_in sides + served_places servers;
}

abbrev pub are_calls : List Call → Bool
are_calls [] = false
are_calls (c ∷ cs) = true

abbrev pub has_calls : Client → Bool
has_calls x = are_calls x.calls

-- the pool has a place for each buffer that the sessions may have, and for two more: a session has
-- eight calls or requests at most, with two buffers each, and one without calls has no buffers
abbrev pub HasRoom : Shown → Type 0
HasRoom s = 16 * (count_by has_calls s.clients + length s.servers) + 2 ≤ s.places

-- no session, and nothing queued
abbrev pub no_sessions : (size places : ℕ) → Shown
no_sessions size places = record {
  clients = [];
  handed = [];
  servers = [];
  queued = [];
  size = size;
  places = places;
}

-- whether a server session has this number and this peer
abbrev pub is_end : (number peer : ℕ) → Serving → Bool
is_end number peer v = v.number == number && v.peer == peer

-- the session of an entry is there and its peer is the entry's: that of a call's packet posted it.
-- That a reply is one of its session's is what HoldsAll says
abbrev pub IsOfOwner : List Side → List Serving → EntryValue → Owner → Type 0
IsOfOwner sides servers e (Ask s r) = IsOfSide e (slice_get sides s)
IsOfOwner sides servers e (Reply t r) = list_any (is_end t e.peer) servers ≡ true
IsOfOwner sides servers e Control = ⊥

abbrev pub IsOf : List Side → List Serving → EntryValue → Type 0
IsOf sides servers e = IsOfOwner sides servers e e.owner

-- what else holds of one client session
abbrev pub SideQueued : List EntryValue → Side → Type 0
SideQueued entries s = CountsQueued s.session entries

abbrev pub SideAscends : Pool → Side → Type 0
SideAscends pool s = Ascends (shown_side pool s).calls

abbrev pub HasSlots : Side → Type 0
HasSlots s = length s.session.active ≤ 8

-- and of one server session
abbrev pub ServerHolds : Pool → List EntryValue → Serving → Type 0
ServerHolds pool entries v = HoldsAll v pool entries

abbrev pub ServerQueued : List EntryValue → Serving → Type 0
ServerQueued entries v = CountsReplies v entries

abbrev pub HasPlaces : Serving → Type 0
HasPlaces v = slot_places v.slots ≤ 16

pub record Kept (pool : Pool) (sides : List Side) (servers : List Serving) (tx : Ring EntryValue)
    : Type 0 where
  -- a client session's number is its place, and those of server sessions rise
  pub numbered : (i : ℕ) → (s : Side) → slice_get sides i ≡ Some s → s.session.number ≡ i
  pub rises : Rises (numbers_in servers)
  -- the pool keeps each session, and no two name a place
  pub keeps : AllByRecursion (SideKept pool) sides
  pub serves : AllByRecursion (ServerKept pool) servers
  pub apart : (p : ℕ) → names_in p sides + served_names p servers ≤ 1
  -- the references to each place are the entries that name it
  pub counted : Counts pool tx.items
  -- each entry is a packet that its session posted, and the ring has each reply that is neither
  -- sent nor flushed
  pub stands : AllByRecursion (IsOf sides servers) tx.items
  pub holds : AllByRecursion (ServerHolds pool tx.items) servers
  -- each call, and each request, counts its entries
  pub queued : AllByRecursion (SideQueued tx.items) sides
  pub replies : AllByRecursion (ServerQueued tx.items) servers
  pub ascends : AllByRecursion (SideAscends pool) sides
  pub within : length tx.items ≤ tx.size
  pub few : tx.size < MOST_REFERENCES
  -- each session has eight slots
  pub slots : AllByRecursion HasSlots sides
  pub served : AllByRecursion HasPlaces servers

-- the lists of client sessions, of server sessions and of their codes have room for half as many as
-- the ring for packets
pub record HasSessionRoom (size sides servers ends : ℕ) : Type 0 where
  pub for_clients : size ≤ 2 * sides
  pub for_servers : size ≤ 2 * servers
  pub for_ends : size ≤ 2 * ends

-- the credits of the live sessions are counted, and none has more than a session may
pub record CountsShares (count : ℕ) (clients : List Client) (servers : List Server) : Type 0 where
  pub all : count ≡ sum_by live_credits clients + sum_by (λ v. v.credits) servers
  pub few : AllByRecursion (λ x. live_credits x ≤ MOST_CREDITS) clients
  pub few_served : AllByRecursion (λ v. v.credits ≤ MOST_CREDITS) servers
