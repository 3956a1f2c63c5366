-- Client sessions at their stages, and server sessions by their numbers: what holds of one, and how
-- one is found.
use Rattle.std.specs.Prelude.{◌≡◌, ℕ, ◌<◌, ◌==◌, ◌&&◌, nat_lt, Bool, Option, Some, None, List, []}
use Rattle.std.specs.Prelude.{◌∷◌, map}
use Rattle.std.specs.List.{AllByRecursion, find}
use Rattle.buffer_pool.specs.Pool.{Pool}
use Rattle.packet_rings.specs.Values.{EntryValue}
use Rattle.rpc_laws.specs.Lives.{no_life}
use Rattle.rpc_laws.specs.Sessions.{no_session}
use Rattle.client_core.specs.KeepsPool.{CanHold, KeepsPool}
use Rattle.client_core.specs.Posting.{IsPacketOf, call_of}
use Rattle.client_core.specs.Session.{Session}
use Rattle.server_core.specs.KeepsPool.{KeepsPool as KeepsAnswers}
use Rattle.server_core.specs.Replies.{IsReplyTo, request_of}
use Rattle.server_core.specs.Session.{Session as Serving}
use Rattle.session_ends.specs.declared.side.Side.{Side}
use Rattle.session_ends.specs.declared.stage.Stage.{Stage}
use Rattle.session_ends.specs.declared.stage.Stage.TheVariants.{Connecting, Connected, Closing}
use Rattle.session_ends.specs.declared.stage.Stage.TheVariants.{Closed, Failed, Broken}

-- the number of a session at the server, none before it is connected
abbrev pub server_at : Stage → Session → ℕ
server_at (Connecting sends sent_at) s = no_session
server_at Connected s = s.server
server_at (Closing sends sent_at) s = s.server
server_at Closed s = s.server
server_at Failed s = no_session
server_at Broken s = s.server

-- and the life of its server, nobody's before it is connected
abbrev pub life_at : Stage → Session → ℕ
life_at (Connecting sends sent_at) s = no_life
life_at Connected s = s.life
life_at (Closing sends sent_at) s = s.life
life_at Closed s = s.life
life_at Failed s = no_life
life_at Broken s = s.life

-- the entry is a packet that a call of the connected session posted
abbrev pub IsOfSide : EntryValue → Option Side → Type 0
IsOfSide e None = ⊥
IsOfSide e (Some s) =
    (e.peer ≡ s.peer) × (s.stage ≡ Connected) × IsPacketOf (call_of s.session e) e

-- whether a server session is the other end of a client session that a peer has in this life
abbrev pub ends_at : (peer client life : ℕ) → Serving → Bool
ends_at peer client life v = v.peer == peer && (v.client == client && v.life == life)

-- and whether it is of an older life of the peer
abbrev pub is_of_older : (peer life : ℕ) → Serving → Bool
is_of_older peer life v = v.peer == peer && nat_lt v.life life

-- the server session with a number has the request that the entry is a reply to
abbrev pub has_number : ℕ → Serving → Bool
has_number number v = v.number == number

abbrev pub IsOfServer : EntryValue → Option Serving → Type 0
IsOfServer e None = ⊥
IsOfServer e (Some v) = IsReplyTo (request_of v e) e

abbrev pub HasReply : ℕ → EntryValue → List Serving → Type 0
HasReply number e servers = IsOfServer e (find (has_number number) servers)

-- numbers that rise
abbrev pub Rises : List ℕ → Type 0
Rises [] = Unit {0}
Rises (n ∷ ns) = AllByRecursion (λ m. n < m) ns × Rises ns

abbrev pub numbers_in : List Serving → List ℕ
numbers_in servers = map (λ v. v.number) servers

-- what holds of one client session
abbrev pub SideKept : Pool → Side → Type 0
SideKept pool s = KeepsPool pool s.session.active

-- what a session wants to post
abbrev pub MayPost : Pool → Side → Type 0
MayPost pool s = KeepsPool pool s.session.active × CanHold pool s.session.active

-- and of one server session
abbrev pub ServerKept : Pool → Serving → Type 0
ServerKept pool v = KeepsAnswers pool v.slots

-- an entry is a reply of the server session with a number: those of all sessions rise, and the pool
-- keeps each
pub record IsReplyThere (number : ℕ) (e : EntryValue) (pool : Pool) (servers : List Serving)
    : Type 0 where
  pub rises : Rises (numbers_in servers)
  pub keeps : AllByRecursion (ServerKept pool) servers
  pub stands : HasReply number e servers
