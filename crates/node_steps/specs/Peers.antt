-- With which peers a session is live.
use Rattle.std.specs.Prelude.{ℕ, Bool, false, ◌==◌, ◌&&◌, ◌||◌, Option, None, Some, slice_get}
use Rattle.rpc_laws.specs.declared.tables.Client.{Client}
use Rattle.rpc_laws.specs.declared.tables.Lists.{Lists}
use Rattle.rpc_laws.specs.declared.tables.Server.{Server}
use Rattle.rpc_laws.specs.Sessions.{is_live}

-- a client session is there, live and with this peer
abbrev pub calls_to : (peer : ℕ) → Option Client → Bool
calls_to peer None = false
calls_to peer (Some x) = is_live x.state && (x.way.peer == peer)

-- a server session, which is live as long as it is there, is with this peer
abbrev pub serves_to : (peer : ℕ) → Option Server → Bool
serves_to peer None = false
serves_to peer (Some v) = v.way.peer == peer

-- one of them stands at this place of its list
abbrev pub is_with : (place peer : ℕ) → Lists → Bool
is_with place peer s =
    calls_to peer (slice_get s.clients place) || serves_to peer (slice_get s.servers place)
