-- The queue of a store, as it is seen: its front, and what is sent and flushed of it.
use Rattle.std.specs.Prelude.{ℕ, ◌≡◌, true, Option, Some, None, IfSome, List, option_map, slice_get}
use Rattle.std.specs.List.{find}
use Rattle.rpc_base.specs.Tables.{at_first}
use Rattle.rpc_base.specs.declared.owner.Owner.{Owner}
use Rattle.rpc_base.specs.declared.owner.Owner.TheVariants.{Ask, Reply, Control}
use Rattle.packet_header.specs.Header.{AreBytes}
use Rattle.packet_rings.specs.Values.{EntryValue}
use Rattle.rpc_laws.specs.declared.tables.Client.{Client}
use Rattle.rpc_laws.specs.declared.tables.Outgoing.{Outgoing}
use Rattle.rpc_laws.specs.declared.tables.Queued.{Queued}
use Rattle.rpc_laws.specs.Packets.{IsSpelled, ask_packet, reply_packet}
use Rattle.rpc_laws.specs.Requests.{is_server}
use Rattle.rpc_laws.specs.Sessions.{is_client, sends}
use Rattle.session_store.specs.Joined.{without_due}
use Rattle.session_store.specs.Sides.{Shown}
use Rattle.session_ends.specs.Joined.{is_some_due, queued_of}

-- the packet of an owner, as the definitions over histories have it
abbrev pub packet_in : Shown → Owner → ℕ → Option Outgoing
packet_in s (Ask i r) k = ask_packet r k (find (is_client i) s.clients)
packet_in s (Reply t r) k = reply_packet r k (find (is_server t) s.servers)
packet_in s Control k = None

-- the peer of an owner's session
abbrev pub peer_in : Shown → Owner → Option ℕ
peer_in s (Ask i r) = option_map (λ x. x.way.peer) (find (is_client i) s.clients)
peer_in s (Reply t r) = option_map (λ v. v.way.peer) (find (is_server t) s.servers)
peer_in s Control = None

-- the front of the queue: it may be sent at this clock, its session is there, it goes to the
-- session's peer, and it is sent with this header and body
pub record IsFront (now : ℕ) (s : Shown) (e : EntryValue) (head body : List ℕ) : Type 0 where
  pub front : option_map without_due (slice_get s.queued 0) ≡ Some (queued_of e)
  pub due : is_some_due now (slice_get s.queued 0) ≡ true
  pub peer : peer_in s e.owner ≡ Some e.peer
  pub spells : IsSpelled (packet_in s e.owner e.number) head body
  pub bytes : AreBytes head

-- the client sessions once a packet was sent
abbrev pub clients_sent : (now : ℕ) → Owner → ℕ → List Client → List Client
clients_sent now (Ask i r) k xs = at_first (is_client i) (sends now r k) xs
clients_sent now (Reply t r) k xs = xs
clients_sent now Control k xs = xs

-- and once the front was
abbrev pub SendsFront : (now : ℕ) → List Queued → (old new : List Client) → Type 0
SendsFront now queued old new =
    IfSome (slice_get queued 0) (λ q. new ≡ clients_sent now q.owner q.number old)
