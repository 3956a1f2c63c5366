-- What is sent: each packet goes to the session's peer, and its head and body spell the packet of
-- its owner. A control packet spells a request or an answer of the session that it names.
use Rattle.std.specs.Prelude.{ℕ, ◌≡◌, ◌+◌, true, ◌||◌, Option, Some, None, List, [], ◌∷◌, ◌++◌}
use Rattle.std.specs.Prelude.{length, slice_get}
use Rattle.std.specs.List.{find, slice_set}
use Rattle.rpc_base.specs.declared.limits.TheConstants.{HEAD_BYTES}
use Rattle.packet_header.specs.declared.packet.ControlHeader.{ControlHeader}
use Rattle.packet_header.specs.declared.packet.ControlKind.TheVariants.{DisconnectRequest}
use Rattle.packet_header.specs.declared.packet.ControlKind.TheVariants.{DisconnectReply}
use Rattle.packet_header.specs.declared.packet.Packet.TheVariants.{Control as ControlPacket}
use Rattle.packet_header.specs.Header.{AreBytes, Spells}
use Rattle.rpc_base.specs.declared.event.Event.{Event}
use Rattle.rpc_base.specs.declared.event.Event.TheVariants.{Made, Restarted, Sent, Ticked}
use Rattle.rpc_base.specs.declared.fact.Fact.{Fact}
use Rattle.rpc_base.specs.declared.fact.Who.{Who}
use Rattle.rpc_base.specs.declared.fact.Who.TheVariants.{Node, Net}
use Rattle.rpc_base.specs.declared.owner.Owner.{Owner}
use Rattle.rpc_base.specs.declared.owner.Owner.TheVariants.{Control}
use Rattle.rpc_laws.specs.declared.rows.ControlRow.TheVariants.{Disowns}
use Rattle.rpc_laws.specs.declared.tables.Client.{Client}
use Rattle.rpc_laws.specs.declared.tables.Lists.{Lists}
use Rattle.rpc_laws.specs.declared.tables.Outgoing.{Outgoing}
use Rattle.rpc_laws.specs.declared.tables.Server.{Server}
use Rattle.rpc_laws.specs.ControlSteps.{own_request}
use Rattle.rpc_laws.specs.ControlTable.{connect_reply, disconnect_as, is_end_of, named_end}
use Rattle.rpc_laws.specs.ControlTable.{reply_row}
use Rattle.rpc_laws.specs.Groups.{has_no_room, servers_spent}
use Rattle.rpc_laws.specs.Lives.{first_life}
use Rattle.rpc_laws.specs.NodeLists.{after, new_lists, restarted_lists}
use Rattle.rpc_laws.specs.Packets.{owner_packet}
use Rattle.rpc_laws.specs.Requests.{is_server}
use Rattle.rpc_laws.specs.Sessions.{is_client}
use Rattle.rpc_laws.specs.UsualLimits.{with_ring}

abbrev pub changed : ℕ → Option Lists → ℕ → List Lists → Fact → List Lists
changed clock (Some s) n nodes f = slice_set nodes n (after clock s f)
changed clock None n nodes f = nodes

-- a node is restarted
abbrev pub anew : Option Lists → ℕ → List Lists → List Lists
anew (Some s) n nodes = slice_set nodes n (restarted_lists s)
anew None n nodes = nodes

-- the nodes' lists after a fact of node n: Made makes the next node, in its first life, and
-- Restarted makes node n anew
abbrev pub node_after : ℕ → ℕ → Event → List Lists → Fact → List Lists
node_after clock n (Made ring) nodes f = nodes ++ new_lists n first_life (with_ring ring) ∷ []
node_after clock n (Restarted life) nodes f = anew (slice_get nodes n) n nodes
node_after clock n _ nodes f = changed clock (slice_get nodes n) n nodes f

abbrev pub nodes_at : ℕ → Who → List Lists → Fact → List Lists
nodes_at clock (Node n) nodes f = node_after clock n f.event nodes f
nodes_at clock Net nodes f = nodes

abbrev pub nodes_after : ℕ → List Lists → Fact → List Lists
nodes_after clock nodes f = nodes_at clock f.who nodes f

-- the world's clock goes on by its Ticked facts
abbrev pub ticked : Event → ℕ → ℕ
ticked (Ticked by) clock = clock + by
ticked _ clock = clock

abbrev pub clock_after : Who → Event → ℕ → ℕ
clock_after (Node n) e clock = clock
clock_after Net e clock = ticked e clock

-- the head and the body spell the packet that the owner has by its node's tables, and it goes to
-- its peer
pub record SpellsOwn (nodes : List Lists) (n peer : ℕ) (owner : Owner) (number : ℕ)
    (head body : List ℕ) : Type 0 where
  pub lists : Lists
  pub is_node : slice_get nodes n ≡ Some lists
  pub out : Outgoing
  pub own : owner_packet lists owner number ≡ Some out
  pub to_peer : peer ≡ out.peer
  pub long : length head ≡ HEAD_BYTES
  pub bytes : AreBytes head
  pub spells : Spells out.packet (head ++ body)
  pub whole : body ≡ out.body

-- a client session with this number was opened to this peer
pub record IsOpened (s : Lists) (peer session : ℕ) (x : Client) : Type 0 where
  pub found : find (is_client session) s.clients ≡ Some x
  pub to_peer : x.way.peer ≡ peer

-- a node takes no session of so many credits for the client session that a peer has in this life:
-- no server session is its other end, and there is no room for one, or no number
pub record TakesNoSession (s : Lists) (peer client life credits : ℕ) : Type 0 where
  pub unknown : find (is_end_of peer client life) s.servers ≡ None
  pub full : (has_no_room credits s || servers_spent s) ≡ true

-- a control packet that a node may send to a peer, by the rows of the control rule: a session's own
-- request; the answer that a live server session is the other end of the peer's, with its credits;
-- that the node takes no session of these credits; the request to end a server session that the
-- client session doesn't have; or the answer that a server session isn't there, with status 0 where
-- it ended, and with 2 where the request missed it
pub data OwnControl (s : Lists) (peer : ℕ) (h : ControlHeader) : Type 0 where
  asks : (x : Client) → IsOpened s peer h.client x → own_request s.life x ≡ Some h
      → OwnControl s peer h
  confirms : (to t : ℕ) → (v : Server)
      → h ≡ connect_reply s.life to h.client (Some t) v.credits 0
      → find (is_server t) s.servers ≡ Some v → is_end_of peer h.client to v ≡ true
      → OwnControl s peer h
  declines : (to : ℕ) → h ≡ connect_reply s.life to h.client None h.credits 1
      → TakesNoSession s peer h.client to h.credits → OwnControl s peer h
  disowns : (to : ℕ) → (x : Client) → IsOpened s peer h.client x
      → h ≡ disconnect_as DisconnectRequest s.life to h.client h.server 0
      → reply_row h.server to 0 x ≡ Disowns → OwnControl s peer h
  ends : (to : ℕ) → h ≡ disconnect_as DisconnectReply s.life to h.client h.server 0
      → named_end peer h.client to h.server s.servers ≡ None → OwnControl s peer h
  misses : (to : ℕ) → h ≡ disconnect_as DisconnectReply s.life to h.client h.server 2
      → named_end peer h.client to h.server s.servers ≡ None → OwnControl s peer h

-- the head spells such a packet, and there is no body
pub record SpellsControl (nodes : List Lists) (n peer number : ℕ) (head body : List ℕ)
    : Type 0 where
  pub lists : Lists
  pub is_node : slice_get nodes n ≡ Some lists
  pub header : ControlHeader
  pub own : OwnControl lists peer header
  pub no_number : number ≡ 0
  pub bytes : AreBytes head
  pub spells : Spells (ControlPacket header) head
  pub whole : body ≡ []

abbrev pub SentRight : List Lists → ℕ → Event → List ℕ → List ℕ → Type 0
SentRight nodes n (Sent peer Control number) head body = SpellsControl nodes n peer number head body
SentRight nodes n (Sent peer owner number) head body = SpellsOwn nodes n peer owner number head body
SentRight nodes n _ head body = Unit {0}
