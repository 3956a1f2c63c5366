-- The replies to the packets of a request: their entries, their headers and what is sent.
use Rattle.std.specs.Prelude.{◌≡◌, ℕ, ◌+◌, ◌<◌, ◌==◌, ◌&&◌, nat_lt, Bool, false, not, Option}
use Rattle.std.specs.Prelude.{Some, None, option_and_then, option_map, IfSome, if◌then◌else◌}
use Rattle.std.specs.List.{find}
use Rattle.rpc_base.specs.declared.limits.TheConstants.{MOST_REFERENCES}
use Rattle.rpc_base.specs.declared.owner.Owner.{Owner}
use Rattle.rpc_base.specs.declared.owner.Owner.TheVariants.{Ask, Reply, Control}
use Rattle.rpc_base.specs.Owners.{same_owner}
use Rattle.packet_header.specs.Parts.{packet_count}
use Rattle.packet_header.specs.declared.packet.Kind.TheVariants.{Cr, Response}
use Rattle.packet_header.specs.declared.packet.MessageHeader.{MessageHeader}
pub use Rattle.buffer_pool.specs.Places.{IsHeld, MayHold, held_at, released_at}
use Rattle.buffer_pool.specs.Pool.{Pool, refs_of}
use Rattle.packet_rings.specs.Values.{EntryValue}
use Rattle.rpc_laws.specs.declared.tables.Outgoing.{Outgoing}
use Rattle.rpc_laws.specs.declared.tables.Server.{Server}
use Rattle.rpc_laws.specs.Packets.{reply_packet}
use Rattle.rpc_laws.specs.ServerTable.{is_worked_on}
use Rattle.server_core.specs.declared.slot.Stored.{Stored}
use Rattle.server_core.specs.declared.slot.SlotRequest.{SlotRequest}
use Rattle.server_core.specs.Rows.{as_newest}
use Rattle.server_core.specs.Session.{Session, answer_of, newest, owner_of}
use Rattle.server_core.specs.Shown.{shown}

-- where the bytes of a reply are: a credit return has none
abbrev pub place_of : SlotRequest → ℕ → Option ℕ
place_of q k =
    if nat_lt (k + 1) (packet_count q.size) then None
    else option_map (λ a. a.place) (answer_of q.state)

-- the entry of the reply to packet k of a request
abbrev pub entry_at : (session peer k : ℕ) → SlotRequest → EntryValue
entry_at session peer k q =
    record { owner = owner_of session q; number = k; place = place_of q k; peer = peer }

-- that of the reply to packet k of request r, with an answer
abbrev pub placed_entry : Session → (r k : ℕ) → Stored → EntryValue
placed_entry s r k a =
    record { owner = Reply s.number r; number = k; place = Some a.place; peer = s.peer }

-- the size of the answer, once there is one
abbrev pub answer_size : Option Stored → ℕ
answer_size None = 0
answer_size (Some a) = a.size

-- the header of that reply, to a client session in this life of the client
abbrev pub head_of : (client life k : ℕ) → SlotRequest → MessageHeader
head_of client life k q =
    if nat_lt (k + 1) (packet_count q.size)
    then record {
      kind = Cr;
      req_type = 0;
      size = 0;
      session = client;
      number = k;
      request = q.number;
      to_life = life;
    }
    else record {
      kind = Response;
      req_type = q.req_type;
      size = answer_size (answer_of q.state);
      session = client;
      number = k;
      request = q.number;
      to_life = life;
    }

-- whether an owner's packets are the replies to a request
abbrev pub is_owner : ℕ → Owner → SlotRequest → Bool
is_owner session owner q = same_owner (owner_of session q) owner

-- the request that an entry is a reply to
abbrev pub request_of : Session → EntryValue → Option SlotRequest
request_of s e = find (is_owner s.number e.owner) s.slots

-- the entry is the reply to a packet of the request that was taken, and no worker has its answer
-- yet
pub record IsReplyIn (q : SlotRequest) (e : EntryValue) : Type 0 where
  pub taken : e.number < q.taken
  pub there : is_worked_on (as_newest q) e.number ≡ false
  pub place_is : e.place ≡ place_of q e.number

abbrev pub IsReplyTo : Option SlotRequest → EntryValue → Type 0
IsReplyTo None e = ⊥
IsReplyTo (Some q) e = IsReplyIn q e

-- the packet of an owner, by the definitions over histories
abbrev pub owner_reply : Owner → ℕ → Server → Option Outgoing
owner_reply (Reply session r) k v =
    if v.way.number == session then reply_packet r k (Some v) else None
owner_reply (Ask session r) k v = None
owner_reply Control k v = None

-- the packet that an entry stands for
abbrev pub packet_of : Pool → Session → EntryValue → Option Outgoing
packet_of pool s e = owner_reply e.owner e.number (shown pool s)

-- one reply more can be queued: its reference to the answer can be counted, and itself
abbrev pub CanHold : Pool → SlotRequest → Type 0
CanHold pool q =
    IfSome (answer_of q.state) (λ a. refs_of pool a.place < MOST_REFERENCES)
    × (q.queued + 1 < MOST_REFERENCES)

-- whether packet k of a request was taken and has its reply: where a worker has the request, that
-- to its last packet is to come
abbrev pub has_reply : SlotRequest → ℕ → Bool
has_reply q k = nat_lt k q.taken && not (is_worked_on (as_newest q) k)

-- the entry of the reply to packet k of a request, where there is one
abbrev pub entry_if : (session peer r k : ℕ) → SlotRequest → Option EntryValue
entry_if session peer r k q =
    if q.number == r && has_reply q k then Some (entry_at session peer k q) else None

-- that of the newest request of its slot, where it has this number
abbrev pub taken_entry : (r k : ℕ) → Session → Option EntryValue
taken_entry r k s = option_and_then (entry_if s.number s.peer r k) (newest r s)
