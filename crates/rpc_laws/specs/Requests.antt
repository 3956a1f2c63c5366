-- The live server sessions with the newest request of each slot, as the facts of a node leave them.
use Rattle.std.specs.Prelude.{ℕ, ◌+◌, ◌%◌, ◌==◌, Bool, true, false, Option, Some, None, List, []}
use Rattle.std.specs.Prelude.{◌∷◌, ◌++◌, if◌then◌else◌, option_and_then}
use Rattle.std.specs.List.{find, list_any}
use Rattle.packet_header.specs.declared.packet.MessageHeader.{MessageHeader}
use Rattle.rpc_base.specs.declared.event.Event.{Event}
use Rattle.rpc_base.specs.declared.event.Event.TheVariants.{PairedServer, Accepted, Ended, Took}
use Rattle.rpc_base.specs.declared.event.Event.TheVariants.{Given, Ran}
use Rattle.rpc_base.specs.declared.owner.Owner.TheVariants.{Reply}
use Rattle.rpc_laws.specs.declared.tables.Served.{Served}
use Rattle.rpc_laws.specs.declared.tables.Server.{Server}
use Rattle.rpc_base.specs.Tables.{at_first, without_first}

abbrev pub is_server : ℕ → Server → Bool
is_server number v = v.way.number == number

abbrev pub is_request : ℕ → Served → Bool
is_request r q = q.number == r

-- the newest request of the slot of r
abbrev pub in_slot_of : ℕ → Served → Bool
in_slot_of r q = q.number % 8 == r % 8

-- request r of session t, where it is the newest of its slot
abbrev pub request_of : (t r : ℕ) → List Server → Option Served
request_of t r servers =
    option_and_then (λ v. find (is_request r) v.slots) (find (is_server t) servers)

abbrev pub server_end : (number peer other credits life : ℕ) → Server
server_end number peer other credits life =
    record {
      way = record { number = number; peer = peer; other = other; life = life };
      credits = credits;
      slots = [];
    }

-- a request begins with its first packet
abbrev pub first_packet : ℕ → MessageHeader → List ℕ → Served
first_packet r h body =
    record {
      number = r;
      req_type = h.req_type;
      size = h.size;
      taken = 1;
      ask = body;
      working = false;
      answer = None;
    }

-- one more packet in turn; the bytes of a request are the bodies of its packets, joined
abbrev pub next_packet : List ℕ → Served → Served
next_packet body q = record q { taken = q.taken + 1; ask = q.ask ++ body }

-- Took: the newest request of its slot goes on, or r begins in its place
abbrev pub took_packet : ℕ → Option MessageHeader → List ℕ → List Served → List Served
took_packet r None body slots = slots
took_packet r (Some h) body slots =
    if list_any (is_request r) slots then at_first (is_request r) (next_packet body) slots
    else without_first (in_slot_of r) slots ++ first_packet r h body ∷ []

-- a worker has the request, with its bytes, from Given on
abbrev pub given : Served → Served
given q = record q { ask = []; working = true }

-- until its Ran, which gives the answer; the bytes of the request are given up
abbrev pub answered : List ℕ → Served → Served
answered bytes q = record q { ask = []; working = false; answer = Some bytes }

-- a session stands there from Accepted or its pairing to Ended. answer is the fact's; head and body
-- are those of the packet at the front of the ring
abbrev pub servers_after : Event → List ℕ → Option MessageHeader → List ℕ → List Server
    → List Server
servers_after (PairedServer t peer s credits life) answer head body xs =
    xs ++ server_end t peer s credits life ∷ []
servers_after (Accepted t peer s credits life) answer head body xs =
    xs ++ server_end t peer s credits life ∷ []
servers_after (Ended t) answer head body xs = without_first (is_server t) xs
servers_after (Took (Reply t r) k) answer head body xs =
    at_first (is_server t) (λ v. record v { slots = took_packet r head body v.slots }) xs
servers_after (Given t r) answer head body xs =
    at_first (is_server t) (λ v. record v { slots = at_first (is_request r) given v.slots }) xs
servers_after (Ran t r y) answer head body xs =
    at_first (is_server t) (λ v. record v {
      slots = at_first (is_request r) (answered answer) v.slots;
    }) xs
servers_after _ answer head body xs = xs

-- how many numbers of server sessions were used
abbrev pub server_numbers_after : Event → ℕ → ℕ
server_numbers_after (PairedServer t peer s credits life) n = n + 1
server_numbers_after (Accepted t peer s credits life) n = n + 1
server_numbers_after _ n = n
