-- What the facts tell of a request, against what the table of requests says of it. The facts so far
-- stand with the newest first.
use Rattle.std.specs.Prelude.{ℕ, ◌≡◌, ◌%◌, ◌==◌, ◌&&◌, not, nat_lt, Bool, false, Option, Some, None}
use Rattle.std.specs.Prelude.{is_none, List, [], ◌∷◌, ◌++◌, count_by, slice_get, if◌then◌else◌}
use Rattle.std.specs.List.{find, list_any}
use Rattle.packet_header.specs.declared.packet.MessageHeader.{MessageHeader}
use Rattle.rpc_base.specs.declared.event.Event.{Event}
use Rattle.rpc_base.specs.declared.event.Event.TheVariants.{Took, Given}
use Rattle.rpc_base.specs.declared.fact.Fact.{Fact}
use Rattle.rpc_base.specs.declared.owner.Owner.TheVariants.{Reply}
use Rattle.rpc_laws.specs.declared.tables.Arrival.{Arrival}
use Rattle.rpc_laws.specs.declared.tables.Lists.{Lists}
use Rattle.rpc_laws.specs.declared.tables.Served.{Served}
use Rattle.rpc_laws.specs.declared.tables.Server.{Server}
use Rattle.rpc_laws.specs.AtMostOnce.{runs_request}
use Rattle.rpc_laws.specs.Front.{front_header, front_body}
use Rattle.rpc_laws.specs.Queues.{ring_after}
use Rattle.rpc_laws.specs.Requests.{is_request, is_server}
use Rattle.node_laws.specs.EndedSessions.{ends_session}
use Rattle.node_laws.specs.OlderRequests.{takes_request}

-- a packet of a greater number of the slot of r is taken
abbrev pub takes_newer : (session request : ℕ) → Event → Bool
takes_newer t r (Took (Reply session request) k) =
    session == t && (request % 8 == r % 8 && nat_lt r request)
takes_newer t r _ = false

-- request r of server session t is given to a worker
abbrev pub gives_request : (session request : ℕ) → Event → Bool
gives_request t r (Given session request) = session == t && request == r
gives_request t r _ = false

-- the answer of its handler, by the latest run
abbrev pub answer_by : (session request : ℕ) → List Fact → Option (List ℕ)
answer_by t r [] = None
answer_by t r (f ∷ past) = if runs_request t r f.event then Some f.second else answer_by t r past

-- the receive ring
abbrev pub ring_by : List Fact → List Arrival
ring_by [] = []
ring_by (f ∷ past) = ring_after f.event f.first (ring_by past)

-- the header of its packet that was taken first; each stood at the front of the ring
abbrev pub first_by : (session request : ℕ) → List Fact → Option MessageHeader
first_by t r [] = None
first_by t r (f ∷ past) =
    if takes_request t r f.event && is_none (first_by t r past) then front_header (ring_by past)
    else first_by t r past

-- the bodies of those packets, joined
abbrev pub ask_by : (session request : ℕ) → List Fact → List ℕ
ask_by t r [] = []
ask_by t r (f ∷ past) =
    if takes_request t r f.event then ask_by t r past ++ front_body (ring_by past)
    else ask_by t r past

-- a request of session t has the type and the size of its first packet, and as many packets as were
-- taken. A worker has it where it was given and didn't run, and it has the answer of its run.
-- Before that it has the bytes that were taken
pub record TellsRequest (past : List Fact) (t : ℕ) (q : Served) : Type 0 where
  pub first : MessageHeader
  pub is_first : first_by t q.number past ≡ Some first
  pub req_type : q.req_type ≡ first.req_type
  pub size : q.size ≡ first.size
  pub taken : q.taken ≡ count_by (λ f. takes_request t q.number f.event) past
  pub working : q.working ≡ (list_any (λ f. gives_request t q.number f.event) past
      && not (list_any (λ f. runs_request t q.number f.event) past))
  pub answer : q.answer ≡ answer_by t q.number past
  pub ask : list_any (λ f. gives_request t q.number f.event) past ≡ false
      → list_any (λ f. runs_request t q.number f.event) past ≡ false
      → q.ask ≡ ask_by t q.number past

-- whether request r stands in the table of a session
abbrev pub is_listed : ℕ → Option Server → Bool
is_listed r None = false
is_listed r (Some v) = list_any (is_request r) v.slots

-- a request stands in the table of session t exactly where a packet of it was taken, none of a
-- greater number of its slot, and the session didn't end; and the table says of each what the facts
-- tell
pub record TellsRequests (past : List Fact) (s : Lists) : Type 0 where
  pub listed : (t r : ℕ) → is_listed r (find (is_server t) s.servers)
      ≡ (list_any (λ f. takes_request t r f.event) past
      && (not (list_any (λ f. takes_newer t r f.event) past)
      && not (list_any (λ f. ends_session t f.event) past)))
  pub requests : (t i : ℕ) (v : Server) (q : Served) → find (is_server t) s.servers ≡ Some v
      → slice_get v.slots i ≡ Some q → TellsRequest past t q
