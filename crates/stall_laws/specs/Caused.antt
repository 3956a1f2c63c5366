-- Each call that isn't over has a named cause: a datagram of its request that was lost, a peer that
-- was restarted, credits that are all taken, or slots that are.
use Rattle.std.specs.Prelude.{ℕ, ◌≡◌, ◌==◌, nat_lt, Bool, true, false, not, ◌&&◌, ◌||◌, ◌⊎◌, Option}
use Rattle.std.specs.Prelude.{Some, None, is_some, option_and_then, option_map, List, ◌∷◌, ◌++◌}
use Rattle.std.specs.Prelude.{count_by, slice_get}
use Rattle.std.specs.Bool.{MatchBool}
use Rattle.std.specs.List.{list_any, AllByRecursion}
use Rattle.packet_header.specs.Reading.{message_of}
use Rattle.packet_header.specs.declared.packet.MessageHeader.{MessageHeader}
use Rattle.end_laws.specs.Kinds.{is_ask}
use Rattle.end_laws.specs.Moments.{Moment}
use Rattle.end_laws.specs.TwoEnds.{here}
use Rattle.rpc_base.specs.declared.event.Event.{Event}
use Rattle.rpc_base.specs.declared.event.Event.TheVariants.{Begun, Dropped, Lost, Overflowed}
use Rattle.rpc_base.specs.declared.event.Event.TheVariants.{Rolled}
use Rattle.rpc_base.specs.declared.fact.Fact.{Fact}
use Rattle.rpc_base.specs.declared.fact.Who.{Who}
use Rattle.rpc_base.specs.declared.fact.Who.TheVariants.{Node, Net}
use Rattle.rpc_laws.specs.declared.tables.Client.{Client}
use Rattle.rpc_laws.specs.declared.tables.InFlight.{InFlight}
use Rattle.rpc_laws.specs.declared.tables.Lists.{Lists}
use Rattle.rpc_laws.specs.declared.tables.Progress.{Progress}
use Rattle.rpc_laws.specs.declared.tables.Way.{Way}
use Rattle.rpc_laws.specs.AtMostOnce.{is_at}
use Rattle.rpc_laws.specs.Endpoints.{Endpoint, begins_life}
use Rattle.stall_laws.specs.Settled.{moment_of}

-- the datagram at the front of a node's ring
abbrev pub front_copy : ℕ → Lists → Option InFlight
front_copy n l =
    option_map (λ a. record { from = a.peer; to = n; bytes = a.bytes }) (slice_get l.ring 0)

-- the datagram that a fact of a node loses: one that found the ring full, or the front of the ring
abbrev pub lost_at_node : Moment → ℕ → Event → List ℕ → Option InFlight
lost_at_node w n (Overflowed peer) bytes = Some (record { from = peer; to = n; bytes = bytes })
lost_at_node w n (Dropped why) bytes = option_and_then (front_copy n) (slice_get w.nodes n)
lost_at_node w n _ bytes = None

-- the copy that a fact of the network loses
abbrev pub lost_in_net : Moment → Event → Option InFlight
lost_in_net w (Lost i) = slice_get w.flight i
lost_in_net w _ = None

abbrev pub lost_by : Moment → Who → Event → List ℕ → Option InFlight
lost_by w (Node n) e bytes = lost_at_node w n e bytes
lost_by w Net e bytes = lost_in_net w e

-- whether a packet is of request r, and goes to this life: it asks server session t, or it replies
-- to client session s
abbrev pub asks_of : (life t r : ℕ) → Option MessageHeader → Bool
asks_of life t r None = false
asks_of life t r (Some h) =
    is_ask h.kind && (h.to_life == life && (h.session == t && h.request == r))

abbrev pub replies_of : (life s r : ℕ) → Option MessageHeader → Bool
replies_of life s r None = false
replies_of life s r (Some h) =
    not (is_ask h.kind) && (h.to_life == life && (h.session == s && h.request == r))

-- whether a datagram goes from one node to another
abbrev pub is_between : (from to : ℕ) → InFlight → Bool
is_between from to copy = copy.from == from && copy.to == to

-- whether a datagram is of request r of a client session of endpoint n, in either direction
abbrev pub is_of_request : Endpoint → Way → ℕ → InFlight → Bool
is_of_request n way r copy =
    (is_between n.node way.peer copy && asks_of way.life way.other r (message_of copy.bytes))
    || (is_between way.peer n.node copy && replies_of n.life way.number r (message_of copy.bytes))

-- a fact by which call c of node n begins or is rolled back
abbrev pub restarts_by : ℕ → Event → Bool
restarts_by c (Begun call request) = call == c
restarts_by c (Rolled call posted got) = call == c
restarts_by c _ = false

abbrev pub restarts : (n c : ℕ) → Fact → Bool
restarts n c f = is_at n f.who && restarts_by c f.event

-- a fact loses a datagram of request r
pub record LosesCopy (before : List Fact) (fact : Fact) (n : Endpoint) (way : Way) (r : ℕ)
    : Type 0 where
  pub copy : InFlight
  pub lost : lost_by (moment_of before) fact.who fact.event fact.first ≡ Some copy
  pub own : is_of_request n way r copy ≡ true

-- or it restarts the peer of its session
abbrev pub RestartsPeer : Fact → Way → Type 0
RestartsPeer fact way = (is_at way.peer fact.who && begins_life fact.event) ≡ true

-- a datagram of request r was lost, or the peer restarted, and since then its call c of the present
-- life of node n neither began nor was rolled back
pub record WasLost (h : List Fact) (n : Endpoint) (way : Way) (c r : ℕ) : Type 0 where
  pub before : List Fact
  pub fact : Fact
  pub since : List Fact
  pub parted : h ≡ before ++ fact ∷ since
  pub goes_on : list_any (restarts n.node c) since ≡ false
  pub loses : LosesCopy before fact n way r ⊎ RestartsPeer fact way

-- how many calls of a session are active
abbrev pub active_calls : Client → ℕ
active_calls x = count_by (λ c. is_some c.progress) x.calls

-- why a call of a present life isn't over. One with unanswered packets has lost a datagram of its
-- request, or its peer was restarted; any other active one has no credit, and a waiting one no slot
abbrev pub CauseBy : List Fact → Endpoint → Client → (c : ℕ) → Option Progress → Type 0
CauseBy h n x c (Some p) =
    MatchBool (nat_lt p.got p.posted) (WasLost h n x.way c p.request) (x.free ≡ 0)
CauseBy h n x c None = active_calls x ≡ 8

-- so it is for each call of each session of a node
abbrev pub CausedAt : List Fact → ℕ → Lists → Type 0
CausedAt h n l =
    AllByRecursion
    (λ x. AllByRecursion (λ c. CauseBy h (here n l) x c.what.number c.progress) x.calls)
    l.clients

abbrev pub Caused : List Fact → Type 0
Caused h = (n : ℕ) (l : Lists) → slice_get (moment_of h).nodes n ≡ Some l → CausedAt h n l
