-- Which histories follow a script: the joining of one group of facts for each command.
use Rattle.std.specs.Prelude.{ℕ, zero, suc, ◌≡◌, ◌+◌, ◌%◌, nat_lt, Bool, true, false, Option, Some}
use Rattle.std.specs.Prelude.{None, List, [], ◌∷◌, ◌++◌, length, map, slice_get, if◌then◌else◌}
use Rattle.std.specs.Bool.{MatchBool}
use Rattle.std.specs.List.{filter, list_all, list_any, remove, range_with_len, slice_set}
use Rattle.rpc_base.specs.declared.event.Event.{Event}
use Rattle.rpc_base.specs.declared.event.Event.TheVariants.{Made, PairedClient, PairedServer}
use Rattle.rpc_base.specs.declared.event.Event.TheVariants.{Restarted}
use Rattle.rpc_base.specs.declared.event.Event.TheVariants.{Dropped, Starved, Unsent, Missed}
use Rattle.rpc_base.specs.declared.event.Event.TheVariants.{Carried, Lost, Polled, Repeated, Ticked}
use Rattle.rpc_base.specs.declared.fact.Fact.{Fact}
use Rattle.rpc_base.specs.declared.state.DropReason.TheVariants.{NoMemory}
use Rattle.rpc_laws.specs.declared.tables.InFlight.{InFlight}
use Rattle.network_model.specs.declared.stage.Stage.{Stage}
use Rattle.rpc_laws.specs.declared.tables.Timed.{Timed}
use Rattle.rpc_outside.specs.PlainAnswer.{plain_mode}
use Rattle.rpc_laws.specs.AtMostOnce.{is_at}
use Rattle.rpc_laws.specs.Deliveries.{Delivers}
use Rattle.rpc_laws.specs.Facts.{plain, of_net}
use Rattle.rpc_laws.specs.Groups.{Asks, Connects, Disconnects, SetsRate, pair_refusal}
use Rattle.rpc_laws.specs.InFlight.{flight_after_all, flight_after_net}
use Rattle.rpc_laws.specs.Lives.{first_life}
use Rattle.rpc_laws.specs.NodeLists.{after, new_node, restarted}
use Rattle.rpc_laws.specs.PollOrder.{PollBy, SendsAll}
use Rattle.rpc_laws.specs.Service.{Answers, plain_serving}
use Rattle.rpc_laws.specs.Steps.{Rel}
use Rattle.rpc_laws.specs.UsualLimits.{with_ring}
use Rattle.rpc_laws.specs.Working.{FinishesWorked, Works, WorksAll, worked_after_all}
use Rattle.script_grammar.specs.declared.line.AskBytes.{AskBytes}
use Rattle.script_grammar.specs.declared.line.AskBytes.TheVariants.{Given, Count}
use Rattle.script_grammar.specs.declared.line.Command.{Command}
use Rattle.script_grammar.specs.declared.line.Command.TheVariants.{Node, Pair, Connect, Disconnect}
use Rattle.script_grammar.specs.declared.line.Command.TheVariants.{Rate, Call, Poll as PollNode}
use Rattle.script_grammar.specs.declared.line.Command.TheVariants.{Arrive, Lose, Repeat, Tick, Work}
use Rattle.script_grammar.specs.declared.line.Command.TheVariants.{Restart, Settle}
use Rattle.script_grammar.specs.declared.line.Line.{Line}

-- the bytes that a call sends: those given, or so many of which byte j is j mod 256
abbrev pub ask_bytes : AskBytes → List ℕ
ask_bytes (Given bytes) = bytes
ask_bytes (Count n) = map (λ j. j % 256) (range_with_len 0 n)

-- a step of node n; what it sent is in flight, and the jobs that it worked are not finished
pub record AtNode (P : Rel) (n : ℕ) (s : Stage) (x : List Fact) (t : Stage) : Type 0 where
  pub before : Timed
  pub now : Timed
  pub is_node : slice_get s.nodes n ≡ Some before
  pub step : P before x now
  pub left : t ≡ record {
    nodes = slice_set s.nodes n now;
    flight = flight_after_all s.flight x;
    worked = worked_after_all s.worked x;
    clock = s.clock;
  }

-- node R: the next node is made in its first life, with a ring of R places, 64 jobs and a timeout
-- of 5,000
pub record Makes (ring : ℕ) (s : Stage) (x : List Fact) (t : Stage) : Type 0 where
  pub facts : x ≡ plain (length s.nodes) (Made ring) ∷ []
  pub left : t ≡ record s {
    nodes = s.nodes ++ new_node (length s.nodes) first_life (with_ring ring) ∷ [];
  }

-- a node after one fact
abbrev pub noted : Timed → Fact → Timed
noted s f = record { lists = after s.clock s.lists f; clock = s.clock }

-- A gets a client session and B a server session, each with the other's number
pub record PairsEnds (a b credits : ℕ) (client server : Timed) (s : Stage) (x : List Fact)
    (t : Stage) : Type 0 where
  pub at_client : Fact
  pub at_server : Fact
  pub for_client : at_client ≡ plain client.lists.me
      (PairedClient (length client.lists.clients) b server.lists.server_numbers credits
      server.lists.life)
  pub for_server : at_server ≡ plain server.lists.me
      (PairedServer server.lists.server_numbers a (length client.lists.clients) credits
      client.lists.life)
  pub facts : x ≡ at_client ∷ at_server ∷ []
  pub left : t ≡ record s {
    nodes = slice_set (slice_set s.nodes a (noted client at_client)) b
        (noted server at_server);
  }

-- the first refusal is noted at its node, and nothing changes
abbrev pub PairsBy : Option Event → Option Event → (a b credits : ℕ) → (client server : Timed)
    → Stage → List Fact → Stage → Type 0
PairsBy (Some e) at_server a b credits client server s x t =
    (x ≡ plain client.lists.me e ∷ []) × (t ≡ s)
PairsBy None (Some e) a b credits client server s x t = (x ≡ plain server.lists.me e ∷ []) × (t ≡ s)
PairsBy None None a b credits client server s x t = PairsEnds a b credits client server s x t

-- pair A B: both are asked for room and a number, A first
pub record Pairs (a b credits : ℕ) (s : Stage) (x : List Fact) (t : Stage) : Type 0 where
  pub client : Timed
  pub server : Timed
  pub is_client : slice_get s.nodes a ≡ Some client
  pub is_server : slice_get s.nodes b ≡ Some server
  pub pairs : PairsBy (pair_refusal credits client.lists) (pair_refusal credits server.lists) a b
      credits client server s x t

-- an event of the network alone
pub record OfNet (e : Event) (s : Stage) (x : List Fact) (t : Stage) : Type 0 where
  pub facts : x ≡ of_net e ∷ []
  pub left : t ≡ record s { flight = flight_after_net e s.flight }

-- the event, where copy i is there
abbrev pub or_missed : List InFlight → ℕ → Event → Event
or_missed copies i e = if nat_lt i (length copies) then e else Missed i

-- copy i is taken out of flight and delivered
pub record Carries (i : ℕ) (s : Stage) (x : List Fact) (t : Stage) : Type 0 where
  pub copy : InFlight
  pub is_copy : slice_get s.flight i ≡ Some copy
  pub delivered : List Fact
  pub facts : x ≡ of_net (Carried i) ∷ delivered
  pub arrives : AtNode (Delivers copy.from copy.bytes) copy.to
      (record s { flight = remove s.flight i }) delivered t

-- arrive I
abbrev pub Arrives : ℕ → Stage → List Fact → Stage → Type 0
Arrives i s x t = MatchBool (nat_lt i (length s.flight)) (Carries i s x t) (OfNet (Missed i) s x t)

-- restart A: node A is made anew, with its ring and its next life. What it sent stays in flight
pub record Restarts (n : ℕ) (s : Stage) (x : List Fact) (t : Stage) : Type 0 where
  pub before : Timed
  pub is_node : slice_get s.nodes n ≡ Some before
  pub facts : x ≡ plain before.lists.me (Restarted (before.lists.life + 1)) ∷ []
  pub left : t ≡ record {
    nodes = slice_set s.nodes n (restarted before);
    flight = s.flight;
    worked = worked_after_all s.worked x;
    clock = s.clock;
  }

-- tick T: the world's clock goes on
pub record Ticks (by : ℕ) (s : Stage) (x : List Fact) (t : Stage) : Type 0 where
  pub facts : x ≡ of_net (Ticked by) ∷ []
  pub left : t ≡ record s { clock = s.clock + by }

-- a poll of node n at the world's clock: its worked jobs are finished in the order of working, and
-- it sends until nothing is ready
abbrev pub PollsNode : ℕ → Stage → List Fact → Stage → Type 0
PollsNode n s x t = AtNode (PollBy (FinishesWorked s.worked) SendsAll plain_mode s.clock) n s x t

-- one group, and then the others
pub record Joins (P Q : Stage → List Fact → Stage → Type 0) (s : Stage) (h : List Fact) (t : Stage)
    : Type 0 where
  pub between : Stage
  pub group : List Fact
  pub rest : List Fact
  pub joined : h ≡ group ++ rest
  pub does : P s group between
  pub follows : Q between rest t

-- P, so many times
abbrev pub Times : (Stage → List Fact → Stage → Type 0) → ℕ → Stage → List Fact → Stage → Type 0
Times P zero s x t = (x ≡ []) × (t ≡ s)
Times P (suc n) s x t = Joins (Times P n) P s x t

-- the first n nodes are polled, in order
abbrev pub PollsFirst : ℕ → Stage → List Fact → Stage → Type 0
PollsFirst zero s x t = (x ≡ []) × (t ≡ s)
PollsFirst (suc n) s x t = Joins (PollsFirst n) (PollsNode n) s x t

-- the waiting jobs of node n are worked, until none waits
abbrev pub WorksNode : ℕ → Stage → List Fact → Stage → Type 0
WorksNode n s x t = AtNode (WorksAll s.worked) n s x t

-- those of the first n nodes, in order
abbrev pub WorksFirst : ℕ → Stage → List Fact → Stage → Type 0
WorksFirst zero s x t = (x ≡ []) × (t ≡ s)
WorksFirst (suc n) s x t = Joins (WorksFirst n) (WorksNode n) s x t

-- the jobs of each node that wait are worked, and then each node is polled
abbrev pub WorksAndPolls : ℕ → Stage → List Fact → Stage → Type 0
WorksAndPolls n s x t = Joins (WorksFirst n) (PollsFirst n) s x t

-- a round carries copy 0 as many times as copies were in flight at its start, and then works and
-- polls each node
abbrev pub Round : Stage → List Fact → Stage → Type 0
Round s x t =
    Joins (Times (Carries 0) (length s.flight)) (λ u. WorksAndPolls (length u.nodes) u) s x t

abbrev pub is_polled : Event → Bool
is_polled (Polled now) = true
is_polled _ = false

-- after a round whose only facts are Polled there is no other
abbrev pub Unless : Bool → (Stage → List Fact → Stage → Type 0) → Stage → List Fact → Stage → Type 0
Unless true P s x t = (x ≡ []) × (t ≡ s)
Unless false P s x t = P s x t

pub record RoundAnd (P : Stage → List Fact → Stage → Type 0) (s : Stage) (x : List Fact) (t : Stage)
    : Type 0 where
  pub between : Stage
  pub round : List Fact
  pub rest : List Fact
  pub joined : x ≡ round ++ rest
  pub makes : Round s round between
  pub goes_on : Unless (list_all (λ f. is_polled f.event) round) P between rest t

-- settle K: at most K rounds
abbrev pub Settles : ℕ → Stage → List Fact → Stage → Type 0
Settles zero s x t = (x ≡ []) × (t ≡ s)
Settles (suc k) s x t = RoundAnd (Settles k) s x t

-- what a command does; a connect is without a rate
abbrev pub Does : Command → Stage → List Fact → Stage → Type 0
Does (Node ring) s x t = Makes ring s x t
Does (Pair a b credits) s x t = Pairs a b credits s x t
Does (Connect a b credits) s x t = AtNode (Connects b credits 0) a s x t
Does (Disconnect n session) s x t = AtNode (Disconnects session) n s x t
Does (Rate n session rate) s x t = AtNode (SetsRate session rate) n s x t
Does (Call n session y ask room) s x t = AtNode (Asks session y (ask_bytes ask) room) n s x t
Does (PollNode n) s x t = PollsNode n s x t
Does (Arrive i) s x t = Arrives i s x t
Does (Lose i) s x t = OfNet (or_missed s.flight i (Lost i)) s x t
Does (Repeat i) s x t = OfNet (or_missed s.flight i (Repeated i)) s x t
Does (Tick by) s x t = Ticks by s x t
Does (Work n i) s x t = AtNode (Works s.worked i) n s x t
Does (Settle rounds) s x t = Settles rounds s x t
Does (Restart n) s x t = Restarts n s x t

-- from s, h follows the lines and leaves t
abbrev pub FollowsFrom : List Line → Stage → List Fact → Stage → Type 0
FollowsFrom [] s h t = (h ≡ []) × (t ≡ s)
FollowsFrom (line ∷ lines) s h t = Joins (Does line.command) (FollowsFrom lines) s h t

-- no node, nothing in flight, and the clock at 0
abbrev pub empty_stage : Stage
empty_stage = record { nodes = []; flight = []; worked = []; clock = 0 }

-- the link of a script takes each packet, and memory isn't wanting
abbrev pub is_wanting : Event → Bool
is_wanting (Unsent peer) = true
is_wanting (Dropped NoMemory) = true
is_wanting (Starved peer client credits) = true
is_wanting _ = false

-- at each node the plain service ran
abbrev pub AnswersPlainly : List Fact → Type 0
AnswersPlainly h = (n : ℕ) → Answers plain_serving [] (filter (λ f. is_at n f.who) h)

-- h follows the script, and leaves the nodes, the copies and the clock so
pub record FollowsTo (script : List Line) (h : List Fact) (end : Stage) : Type 0 where
  pub commands : FollowsFrom script empty_stage h end
  pub answers : AnswersPlainly h
  pub whole : list_any (λ f. is_wanting f.event) h ≡ false

-- h follows the script
abbrev pub Follows : List Line → List Fact → Type 0
Follows script h = (end : Stage) × FollowsTo script h end
