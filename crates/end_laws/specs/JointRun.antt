-- Runs of several nodes together over a network that carries, loses, repeats and holds back copies
-- of what they send. Each node has its own limits, its own service and its own clock, and lives its
-- first life: none is restarted.
use Rattle.std.specs.Prelude.{ℕ, ◌≡◌, ◌≢◌, ◌≤◌, ◌<◌, Some, None, List, [], ◌∷◌, ◌++◌, length, map}
use Rattle.std.specs.Prelude.{slice_get, count_by}
use Rattle.std.specs.List.{filter, remove, slice_set}
use Rattle.rpc_base.specs.declared.event.Event.{Event}
use Rattle.rpc_base.specs.declared.event.Event.TheVariants.{Made, PairedClient, PairedServer}
use Rattle.rpc_base.specs.declared.event.Event.TheVariants.{Carried, Lost, Repeated, Ticked, Missed}
use Rattle.rpc_base.specs.declared.fact.Fact.{Fact}
use Rattle.rpc_base.specs.declared.limits.Limits.{Limits}
use Rattle.rpc_base.specs.declared.limits.TheConstants.{SESSION_NUMBERS}
use Rattle.rpc_outside.specs.declared.service.Mode.{Mode}
use Rattle.rpc_laws.specs.declared.tables.InFlight.{InFlight}
use Rattle.rpc_laws.specs.declared.tables.Timed.{Timed}
use Rattle.rpc_laws.specs.AtMostOnce.{is_at, works_request}
use Rattle.rpc_laws.specs.Deliveries.{Delivers}
use Rattle.rpc_laws.specs.Facts.{plain, of_net}
use Rattle.rpc_laws.specs.Groups.{client_refusal, server_refusal}
use Rattle.rpc_laws.specs.InFlight.{flight_after_all, flight_after_net}
use Rattle.rpc_laws.specs.Lives.{first_life}
use Rattle.rpc_laws.specs.NodeLists.{after, new_node}
use Rattle.rpc_laws.specs.OwnAnswer.{Own, OwnBy}
use Rattle.rpc_laws.specs.Service.{Serving, Answers, plain_serving}
use Rattle.rpc_laws.specs.GoBackN.{usual_timeout}
use Rattle.rpc_laws.specs.Jobs.{usual_jobs}
use Rattle.node_laws.specs.NodeRun.{Group, IsCredits, pairs_client, pairs_server, delivers}
use Rattle.end_laws.specs.Moments.{Moment, lived_first}

-- what a node is made with, beside its ring: how many jobs may be out, its timeout, and its service
pub record Party : Type 0 where
  pub jobs : ℕ
  pub timeout : ℕ
  pub serving : Serving

abbrev pub limits_of : Party → ℕ → Limits
limits_of p ring = record { ring = ring; jobs = p.jobs; timeout = p.timeout }

-- the nodes, in the order in which they were made, and the copies in flight. There is no clock:
-- each node has its own
pub record Joint : Type 0 where
  pub nodes : List Timed
  pub flight : List InFlight

abbrev pub nobody : Joint
nobody = record { nodes = []; flight = [] }

-- a group that a node makes by itself: an end of a pair is made with the other one, and a datagram
-- is delivered out of flight
abbrev pub IsAlone : (mode : ℕ → Mode) (s : Timed) (x : List Fact) (t : Timed)
    → Group mode s x t → Type 0
IsAlone mode s x t (pairs_client peer server credits life may h) = ⊥
IsAlone mode s x t (pairs_server peer client credits life may h) = ⊥
IsAlone mode s x t (delivers peer bytes h) = ⊥
IsAlone mode s x t _ = Unit {0}

pub record AloneGroup (mode : ℕ → Mode) (s : Timed) (x : List Fact) (t : Timed) : Type 0 where
  pub group : Group mode s x t
  pub alone : IsAlone mode s x t group

-- the next node is made, with a ring and its own limits
pub record MakesNode (parties : ℕ → Party) (s : Joint) (x : List Fact) (t : Joint) : Type 0 where
  pub ring : ℕ
  pub facts : x ≡ plain (length s.nodes) (Made ring) ∷ []
  pub left : t ≡ record s {
    nodes = s.nodes
        ++ new_node (length s.nodes) first_life (limits_of (parties (length s.nodes)) ring) ∷ [];
  }

-- node n makes a group by itself: a call or its refusal, a poll at a clock of its own, a job that
-- is worked. What it sent is in flight
pub record Acts (parties : ℕ → Party) (s : Joint) (x : List Fact) (t : Joint) : Type 0 where
  pub node : ℕ
  pub before : Timed
  pub now : Timed
  pub is_node : slice_get s.nodes node ≡ Some before
  pub group : AloneGroup (parties node).serving.mode before x now
  pub left : t ≡ record {
    nodes = slice_set s.nodes node now;
    flight = flight_after_all s.flight x;
  }

-- a node after one fact, at its own clock
abbrev pub noted_by : Timed → Fact → Timed
noted_by s f = record { lists = after s.clock s.lists f; clock = s.clock }

-- two nodes get the ends of a session, each with the other's number
pub record PairsNodes (s : Joint) (x : List Fact) (t : Joint) : Type 0 where
  pub a : ℕ
  pub b : ℕ
  pub credits : ℕ
  pub client : Timed
  pub server : Timed
  pub two : a ≢ b
  pub is_client : slice_get s.nodes a ≡ Some client
  pub is_server : slice_get s.nodes b ≡ Some server
  pub few : IsCredits credits
  pub low_client : length client.lists.clients < SESSION_NUMBERS
  pub low_server : server.lists.server_numbers < SESSION_NUMBERS
  pub client_fits : client_refusal credits client.lists ≡ None
  pub server_fits : server_refusal credits server.lists ≡ None
  pub at_client : Fact
  pub at_server : Fact
  pub for_client : at_client ≡ plain client.lists.me
      (PairedClient (length client.lists.clients) b server.lists.server_numbers credits
      server.lists.life)
  pub for_server : at_server ≡ plain server.lists.me
      (PairedServer server.lists.server_numbers a (length client.lists.clients) credits
      client.lists.life)
  pub facts : x ≡ at_client ∷ at_server ∷ []
  pub left : t ≡ record s {
    nodes = slice_set (slice_set s.nodes a (noted_by client at_client)) b
        (noted_by server at_server);
  }

-- a copy is taken out of flight and delivered to its node
pub record CarriesCopy (s : Joint) (x : List Fact) (t : Joint) : Type 0 where
  pub number : ℕ
  pub copy : InFlight
  pub is_copy : slice_get s.flight number ≡ Some copy
  pub before : Timed
  pub now : Timed
  pub is_node : slice_get s.nodes copy.to ≡ Some before
  pub delivered : List Fact
  pub delivers : Delivers copy.from copy.bytes before delivered now
  pub facts : x ≡ of_net (Carried number) ∷ delivered
  pub left : t ≡ record {
    nodes = slice_set s.nodes copy.to now;
    flight = remove s.flight number;
  }

-- what the network does to the copies beside that: one is lost, or repeated; the world's clock and
-- a number that no copy has change nothing
abbrev pub NetMay : Event → List InFlight → Type 0
NetMay (Lost i) flight = i < length flight
NetMay (Repeated i) flight = i < length flight
NetMay (Missed i) flight = Unit {0}
NetMay (Ticked by) flight = Unit {0}
NetMay _ flight = ⊥

pub record NetActs (s : Joint) (x : List Fact) (t : Joint) : Type 0 where
  pub event : Event
  pub may : NetMay event s.flight
  pub facts : x ≡ of_net event ∷ []
  pub left : t ≡ record s { flight = flight_after_net event s.flight }

pub data JointStep (parties : ℕ → Party) (s : Joint) (x : List Fact) (t : Joint) : Type 0 where
  makes : MakesNode parties s x t → JointStep parties s x t
  acts : Acts parties s x t → JointStep parties s x t
  pairs : PairsNodes s x t → JointStep parties s x t
  carries : CarriesCopy s x t → JointStep parties s x t
  of_network : NetActs s x t → JointStep parties s x t

-- one step after another, from no node
pub data JointSteps (parties : ℕ → Party) : List Fact → Joint → Type 0 where
  none : JointSteps parties [] nobody
  more : {x : List Fact} {t : Joint} → JointSteps parties x t → (y : List Fact) → (u : Joint)
      → JointStep parties t y u → JointSteps parties (x ++ y) u

-- the facts of node n, in their order
abbrev pub at_node : ℕ → List Fact → List Fact
at_node n h = filter (λ f. is_at n f.who) h

-- h is what such nodes and the network note together, and t what they are then: no node works a job
-- twice, and each Ran has its node's service's answer after what ran in the event loop before it
pub record JointRun (parties : ℕ → Party) (h : List Fact) (t : Joint) : Type 0 where
  pub steps : JointSteps parties h t
  pub worked_once : (n session request : ℕ)
      → count_by (λ f. works_request session request f.event) (at_node n h) ≤ 1
  pub answers : (n : ℕ) → Answers (parties n).serving [] (at_node n h)

-- a node of a script: the plain service, with a usual timeout and number of jobs
abbrev pub usual_party : Party
usual_party = record { jobs = usual_jobs; timeout = usual_timeout; serving = plain_serving }

-- the plain service runs at each node, with whatever limits
abbrev pub ArePlain : (ℕ → Party) → Type 0
ArePlain parties = (n : ℕ) → (parties n).serving ≡ plain_serving

-- the service of each node
abbrev pub services : (ℕ → Party) → ℕ → Serving
services parties n = (parties n).serving

-- so each joint run has it, whatever the services
abbrev pub OfEveryJointRun : (List Fact → Joint → Type 0) → Type 0
OfEveryJointRun P =
    (parties : ℕ → Party) (h : List Fact) (t : Joint) → JointRun parties h t → P h t

-- each run of a handler is for a call, with the answer of its node's service, and each call ends
-- with its own run's answer
abbrev pub JointAnswersOwn : Type 0
JointAnswersOwn =
    (parties : ℕ → Party) (h : List Fact) (t : Joint) → JointRun parties h t
    → OwnBy (services parties) h

-- so it is of nodes with the plain service
abbrev pub PlainAnswersOwn : Type 0
PlainAnswersOwn =
    (parties : ℕ → Party) (h : List Fact) (t : Joint) → ArePlain parties → JointRun parties h t
    → Own h

-- what a joint run leaves, as a moment: nothing is in hand between two groups, and the clock is
-- nobody's
abbrev pub moment_left : List Fact → Joint → Moment
moment_left h t = record {
  clock = 0;
  nodes = map (λ s. s.lists) t.nodes;
  flight = t.flight;
  hand = None;
  past = lived_first [] h;
}

-- a claim of a moment with those nodes, copies and facts, whatever is in hand
pub record LeavesAs (P : Moment → Type 0) (h : List Fact) (t : Joint) : Type 0 where
  pub moment : Moment
  pub nodes : moment.nodes ≡ map (λ s. s.lists) t.nodes
  pub flight : moment.flight ≡ t.flight
  pub past : moment.past ≡ lived_first [] h
  pub holds : P moment
