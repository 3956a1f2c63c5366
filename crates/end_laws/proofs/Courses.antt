-- Histories as the rules make them, from moment to moment.
use Rattle.rpc_base.specs.declared.limits.Limits.{Limits}
use Rattle.std.proofs.Common.{◌≡◌, ℕ, Bool, true, false, List, [], ◌∷◌, ◌++◌, length, Option, Some}
use Rattle.std.proofs.Common.{None, slice_get, refl, ap, ◌∙◌, ◌≤◌, ◌+◌}
use Rattle.std.specs.List.{slice_set}
use Rattle.rpc_base.specs.declared.event.Event.{Event}
use Rattle.rpc_base.specs.declared.event.Event.TheVariants.{Made, PairedClient, PairedServer}
use Rattle.rpc_base.specs.declared.event.Event.TheVariants.{Restarted}
use Rattle.rpc_base.specs.declared.fact.Fact.{Fact}
use Rattle.rpc_base.specs.declared.fact.Who.{Who}
use Rattle.rpc_base.specs.declared.fact.Who.TheVariants.{Node, Net}
use Rattle.rpc_laws.specs.declared.tables.InFlight.{InFlight}
use Rattle.rpc_laws.specs.declared.tables.Lists.{Lists}
use Rattle.rpc_laws.specs.BufferSafety.{changed, node_after, nodes_at, clock_after}
use Rattle.rpc_laws.specs.Endpoints.{Lived, life_by, told}
use Rattle.rpc_laws.specs.Facts.{plain}
use Rattle.rpc_laws.specs.Groups.{shares}
use Rattle.rpc_laws.specs.InFlight.{flight_after}
use Rattle.rpc_laws.specs.Lives.{first_life}
use Rattle.rpc_laws.specs.NodeLists.{after, new_lists}
use Rattle.node_laws.proofs.Allowed.{Allowed as Lawful}
use Rattle.end_laws.specs.Moments.{Moment, moved, hand_after, hand_noted, inbox_of}
use Rattle.end_laws.proofs.Allowed.{May, IsAllowed, Linked}

-- the latest of the facts so far
abbrev pub latest : List Lived → Option Fact
latest [] = None
latest (f ∷ past) = Some f.fact

-- a fact that node n may note
pub record AtNode (w : Moment) (n : ℕ) (l : Lists) (f : Fact) : Type 0 where
  pub is_node : slice_get w.nodes n ≡ Some l
  pub me : l.me ≡ n
  pub life : l.life ≡ life_by n w.past
  pub allowed : IsAllowed w.hand l f
  pub lawful : Lawful l f.event
  pub linked : Linked (latest w.past) l f.event f.first

-- two nodes that get the ends of a session
pub record Ends (w : Moment) (n m credits : ℕ) (client server : Lists) : Type 0 where
  pub is_client : slice_get w.nodes n ≡ Some client
  pub is_server : slice_get w.nodes m ≡ Some server
  pub two : n ≡ m → ⊥
  pub client_life : client.life ≡ life_by n w.past
  pub server_life : server.life ≡ life_by m w.past
  pub fits_client : shares client + credits ≤ client.room
  pub fits_server : shares server + credits ≤ server.room

abbrev pub client_fact : ℕ → ℕ → ℕ → Lists → Lists → Fact
client_fact n m credits client server =
    plain n (PairedClient (length client.clients) m server.server_numbers credits server.life)

abbrev pub server_fact : ℕ → ℕ → ℕ → Lists → Lists → Fact
server_fact n m credits client server =
    plain m (PairedServer server.server_numbers n (length client.clients) credits client.life)

abbrev pub paired : Moment → ℕ → ℕ → ℕ → Lists → Lists → Moment
paired w n m credits client server =
    moved (moved w (client_fact n m credits client server)) (server_fact n m credits client server)

-- the same moment, with this clock
abbrev pub clocked : Moment → ℕ → Moment
clocked w clock = record w { clock = clock }

-- the moment after a node is made with these limits
abbrev pub made_at : Moment → Limits → Moment
made_at w limits = record {
  clock = w.clock;
  nodes = w.nodes ++ new_lists (length w.nodes) first_life limits ∷ [];
  flight = w.flight;
  hand = w.hand;
  past = told w.past (plain (length w.nodes) (Made limits.ring)) ∷ w.past;
}

-- from a moment by these facts to a moment. Where it is free, the next fact may happen at any clock,
-- since each node has one of its own, and a node may be made with any limits
pub data Course (free : Bool) : Moment → List Fact → Moment → Type 0 where
  over : (w : Moment) → Course free w [] w
  in_net : (w : Moment) (f : Fact) (h : List Fact) (u : Moment) → f.who ≡ Net
      → Course free (moved w f) h u → Course free w (f ∷ h) u
  made : (w : Moment) (ring : ℕ) (h : List Fact) (u : Moment)
      → Course free (moved w (plain (length w.nodes) (Made ring))) h u
      → Course free w (plain (length w.nodes) (Made ring) ∷ h) u
  at_node : (w : Moment) (n : ℕ) (l : Lists) (f : Fact) (h : List Fact) (u : Moment)
      → AtNode w n l f → Course free (moved w f) h u → Course free w (f ∷ h) u
  restarts : (w : Moment) (n : ℕ) (l : Lists) (h : List Fact) (u : Moment)
      → slice_get w.nodes n ≡ Some l → l.me ≡ n → l.life ≡ life_by n w.past
      → Course free (moved w (plain n (Restarted (l.life + 1)))) h u
      → Course free w (plain n (Restarted (l.life + 1)) ∷ h) u
  pairs : (w : Moment) (n m credits : ℕ) (client server : Lists) (h : List Fact) (u : Moment)
      → Ends w n m credits client server → Course free (paired w n m credits client server) h u
      → Course free w (client_fact n m credits client server ∷ server_fact n m credits client server ∷ h)
      u
  made_as : (w : Moment) (limits : Limits) (h : List Fact) (u : Moment) → free ≡ true
      → Course free (made_at w limits) h u → Course free w (plain (length w.nodes) (Made limits.ring) ∷ h) u
  resets : (w : Moment) (clock : ℕ) (h : List Fact) (u : Moment) → free ≡ true
      → Course free (clocked w clock) h u → Course free w h u

pub course-append : {free : Bool} (w : Moment) (x : List Fact) (u : Moment) (y : List Fact) (v : Moment)
    → Course free w x u → Course free u y v → Course free w (x ++ y) v
course-append _ _ _ y v (over w) k = k
course-append _ _ _ y v (in_net w f h u who c) k = in_net w f (h ++ y) v who (course-append (moved w f) h u y v c k)
course-append _ _ _ y v (made w ring h u c) k = made w ring (h ++ y) v (course-append _ h u y v c k)
course-append _ _ _ y v (at_node w n l f h u a c) k =
    at_node w n l f (h ++ y) v a (course-append (moved w f) h u y v c k)
course-append _ _ _ y v (restarts w n l h u is me life c) k =
    restarts w n l (h ++ y) v is me life (course-append _ h u y v c k)
course-append _ _ _ y v (pairs w n m credits client server h u a c) k =
    pairs w n m credits client server (h ++ y) v a (course-append _ h u y v c k)
course-append _ _ _ y v (made_as w limits h u is c) k =
    made_as w limits (h ++ y) v is (course-append (made_at w limits) h u y v c k)
course-append _ _ _ y v (resets w clock h u is c) k =
    resets w clock (h ++ y) v is (course-append (clocked w clock) h u y v c k)

-- no node notes that it was made or restarted
abbrev pub is_made : Event → Bool
is_made (Made ring) = true
is_made (Restarted life) = true
is_made _ = false

pub may-unmade : (hand : Option InFlight) (l : Lists) (e : Event) (first second : List ℕ)
    → May hand l e first second → is_made e ≡ false
may-unmade hand l (Made ring) first second m = absurd m
may-unmade hand l (Restarted life) first second m = absurd m
may-unmade hand l _ first second m = refl

node-unmade : (clock n : ℕ) (e : Event) (nodes : List Lists) (f : Fact) → is_made e ≡ false
    → node_after clock n e nodes f ≡ changed clock (slice_get nodes n) n nodes f
node-unmade clock n (Made ring) nodes f h = absurd (cc)
node-unmade clock n (Restarted life) nodes f h = absurd (cc)
node-unmade clock n _ nodes f h = refl

-- the moment after a fact of a node
abbrev pub noted_at : Moment → ℕ → Lists → Fact → Moment
noted_at w n l f = record {
  clock = w.clock;
  nodes = slice_set w.nodes n (after w.clock l f);
  flight = flight_after w.flight f;
  hand = hand_noted n f.event l.inbox w.hand;
  past = told w.past f ∷ w.past;
}

moved-by : (w : Moment) (f : Fact) (n : ℕ) (l : Lists) (nodes : List Lists) → f.who ≡ Node n
    → nodes_at w.clock (Node n) w.nodes f ≡ nodes → slice_get w.nodes n ≡ Some l
    → moved w f ≡ record {
      clock = w.clock;
      nodes = nodes;
      flight = flight_after w.flight f;
      hand = hand_noted n f.event l.inbox w.hand;
      past = told w.past f ∷ w.past;
    }
moved-by w f n l nodes who e is =
    let at : moved w f ≡ record {
      clock = clock_after (Node n) f.event w.clock;
      nodes = nodes_at w.clock (Node n) w.nodes f;
      flight = flight_after w.flight f;
      hand =
          hand_after (Node n) f.event w.nodes w.flight w.hand;
      past = told w.past f ∷ w.past;
    } = ap
    (λ (who : Who). record {
      clock = clock_after who f.event w.clock;
      nodes = nodes_at w.clock who w.nodes f;
      flight = flight_after w.flight f;
      hand =
          hand_after who f.event w.nodes w.flight w.hand;
      past = told w.past f ∷ w.past;
    }) who in
    at ∙ (ap (λ (ns : List Lists). record {
      clock = w.clock;
      nodes = ns;
      flight = flight_after w.flight f;
      hand = hand_noted n f.event (inbox_of (slice_get w.nodes n)) w.hand;
      past = told w.past f ∷ w.past;
    }) e ∙ ap (λ (o : Option Lists). record {
      clock = w.clock;
      nodes = nodes;
      flight = flight_after w.flight f;
      hand = hand_noted n f.event (inbox_of o) w.hand;
      past = told w.past f ∷ w.past;
    }) is)

pub moved-node : (w : Moment) (n : ℕ) (l : Lists) (f : Fact) → AtNode w n l f → moved w f ≡ noted_at w n l f
moved-node w n l f a =
    let unmade = may-unmade w.hand l f.event f.first f.second a.allowed.may in
    let who : f.who ≡ Node n = a.allowed.who ∙ ap Node a.me in
    moved-by w f n l _ who (node-unmade w.clock n f.event w.nodes f unmade
    ∙ ap (λ (s : Option Lists). changed w.clock s n w.nodes f) a.is_node) a.is_node
