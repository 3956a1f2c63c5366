-- A pairing at two endpoints: each makes its end of a session with the other's number and life.
use Rattle.std.specs.Prelude.{ℕ, ◌≡◌, ◌≢◌, None, List, ◌++◌, length}
use Rattle.rpc_base.specs.declared.fact.Fact.{Fact}
use Rattle.rpc_outside.specs.Recording.{Log}
use Rattle.rpc_outside.specs.declared.service.Service as Service
use Rattle.rpc_laws.specs.Groups.{client_refusal, server_refusal}
use Rattle.rpc_laws.specs.Service.{rules_of}
use Rattle.node_laws.specs.NodeRun.{IsCredits}
use Rattle.end_laws.specs.JointRun.{Party, Joint}
use Rattle.end_laws.specs.WireRun.{WireRun}
use Rattle.endpoint_loop.specs.Endpoints.{Leaves}
use Rattle.node_steps.specs.Pairs.{PairsClient, PairsServer}
use Rattle.node_steps.specs.Notes.{Makes}
use Rattle.endpoint_loop.specs.Endpoints.{Running}
use Rattle.turn_laws.specs.Endpoints.{IsEndpoint, Stays}
use Rattle.worker_crew.specs.declared.workers.Workers as Workers

-- an endpoint made the client end of a session with the server session of this number that a peer
-- has in this life, which nothing refused
pub record MakesClientEnd {R V W : Type 0} (log : R → Log) (peer server credits life : ℕ)
    (old new : Running V W) (before now : R) : Type 0 where
  pub accepted : client_refusal credits old.timed.lists ≡ None
  pub makes : Makes log (PairsClient peer server credits life) old.timed new.timed before now
  pub leaves : Leaves old new

-- and one made the server end, of a session with the client session of this number that a peer has
-- in this life
pub record MakesServerEnd {R V W : Type 0} (log : R → Log) (peer client credits life : ℕ)
    (old new : Running V W) (before now : R) : Type 0 where
  pub accepted : server_refusal credits old.timed.lists ≡ None
  pub makes : Makes log (PairsServer peer client credits life) old.timed new.timed before now
  pub leaves : Leaves old new

-- with the facts of both a wire run goes on: its nodes a and b are these endpoints then, and the
-- others and the wire stay
pub record PairGoesOnWire {V W X Y : Type 0} (service : Service.Ghosts V)
    (workers : Workers.Ghosts W) (other_service : Service.Ghosts X)
    (other_workers : Workers.Ghosts Y) (parties : ℕ → Party) (a b : ℕ) (g : List Fact) (s : Joint)
    (x y : List Fact) (new_client : Running V W) (new_server : Running X Y) : Type 0 where
  pub end : Joint
  pub run : WireRun parties ((g ++ x) ++ y) end
  pub is_client : IsEndpoint service workers a ((g ++ x) ++ y) end new_client
  pub is_server : IsEndpoint other_service other_workers b ((g ++ x) ++ y) end new_server
  pub others : (m : ℕ) → m ≢ a → m ≢ b → Stays m g ((g ++ x) ++ y) s end
  pub wire : end.flight ≡ s.flight

-- so it is, where the two endpoints each make an end with the other's next number and life
abbrev pub PairsGoOnWires : {R V W P X Y : Type 0} → (R → Log) → Service.Ghosts V
    → Workers.Ghosts W → (P → Log) → Service.Ghosts X → Workers.Ghosts Y → Type 0
PairsGoOnWires {R} {V} {W} {P} {X} {Y} log service workers other_log other_service other_workers =
    (parties : ℕ → Party) (a b credits : ℕ) (g : List Fact) (s : Joint)
    (client new_client : Running V W) (server new_server : Running X Y) (before now : R)
    (from to : P) → a ≢ b → IsCredits credits
    → (parties a).serving ≡ rules_of service → (parties b).serving ≡ rules_of other_service
    → WireRun parties g s → IsEndpoint service workers a g s client
    → IsEndpoint other_service other_workers b g s server
    → (c : MakesClientEnd log b server.timed.lists.server_numbers credits server.timed.lists.life
    client new_client before now)
    → (v : MakesServerEnd other_log a (length client.timed.lists.clients) credits
    client.timed.lists.life server new_server from to)
    → PairGoesOnWire service workers other_service other_workers parties a b g s c.makes.noted
    v.makes.noted new_client new_server
