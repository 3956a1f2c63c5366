-- Endpoints that join a wire run, and those that stay in it.
use Rattle.std.specs.Prelude.{ℕ, ◌≡◌, ◌<◌, List, [], ◌∷◌, ◌++◌, length}
use Rattle.rpc_base.specs.declared.event.Event.TheVariants.{Made}
use Rattle.rpc_base.specs.declared.fact.Fact.{Fact}
use Rattle.rpc_outside.specs.declared.service.Service as Service
use Rattle.rpc_laws.specs.Facts.{plain}
use Rattle.rpc_laws.specs.Lives.{first_life}
use Rattle.rpc_laws.specs.NodeLists.{new_node}
use Rattle.end_laws.specs.JointRun.{Party, Joint, limits_of}
use Rattle.end_laws.specs.WireRun.{WireRun}
use Rattle.node_steps.specs.Jobs.{staff_of}
use Rattle.endpoint_loop.specs.Endpoints.{IsStaffed, Running}
use Rattle.turn_laws.specs.Endpoints.{IsEndpoint, Stays, seen}
use Rattle.worker_crew.specs.declared.workers.Workers as Workers

-- with the Made of a node a wire run goes on: the endpoint is its next node, and the others and the
-- wire stay
pub record JoinsWire {V W : Type 0} (service : Service.Ghosts V) (workers : Workers.Ghosts W)
    (parties : ℕ → Party) (g : List Fact) (s : Joint) (ring : ℕ) (e : Running V W)
    : Type 0 where
  pub end : Joint
  pub run : WireRun parties (g ++ plain (length s.nodes) (Made ring) ∷ []) end
  pub left : end ≡ record s { nodes = s.nodes ++ seen workers e ∷ [] }
  pub is_endpoint : IsEndpoint service workers (length s.nodes)
      (g ++ plain (length s.nodes) (Made ring) ∷ []) end e
  pub others : (m : ℕ) → m < length s.nodes
      → Stays m g (g ++ plain (length s.nodes) (Made ring) ∷ []) s end

-- so an endpoint joins that was just made, with the next number, the first life and its party's
-- limits
abbrev pub NewEndpointsJoin : {V W : Type 0} → Service.Ghosts V → Workers.Ghosts W → Type 0
NewEndpointsJoin {V} {W} service workers =
    (parties : ℕ → Party) (g : List Fact) (s : Joint) (ring : ℕ) (e : Running V W)
    → WireRun parties g s
    → e.timed ≡ new_node (length s.nodes) first_life (limits_of (parties (length s.nodes)) ring)
    → workers.out e.workers ≡ [] → service.stands e.service []
    → IsStaffed workers.answer (staff_of workers e.workers) e.timed
    → JoinsWire service workers parties g s ring e

-- an endpoint whose node stays is that node still
abbrev pub EndpointsStay : {V W : Type 0} → Service.Ghosts V → Workers.Ghosts W → Type 0
EndpointsStay {V} {W} service workers =
    (m : ℕ) (g h : List Fact) (s t : Joint) (e : Running V W) → Stays m g h s t
    → IsEndpoint service workers m g s e → IsEndpoint service workers m h t e
