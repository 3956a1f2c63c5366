-- The packet in front of the receive ring: what its handling needs, and what it leaves.
use Rattle.std.specs.Prelude.{ℕ, ◌≢◌, [], Some, Option, List, drop, length, ◌<◌, ◌+◌, true, ◌≡◌}
use Rattle.node_steps.specs.Changes.{◌⟶◌, Change}
use Rattle.node_steps.specs.Handed.{GivesBackTo, Holding, timed_of}
use Rattle.client_core.specs.declared.outcome.Done.{Done}
use Rattle.rpc_outside.specs.Recording.{Log}
use Rattle.worker_board.specs.declared.Parcel.{Parcel}
use Rattle.node_steps.specs.Requests.{AllServed, MakesServed, ServesRequest, service_change}
use Rattle.rpc_outside.specs.Served.{StandsForSome}
use Rattle.packet_header.specs.declared.packet.MessageHeader.{MessageHeader}
use Rattle.packet_header.specs.Header.{MessageInRange, MessageLength}
use Rattle.packet_header.specs.Kinds.{is_asking}
use Rattle.rpc_base.specs.declared.limits.TheConstants.{HEAD_BYTES}
use Rattle.rpc_laws.specs.Front.{front_body, front_header}
use Rattle.rpc_laws.specs.Queues.{replies}
use Rattle.rpc_outside.specs.declared.service.Service as Service
use Rattle.worker_crew.specs.declared.workers.Workers as Workers

-- what the handling of packets needs: all requests are of types that are served, and the service
-- stands for some requests
pub record CanServe {V : Type 0} (v : Service.Ghosts V) (service : V) (s : Holding) : Type 0 where
  pub served : AllServed v.mode_of s.lists.servers
  pub founded : StandsForSome (v.stands service)

-- a packet stands in front of the receive ring, which can be served, and a reply finds room
pub record HasFront {V : Type 0} (v : Service.Ghosts V) (service : V) (s : Holding) : Type 0 where
  pub some : s.lists.ring ≢ []
  pub room : replies s.lists.queued < s.lists.room
  pub serving : CanServe v service s

-- the packet there has this header and asks, can be served, and its reply finds room
pub record AsksInFront {V : Type 0} (v : Service.Ghosts V) (h : MessageHeader) (service : V)
    (s : Holding) : Type 0 where
  pub asking : is_asking h.kind ≡ true
  pub in_range : MessageInRange h
  pub long : MessageLength h.kind h.size h.number (HEAD_BYTES + length (front_body s.lists.ring))
  pub front : front_header s.lists.ring ≡ Some h
  pub room : replies s.lists.queued < s.lists.room
  pub serving : CanServe v service s

-- it is handled, and out of the ring
pub record ServesFront {R V : Type 0} (log : R → Log) (v : Service.Ghosts V) (h : MessageHeader)
    (job : Option Parcel) (node : Change Holding) (rec : Change R) (service : Change V)
    (memory : Change ℕ) : Type 0 where
  pub serves : MakesServed log (service_change v service) (ServesRequest v.mode_of h) job
      (timed_of node.old ⟶ timed_of node.new) rec memory
  pub served : AllServed v.mode_of node.new.lists.servers
  pub ring : node.new.lists.ring ≡ drop 1 node.old.lists.ring
  pub clients : node.new.lists.clients ≡ node.old.lists.clients
  pub handed : node.new.handed ≡ node.old.handed

-- what packets leave that are handled, with their jobs given to the workers
pub record LeavesHandled {V W K : Type 0} (v : Service.Ghosts V) (w : Workers.Ghosts W)
    (given : K → List Done → Type 0) (node : Change Holding) (service : Change V) (crew : Change W)
    (k : Change K) : Type 0 where
  pub served : AllServed v.mode_of node.new.lists.servers
  pub founded : StandsForSome (v.stands service.new)
  pub me : node.new.lists.me ≡ node.old.lists.me
  pub worked : w.worked crew.new ≡ w.worked crew.old
  pub looks : w.looks crew.new ≡ w.looks crew.old
  pub team : w.team crew.new ≡ w.team crew.old
  pub handed : GivesBackTo given node.old.handed node.new.handed k.old k.new
