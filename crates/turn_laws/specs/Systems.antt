-- Endpoints over wires of which nothing is known but that each datagram that comes was sent before,
-- by the peer that it is said to be from, to this node.
use Rattle.std.specs.Prelude.{ℕ, zero, suc, ◌≡◌, ◌<◌, ◌==◌, Bool, Some, List, [], ◌∷◌, ◌++◌}
use Rattle.std.specs.Prelude.{slice_get}
use Rattle.std.specs.List.{AllByRecursion, filter}
use Rattle.rpc_base.specs.declared.event.Event.TheVariants.{Made}
use Rattle.rpc_base.specs.declared.fact.Fact.{Fact}
use Rattle.rpc_base.specs.declared.limits.Limits.{Limits}
use Rattle.rpc_outside.specs.Linking.{Carried}
use Rattle.rpc_laws.specs.declared.tables.Timed.{Timed}
use Rattle.rpc_laws.specs.AtMostOnce.{Once}
use Rattle.rpc_laws.specs.Facts.{plain}
use Rattle.rpc_laws.specs.Lives.{first_life}
use Rattle.rpc_laws.specs.OwnAnswer.{OwnBy}
use Rattle.rpc_laws.specs.Service.{Serving}
use Rattle.end_laws.specs.JointRun.{Party, Joint, services}
use Rattle.end_laws.specs.WireRun.{WireRun}
use Rattle.node_steps.specs.Notes.{sent_of}
use Rattle.world_laws.specs.CallOrder.{CallsInOrder}
use Rattle.world_laws.specs.OneCall.{OneCall}
use Rattle.turn_laws.specs.Deeds.{Deed, NodeDid, noted_in}

-- how many endpoints there are, and by their numbers, from 0, their limits and their services
pub record System : Type 0 where
  pub size : ℕ
  pub limits : ℕ → Limits
  pub services : ℕ → Serving

-- the deeds of node n, in their order
abbrev pub is_of : ℕ → Deed → Bool
is_of n d = d.node == n

abbrev pub deeds_of : ℕ → List Deed → List Deed
deeds_of n ds = filter (is_of n) ds

-- a datagram that came to node n was sent in an earlier deed, by the peer that it is said to be
-- from, to this node
pub record WasSent (earlier : List Deed) (n : ℕ) (c : Carried) : Type 0 where
  pub place : ℕ
  pub deed : Deed
  pub is_earlier : slice_get earlier place ≡ Some deed
  pub by_peer : deed.node ≡ c.0
  pub number : ℕ
  pub to_node : slice_get (sent_of deed.noted) number ≡ Some (n, c.1)

-- so was each that came, behind these deeds
abbrev pub EachWasSent : (earlier ds : List Deed) → Type 0
EachWasSent earlier [] = Unit {0}
EachWasSent earlier (d ∷ ds) =
    AllByRecursion (WasSent earlier d.node) d.came × EachWasSent (earlier ++ d ∷ []) ds

-- ds is what the endpoints of a system did in their first lives, one deed after another, and `left`
-- what each is then. Each datagram that came was sent before, by the peer that it is said to be
-- from, to this node
pub record SystemDid (system : System) (ds : List Deed) (left : ℕ → Timed) : Type 0 where
  pub numbered : AllByRecursion (λ d. d.node < system.size) ds
  pub own : (n : ℕ) → n < system.size
      → NodeDid (system.services n) n first_life (system.limits n) (deeds_of n ds) (left n)
  pub sent : EachWasSent [] ds

-- its history: each is made, and then there is what was noted in the deeds
abbrev pub made_in : System → ℕ → List Fact
made_in system zero = []
made_in system (suc n) = made_in system n ++ plain n (Made (system.limits n).ring) ∷ []

abbrev pub history_of : System → List Deed → List Fact
history_of system ds = made_in system system.size ++ noted_in ds

abbrev pub parties_of : System → ℕ → Party
parties_of system n = record {
  jobs = (system.limits n).jobs;
  timeout = (system.limits n).timeout;
  serving = system.services n;
}

-- that history is a wire run, which leaves the nodes as the endpoints are
pub record RunsOverWires (system : System) (ds : List Deed) (left : ℕ → Timed) : Type 0 where
  pub end : Joint
  pub run : WireRun (parties_of system) (history_of system ds) end
  pub nodes : (n : ℕ) → n < system.size → slice_get end.nodes n ≡ Some (left n)

abbrev pub SystemsRunOverWires : Type 0
SystemsRunOverWires =
    (system : System) (ds : List Deed) (left : ℕ → Timed) → SystemDid system ds left
    → RunsOverWires system ds left

-- what holds of the calls of a history, where each node has its service: no request runs twice, and
-- no call begins or ends twice; each run is for one call, and each call has one at most; a call
-- that ends with an answer, or for want of room for one, was asked, begun, run and ended in this
-- order; and its answer is that of its peer's service to its own bytes
pub record KeepsCalls (services : ℕ → Serving) (h : List Fact) : Type 0 where
  pub once : Once h
  pub one : OneCall h
  pub order : CallsInOrder h
  pub own : OwnBy services h

abbrev pub WireRunsKeepCalls : Type 0
WireRunsKeepCalls =
    (parties : ℕ → Party) (g : List Fact) (t : Joint) → WireRun parties g t
    → KeepsCalls (services parties) g

abbrev pub SystemsKeepCalls : Type 0
SystemsKeepCalls =
    (system : System) (ds : List Deed) (left : ℕ → Timed) → SystemDid system ds left
    → KeepsCalls system.services (history_of system ds)
