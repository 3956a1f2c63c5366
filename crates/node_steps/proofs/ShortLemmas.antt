-- Short requests in the ring, which need no memory.
use Rattle.std.proofs.Common.{◌≡◌, ◌++◌, ℕ, true, false, List, [], ◌∷◌, Some, refl, sym, ap, ◌∙◌}
use Rattle.std.specs.List.{AllByRecursion}
use Rattle.packet_header.specs.declared.packet.MessageHeader.{MessageHeader}
use Rattle.rpc_base.specs.declared.fact.Fact.{Fact}
use Rattle.rpc_laws.specs.declared.tables.Arrival.{Arrival}
use Rattle.rpc_laws.specs.declared.tables.Lists.{Lists}
use Rattle.rpc_laws.specs.declared.tables.Timed.{Timed}
use Rattle.rpc_laws.specs.Front.{front_header}
use Rattle.rpc_laws.specs.NodeLists.{after, after_all}
use Rattle.rpc_laws.specs.Queues.{ring_after}
use Rattle.rpc_laws.specs.Service.{Serving}
use Rattle.rpc_laws.specs.Steps.{Goes}
use Rattle.node_steps.specs.Lacks.{is_lack}
use Rattle.node_steps.specs.Requests.{IsNoWant, SparesShort, ring_left}
use Rattle.node_steps.proofs.NoteStill.{AllStill}

-- the header of the packet in front
pub one-header : (ring : List Arrival) (h k : MessageHeader) → front_header ring ≡ Some h
    → front_header ring ≡ Some k → h ≡ k
one-header ring h k e g = cc

-- facts that want no memory spare every packet
pub spares-calm : (v : Serving) (ring : List Arrival) (x : List Fact) → AllByRecursion IsNoWant x
    → SparesShort v ring x
spares-calm v ring [] calm = tt
spares-calm v ring (f ∷ x) calm =
    ((λ short. calm.0), spares-calm v (ring_after f.event f.first ring) x calm.1)

-- and so do those of which none tells of a want of memory
pub calm-still : (x : List Fact) → AllStill is_lack x → AllByRecursion IsNoWant x
calm-still [] all = tt
calm-still (f ∷ x) all = (
  (λ e. let no : true ≡ false = sym (ap is_lack e) ∙ all.0 in cc),
  calm-still x all.1,
)

-- facts, and those that follow them
pub spares-append : (v : Serving) (ring : List Arrival) (x y : List Fact) → SparesShort v ring x
    → SparesShort v (ring_left ring x) y → SparesShort v ring (x ++ y)
spares-append v ring [] y first second = second
spares-append v ring (f ∷ x) y first second =
    (first.0, spares-append v (ring_after f.event f.first ring) x y first.1 second)

pub left-append : (ring : List Arrival) (x y : List Fact)
    → ring_left ring (x ++ y) ≡ ring_left (ring_left ring x) y
left-append ring [] y = refl
left-append ring (f ∷ x) y = left-append (ring_after f.event f.first ring) x y

-- the ring of a node is what its facts leave
pub left-after_all : (clock : ℕ) (s : Lists) (x : List Fact)
    → (after_all clock s x).ring ≡ ring_left s.ring x
left-after_all clock s [] = refl
left-after_all clock s (f ∷ x) = left-after_all clock (after clock s f) x

pub left-goes : (s t : Timed) (x : List Fact) → Goes s x t
    → t.lists.ring ≡ ring_left s.lists.ring x
left-goes s t x goes =
    ap (λ (z : Timed). z.lists.ring) goes ∙ left-after_all s.clock s.lists x
