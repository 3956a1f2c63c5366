-- What stands in the receive ring are packets of calls.
use Rattle.std.proofs.Common.{◌≡◌, ℕ, Bool, true, false, cond, List, [], ◌∷◌, ◌++◌, drop, refl}
use Rattle.std.specs.List.{AllByRecursion}
use Rattle.rpc_base.specs.declared.event.Event.{Event}
use Rattle.rpc_base.specs.declared.event.Event.TheVariants.{Arrived, Took, Again, Dropped}
use Rattle.rpc_base.proofs.FirstLemmas.{all-push}
use Rattle.rpc_laws.specs.declared.tables.Arrival.{Arrival}
use Rattle.rpc_laws.specs.Front.{is_message}
use Rattle.rpc_laws.specs.Queues.{ring_after}
use Rattle.node_laws.specs.Kept.{IsPacket}

pushed : (peer : ℕ) (bytes : List ℕ) (ring : List Arrival) (b : Bool) → is_message bytes ≡ b
    → AllByRecursion IsPacket ring
    → AllByRecursion IsPacket (cond b (ring ++ record { peer = peer; bytes = bytes } ∷ []) ring)
pushed peer bytes ring true t all =
    all-push IsPacket ring (record { peer = peer; bytes = bytes }) all t
pushed peer bytes ring false t all = all

left : (ring : List Arrival) → AllByRecursion IsPacket ring → AllByRecursion IsPacket (drop 1 ring)
left [] all = tt
left (a ∷ ring) all = all.1

pub reads-after : (e : Event) (bytes : List ℕ) (ring : List Arrival) → AllByRecursion IsPacket ring
    → AllByRecursion IsPacket (ring_after e bytes ring)
reads-after (Arrived peer) bytes ring all = pushed peer bytes ring (is_message bytes) refl all
reads-after (Took owner k) bytes ring all = left ring all
reads-after (Again owner k) bytes ring all = left ring all
reads-after (Dropped why) bytes ring all = left ring all
reads-after _ bytes ring all = all
