-- What stands in front of an inbox, and what comes in at its back.
use Rattle.std.proofs.Common.{◌≡◌, true, Some, None, List, [], ◌∷◌, ◌++◌, refl, sym, ap, ◌∙◌}
use Rattle.std.specs.Prelude.{map, slice_get}
use Rattle.std.specs.List.{AllByRecursion}
use Rattle.packet_rings.specs.Values.{DatagramValue}
use Rattle.rpc_laws.specs.declared.tables.Arrival.{Arrival}
use Rattle.rpc_laws.specs.Front.{is_control}
use Rattle.node_steps.specs.Inboxes.{IsControl}
use Rattle.node_steps.specs.Seen.{arrival_of}

pub arrived-front : (ds : List DatagramValue) (d : DatagramValue) → Some d ≡ slice_get ds 0
    → slice_get (map arrival_of ds) 0 ≡ Some (arrival_of d)
arrived-front [] d e = cc
arrived-front (x ∷ ds) d e = let same : d ≡ x = cc in ap (λ y. Some (arrival_of y)) (sym same)

pub control-front : (ds : List DatagramValue) (d : DatagramValue) → Some d ≡ slice_get ds 0
    → AllByRecursion IsControl (map arrival_of ds) → is_control d.bytes ≡ true
control-front [] d e all = cc
control-front (x ∷ ds) d e all =
    let same : d ≡ x = cc in ap (λ (y : DatagramValue). is_control y.bytes) same ∙ all.0

pub none-front : (ds : List DatagramValue) → None ≡ slice_get ds 0 → map arrival_of ds ≡ []
none-front [] e = refl
none-front (x ∷ ds) e = cc

pub some-front : (ds : List DatagramValue) (d : DatagramValue) → Some d ≡ slice_get ds 0
    → map arrival_of ds ≡ [] → ⊥
some-front [] d e h = cc
some-front (x ∷ ds) d e h = cc

-- one more datagram stands at the back of an inbox or a ring
pub all-arrived : (P : Arrival → Type 0) (ds : List DatagramValue) (d : DatagramValue)
    → AllByRecursion P (map arrival_of ds) → P (arrival_of d)
    → AllByRecursion P (map arrival_of (ds ++ d ∷ []))
all-arrived P [] d all h = (h, tt)
all-arrived P (x ∷ ds) d all h = (all.0, all-arrived P ds d all.1 h)
