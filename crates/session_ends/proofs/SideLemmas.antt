-- A client session in its list changed.
use Rattle.std.proofs.Common.{◌≡◌, ℕ, Some, List, refl}
use Rattle.std.specs.Prelude.{OnOk, Result, Ok, Err, slice_get, slice_set}
use Rattle.session_slots.specs.declared.waiting.Waiting.{Waiting}
use Rattle.client_core.specs.Session.{Session}
use Rattle.session_ends.specs.declared.side.Side.{Side}
use Rattle.client_core.specs.Effects.{Waits}
use Rattle.session_ends.specs.Effects.{SideWaits}

pub side-waits : {E : Type 0} (i : ℕ) (w : Waiting) (sides : List Side) (side : Side)
    (later : Session) → slice_get sides i ≡ Some side → (r : Result (Unit {0}) E)
    → OnOk r (Waits w side.session later)
    → OnOk r (SideWaits i w sides (slice_set sides i (record side { session = later })))
side-waits i w sides side later at (Ok u) waits =
    record { side = side; at = at; later = later; step = waits; changed = refl }
side-waits i w sides side later at (Err e) waits = tt
