-- The room that the lists of sessions have.
use Rattle.std.proofs.Common.{◌≡◌, ℕ}
use Rattle.session_store.specs.Sides.{HasSessionRoom}

-- it stays where the ring is as long as before, and each list has as much of it
pub room-stays : {size later sides more servers longer ends last : ℕ} → later ≡ size
    → more ≡ sides → longer ≡ servers → last ≡ ends → HasSessionRoom size sides servers ends
    → HasSessionRoom later more longer last
room-stays e p q r room = rw (e, p, q, r) room
