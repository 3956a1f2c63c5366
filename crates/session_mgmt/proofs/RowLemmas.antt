-- The rows of packets that go to one life of a node.
use Rattle.std.proofs.Common.{◌≡◌, ℕ, Bool, true, false, ap, refl}
use Rattle.packet_header.specs.declared.packet.ControlHeader.{ControlHeader}
use Rattle.rpc_laws.specs.declared.rows.ControlRow.{ControlRow}
use Rattle.rpc_laws.specs.declared.tables.Lists.{Lists}
use Rattle.rpc_laws.specs.ControlTable.{control_row_of, is_for, own_row}
use Rattle.session_mgmt.specs.declared.control.Found.{Found}
use Rattle.session_mgmt.specs.Control.{found_in, starved, starved_if}

-- the row of a packet that goes to this life
pub own-is : (peer : ℕ) (h : ControlHeader) (f : Found) → is_for f.life h.to_life ≡ true
    → (s : Lists) → f ≡ found_in peer h s → (row : ControlRow) → own_row row h s ≡ row
own-is peer h f for-us s found row =
    rw (own_row, ← ap (λ (x : Found). x.life) found, for-us) refl

-- a row that memory has no part in
pub kept-if : (row : ControlRow) → starved row ≡ row → (lacks : Bool) → row ≡ starved_if lacks row
kept-if row kept false = refl
kept-if row kept true = rw kept refl
