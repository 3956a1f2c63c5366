-- A delivery: Bad exactly where the datagram spells no packet, otherwise Overflowed exactly where
-- the ring (or for a control packet the inbox) is full, otherwise Arrived.
use Rattle.std.specs.Prelude.{ℕ, ◌≡◌, nat_lt, List, [], ◌∷◌, length, if◌then◌else◌}
use Rattle.rpc_base.specs.declared.event.Event.{Event}
use Rattle.rpc_base.specs.declared.event.Event.TheVariants.{Arrived, Overflowed, Bad}
use Rattle.rpc_base.specs.declared.fact.Fact.{Fact}
use Rattle.rpc_laws.specs.declared.tables.Lists.{Lists}
use Rattle.rpc_laws.specs.declared.tables.Timed.{Timed}
use Rattle.rpc_laws.specs.Facts.{with_bytes}
use Rattle.rpc_laws.specs.Front.{is_message, is_control}
use Rattle.rpc_laws.specs.Steps.{Goes}

-- so many control packets fit an inbox
abbrev pub inbox_room : ℕ
inbox_room = 64

-- what becomes of a datagram where so many stand, of at most so many
abbrev pub arrival : (length room peer : ℕ) → Event
arrival n room peer = if nat_lt n room then Arrived peer else Overflowed peer

abbrev pub delivery : Lists → ℕ → List ℕ → Event
delivery s peer bytes =
    if is_message bytes then arrival (length s.ring) s.room peer
    else (if is_control bytes then arrival (length s.inbox) inbox_room peer
    else Bad peer)

abbrev pub delivery_facts : Lists → ℕ → List ℕ → List Fact
delivery_facts s peer bytes = with_bytes s.me (delivery s peer bytes) bytes ∷ []

pub record Delivers (peer : ℕ) (bytes : List ℕ) (s : Timed) (x : List Fact) (t : Timed)
    : Type 0 where
  pub facts : x ≡ delivery_facts s.lists peer bytes
  pub goes : Goes s x t
