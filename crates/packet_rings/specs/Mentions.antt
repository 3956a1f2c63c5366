-- How many entries name a place of the pool. Only a packet with a body names one.
use Rattle.std.specs.Prelude.{ℕ, Bool, false, ◌==◌, Option, Some, None, List, count_by}
use Rattle.packet_rings.specs.Values.{EntryValue}

abbrev pub is_place : ℕ → Option ℕ → Bool
is_place place None = false
is_place place (Some p) = p == place

abbrev pub mentions : ℕ → List EntryValue → ℕ
mentions place entries = count_by (λ e. is_place place e.place) entries
