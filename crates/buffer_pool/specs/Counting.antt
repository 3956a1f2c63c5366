-- The references to the places of a pool, by the entries that name them.
use Rattle.std.specs.Prelude.{◌≡◌, ℕ, List}
use Rattle.buffer_pool.specs.Pool.{Pool, refs_of}
use Rattle.packet_rings.specs.Mentions.{mentions}
use Rattle.packet_rings.specs.Values.{EntryValue}

-- each place has as many references as entries name it
abbrev pub Counts : Pool → List EntryValue → Type 0
Counts pool entries = (p : ℕ) → refs_of pool p ≡ mentions p entries
