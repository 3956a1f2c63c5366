-- A pool as its callers see it, what its places tell, and the words for what is done to one of
-- them.
use Rattle.std.specs.Prelude.{◌≡◌, ℕ, ◌+◌, ◌-◌, true, List, Option, Some, None, length, map}
use Rattle.std.specs.Prelude.{replicate, position, count_by, is_some, slice_index_or, slice_set}
use Rattle.message_buffer.specs.Buffer.{Buffer}
use Rattle.buffer_pool.specs.declared.usage.Use.{Use}
use Rattle.buffer_pool.specs.declared.usage.Use.TheVariants.{Empty, Full, Lent}
use Rattle.buffer_pool.specs.Uses.{is_empty, is_full, refs_in}

pub record Pool : Type 0 where
  -- what each place is used for
  pub uses : List Use
  -- the buffer of each full place
  pub bufs : List (Option Buffer)

-- what a place is used for. Past the last place nothing is
abbrev pub use_at : Pool → ℕ → Use
use_at s p = slice_index_or s.uses p Empty

abbrev pub buf_at : Pool → ℕ → Option Buffer
buf_at s p = slice_index_or s.bufs p None

abbrev pub refs_of : Pool → ℕ → ℕ
refs_of s p = refs_in (use_at s p)

abbrev pub IsFull : Pool → ℕ → Type 0
IsFull s p = is_full (use_at s p) ≡ true

abbrev pub IsLent : Pool → ℕ → Type 0
IsLent s p = use_at s p ≡ Lent

-- how many places are empty, and the lowest of them
abbrev pub spare_of : Pool → ℕ
spare_of s = count_by is_empty s.uses

abbrev pub lowest_empty : Pool → Option ℕ
lowest_empty s = position is_empty s.uses

-- so many places, all empty
abbrev pub all_empty : ℕ → Pool
all_empty n = record { uses = replicate n Empty; bufs = replicate n None }

-- one reference more, or one less, to the buffer of a place
abbrev pub held : ℕ → Pool → Pool
held p s = record { uses = slice_set s.uses p (Full (refs_of s p + 1)); bufs = s.bufs }

abbrev pub released : ℕ → Pool → Pool
released p s = record { uses = slice_set s.uses p (Full (refs_of s p - 1)); bufs = s.bufs }

-- the place has this buffer, and no reference to it yet
abbrev pub filled : ℕ → Buffer → Pool → Pool
filled p buf s = record { uses = slice_set s.uses p (Full 0); bufs = slice_set s.bufs p (Some buf) }

-- the place has no buffer any more
abbrev pub emptied : ℕ → Pool → Pool
emptied p s = record { uses = slice_set s.uses p Empty; bufs = slice_set s.bufs p None }

abbrev pub lent : ℕ → Pool → Pool
lent p s = record { uses = slice_set s.uses p Lent; bufs = slice_set s.bufs p None }

-- the buffer of the place is another
abbrev pub changed : ℕ → Buffer → Pool → Pool
changed p buf s = record { uses = s.uses; bufs = slice_set s.bufs p (Some buf) }

-- a buffer is at each full place, and nowhere else
pub record HoldsFull (uses : List Use) (bufs : List (Option Buffer)) : Type 0 where
  pub agree : map is_full uses ≡ map is_some bufs
  pub few : length uses ≡ length bufs
