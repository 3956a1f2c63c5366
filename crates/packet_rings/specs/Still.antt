-- What a call makes of a claim on the entries that are neither sent nor flushed, for any list of
-- them.
use Rattle.std.specs.Prelude.{List, ◌++◌, Bool}
use Rattle.rpc_base.specs.Taking.{TakenOut}
use Rattle.packet_rings.specs.Values.{EntryValue}

-- a claim on entries, as that they count the references to each place of a pool
abbrev pub Claim : Type 1
Claim = List EntryValue → Type 0

-- where the first is so of entries, the second is so of them
abbrev pub Still : (before after : Claim) → Type 0
Still before after = (entries : List EntryValue) → before entries → after entries

-- it is so with these behind them
abbrev pub StillWith : List EntryValue → (before after : Claim) → Type 0
StillWith more before after = (entries : List EntryValue) → before entries → after (entries ++ more)

-- it is so of what is left once an entry was taken out
abbrev pub StillWithout : EntryValue → (before after : Claim) → Type 0
StillWithout e before after =
    (passes : EntryValue → Bool) → (old new : List EntryValue) → TakenOut passes e old new →
    before old → after new
