-- The entries of a pacer, and which of them are due.
use Rattle.std.specs.Prelude.{ℕ, suc, ◌≡◌, ◌≤◌, ◌<◌, ◌+◌, ◌%◌, ◌^◌, Option, Some, None, true, false}
use Rattle.std.specs.Prelude.{Bool, ◌&&◌, ◌==◌, nat_le, List, [], ◌∷◌, drop, length, if◌then◌else◌}
use Rattle.std.specs.List.{AllByRecursion}
use Rattle.rpc_base.specs.declared.owner.Owner.{Owner}
use Rattle.rpc_base.specs.Owners.{same_owner}
use Rattle.packet_rings.specs.Values.{EntryValue}
use Rattle.pacing_wheel.specs.declared.pacer.Paced.{Paced}

-- what contracts see of a pacer: its entries by the times when they are due, among equals by their
-- adding, and how many it may hold
pub record Wheel : Type 0 where
  pub items : List Paced
  pub size : ℕ

abbrev pub wheel : List Paced → ℕ → Wheel
wheel items size = record { items = items; size = size }

abbrev pub due_of : Paced → ℕ
due_of p = p.due

abbrev pub entry_of : Paced → EntryValue
entry_of p = p.entry

abbrev pub number_of : Paced → ℕ
number_of p = p.entry.number

-- whether an entry may be sent at this time
abbrev pub is_due : ℕ → Paced → Bool
is_due now p = nat_le p.due now

-- whether an entry is this owner's
abbrev pub is_of : Owner → Paced → Bool
is_of owner p = same_owner p.entry.owner owner

-- and has this number
abbrev pub is_entry_of : Owner → ℕ → Paced → Bool
is_entry_of owner number p = same_owner p.entry.owner owner && p.entry.number == number

-- one entry more, behind those that are due no later
abbrev pub added : ℕ → EntryValue → List Paced → List Paced
added due e [] = record { due = due; entry = e } ∷ []
added due e (p ∷ ps) =
    if nat_le p.due due then p ∷ added due e ps
    else record { due = due; entry = e } ∷ p ∷ ps

-- an entry before those that are due no earlier
abbrev pub put_before : Paced → List Paced → List Paced
put_before o [] = o ∷ []
put_before o (p ∷ ps) = if nat_le o.due p.due then o ∷ p ∷ ps else p ∷ put_before o ps

-- two lists by due times as one: among equals those of the first come first
abbrev pub merged : List Paced → List Paced → List Paced
merged [] ps = ps
merged (o ∷ os) ps = put_before o (merged os ps)

-- none is due before one that stands further in front
abbrev pub InOrder : List Paced → Type 0
InOrder [] = Unit {0}
InOrder (p ∷ ps) = AllByRecursion (λ q. p.due ≤ q.due) ps × InOrder ps

-- whether the first of two that may be there comes first: among equals it does
abbrev pub is_first : Option Paced → Option Paced → Bool
is_first None b = false
is_first (Some o) None = true
is_first (Some o) (Some p) = nat_le o.due p.due

abbrev pub earlier : Option Paced → Option Paced → Option Paced
earlier None b = b
earlier (Some o) None = Some o
earlier (Some o) (Some p) = if nat_le o.due p.due then Some o else Some p

-- what contracts see of the places round a cursor: the entries that wait in them, in order
pub record Dial : Type 0 where
  pub cursor : ℕ
  pub items : List Paced
  pub size : ℕ

abbrev pub dial : ℕ → List Paced → ℕ → Dial
dial cursor items size = record { cursor = cursor; items = items; size = size }

-- a time has a place of its own from the cursor on, for one turn
abbrev pub Covers : (cursor due : ℕ) → Type 0
Covers cursor due = (cursor ≤ due) × (due < cursor + 4096)

-- lists by due times as one
abbrev pub together : List (List Paced) → List Paced
together [] = []
together (l ∷ ls) = merged l (together ls)

-- how many entries the lists from this place on have
abbrev pub behind : ℕ → List (List Paced) → ℕ
behind place lists = length (together (drop place lists))

-- an entry stands in the place of its due time, which is within one turn of the cursor and is a
-- number of 64 bits
abbrev pub StandsAt : (cursor place : ℕ) → Paced → Type 0
StandsAt cursor place p = Covers cursor p.due × (p.due % 4096 ≡ place) × (p.due < 2 ^ 64)

-- so do all entries of the lists of this place and of those behind it
abbrev pub AllStand : (cursor place : ℕ) → List (List Paced) → Type 0
AllStand cursor place [] = Unit {0}
AllStand cursor place (l ∷ ls) =
    AllByRecursion (StandsAt cursor place) l × AllStand cursor (suc place) ls
