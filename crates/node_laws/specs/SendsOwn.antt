-- What one node sends is what its own tables have: each packet goes to the peer of its session, and
-- its head and body spell the packet that its owner has.
use Rattle.std.specs.Prelude.{ℕ, ◌≡◌, List, [], ◌∷◌}
use Rattle.rpc_base.specs.declared.fact.Fact.{Fact}
use Rattle.rpc_base.specs.declared.limits.Limits.{Limits}
use Rattle.rpc_laws.specs.declared.tables.Lists.{Lists}
use Rattle.rpc_laws.specs.BufferSafety.{SentRight}
use Rattle.rpc_laws.specs.NodeLists.{after, new_lists}

-- from these lists on, at whatever clocks the facts happen: no packet tells of a clock
abbrev pub SendsFrom : Lists → List Fact → Type 0
SendsFrom s [] = Unit {0}
SendsFrom s (f ∷ g) =
    SentRight (s ∷ []) 0 f.event f.first f.second × ((clock : ℕ) → SendsFrom (after clock s f) g)

-- of the facts of one life of a node, from its beginning with a ring of so many places: no packet
-- tells of the node's number or of another limit
abbrev pub SendsOwn : (life ring : ℕ) → List Fact → Type 0
SendsOwn life ring facts =
    (me : ℕ) (limits : Limits) → limits.ring ≡ ring
    → SendsFrom (new_lists me life limits) facts
