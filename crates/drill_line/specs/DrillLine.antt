-- The line that a drill writes: counts of the facts of its history.
use Rattle.std.specs.Prelude.{ℕ, Bool, true, false, List, ◌++◌, codes, length, count_by}
use Rattle.std.specs.Fmt.{decimal}
use Rattle.drill_line.specs.declared.line.Counts.{Counts}
use Rattle.drill_line.specs.declared.line.Kind.{Kind}
use Rattle.drill_line.specs.declared.line.Kind.TheVariants as kind
use Rattle.rpc_base.specs.declared.event.Event.{Event}
use Rattle.rpc_base.specs.declared.event.Event.TheVariants.{Overflowed, Dropped, Ran, Rolled}
use Rattle.rpc_base.specs.declared.event.Event.TheVariants.{DoneOk}
use Rattle.rpc_base.specs.declared.fact.Fact.{Fact}

-- a fact of a kind: a handler ran, a call ended well, a call was rolled back, a packet was dropped,
-- or a datagram found no room
unfoldable pub is_of : Kind → Event → Bool
is_of kind.Ran (Ran session request req_type) = true
is_of kind.Ok (DoneOk call) = true
is_of kind.Rolled (Rolled call posted got) = true
is_of kind.Dropped (Dropped reason) = true
is_of kind.Overflowed (Overflowed peer) = true
is_of _ _ = false

-- how many facts are of a kind
abbrev pub count_of : Kind → List Fact → ℕ
count_of kind history = count_by (λ fact. is_of kind fact.event) history

-- what a drill counts in its history: runs, calls that ended well, all facts, rollbacks, drops and
-- overflows
abbrev pub counts_of : List Fact → Counts
counts_of history = record {
  ran = count_of kind.Ran history;
  ok = count_of kind.Ok history;
  facts = length history;
  rolled = count_of kind.Rolled history;
  dropped = count_of kind.Dropped history;
  overflowed = count_of kind.Overflowed history;
}

-- `drill seed G calls N ran R ok K facts F rolled L dropped D overflowed O`
unfoldable pub line_of : (seed calls : ℕ) → Counts → List ℕ
line_of seed calls counts =
    codes "drill seed " ++ decimal seed ++ codes " calls " ++ decimal calls
    ++ codes " ran " ++ decimal counts.ran ++ codes " ok " ++ decimal counts.ok
    ++ codes " facts " ++ decimal counts.facts ++ codes " rolled " ++ decimal counts.rolled
    ++ codes " dropped " ++ decimal counts.dropped
    ++ codes " overflowed " ++ decimal counts.overflowed ++ codes "\n"

-- the line that a drill writes of its history
abbrev pub drill_line : (seed calls : ℕ) → List Fact → List ℕ
drill_line seed calls history = line_of seed calls (counts_of history)
