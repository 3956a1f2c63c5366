-- The fact that the words of a line tell, its bytes with it; and what a line says.
use Rattle.std.specs.Prelude.{◌≡◌, ℕ, ◌+◌, List, [], codes, Option, Some, IfSome}
use Rattle.std.specs.Prelude.{IfNone}
use Rattle.std.specs.Prelude.{if◌then◌else◌}
use Rattle.rpc_base.specs.declared.event.Event.{Event}
use Rattle.rpc_base.specs.declared.event.Event.TheVariants.{Asked, Sent, Unsent, Arrived}
use Rattle.rpc_base.specs.declared.event.Event.TheVariants.{Overflowed, Bad, Ran, DoneOk}
use Rattle.rpc_base.specs.declared.fact.Fact.{Fact}
use Rattle.rpc_base.specs.declared.fact.Who.{Who}
use Rattle.rpc_base.specs.declared.fact.Who.TheVariants.{Node, Net}
use Rattle.report_text.specs.declared.shape.Tail.{Tail}
use Rattle.report_text.specs.declared.shape.Tail.TheVariants.{Nothing, First, Both}
use Rattle.report_text.specs.Shape.{tail_of}
use Rattle.report_text.specs.Told.{IsTold}
use Rattle.script_grammar.specs.Ask.{hex_bytes}
use Rattle.report_reader.specs.declared.octets.Shown.{Shown}
use Rattle.report_reader.specs.declared.octets.Shown.TheVariants.{NoWord, OneWord, TwoWords}
use Rattle.report_reader.specs.Lines.{bare_line}
use Rattle.report_reader.specs.Ranges.{InRange}
use Rattle.report_reader.specs.Telling.{event_in}
use Rattle.report_reader.specs.Words.{◌>>=◌, is_word, num, word}

-- where it happened: the network, or a node by its number
unfoldable pub who_in : List (List ℕ) → Option Who
who_in ws =
    if is_word (word 0 ws) (codes "net") then Some Net
    else (num 255 0 ws >>= λ n. Some (Node n))

-- the bytes that a word writes: a dash is none
unfoldable pub octets_named : List ℕ → Option (List ℕ)
octets_named w = if is_word w (codes "-") then Some [] else hex_bytes w

abbrev pub octets_at : ℕ → List (List ℕ) → Option (List ℕ)
octets_at i ws = octets_named (word i ws)

-- which word has the first bytes of an event
abbrev pub place_of : Event → ℕ
place_of (Asked call session req_type room) = 9
place_of (Unsent peer) = 3
place_of (Arrived peer) = 3
place_of (Overflowed peer) = 3
place_of (Bad peer) = 3
place_of (DoneOk call) = 4
place_of (Sent peer owner number) = 7
place_of (Ran session request req_type) = 6
place_of _ = 0

-- which words have the bytes of a line with this tail, the first of them at this place
abbrev pub shown : Tail → ℕ → Shown
shown Nothing place = NoWord
shown First place = OneWord place
shown Both place = TwoWords place (place + 1)

unfoldable pub first_in : Shown → List (List ℕ) → Option (List ℕ)
first_in NoWord ws = Some []
first_in (OneWord i) ws = octets_at i ws
first_in (TwoWords i j) ws = octets_at i ws

unfoldable pub second_in : Shown → List (List ℕ) → Option (List ℕ)
second_in NoWord ws = Some []
second_in (OneWord i) ws = Some []
second_in (TwoWords i j) ws = octets_at j ws

abbrev pub first_by : Tail → ℕ → List (List ℕ) → Option (List ℕ)
first_by tail place ws = first_in (shown tail place) ws

abbrev pub second_by : Tail → ℕ → List (List ℕ) → Option (List ℕ)
second_by tail place ws = second_in (shown tail place) ws

-- the fact that the words tell, if they do
unfoldable pub fact_in : List (List ℕ) → Option Fact
fact_in ws = do
  who ← who_in ws
  event ← event_in ws
  first ← first_by (tail_of event) (place_of event) ws
  second ← second_by (tail_of event) (place_of event) ws
  Some (record { who = who; event = event; first = first; second = second })

-- what was read of a line, which has no line feed: a fact that it spells, or that no fact has this
-- line
pub record Reads (line : List ℕ) (o : Option Fact) : Type 0 where
  pub spelled : IfSome o (λ f. (bare_line f ≡ line) × IsTold f)
  pub unspelled : IfNone o ((f : Fact) → InRange f → IsTold f → bare_line f ≡ line → ⊥)
