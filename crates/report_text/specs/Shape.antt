-- The few shapes that the lines of a report have.
use Rattle.std.specs.Prelude.{ℕ, List, ◌++◌, codes, decimal}
use Rattle.rpc_base.specs.declared.event.Event.{Event}
use Rattle.rpc_base.specs.declared.event.Event.TheVariants.{Asked, Sent, Unsent, Arrived}
use Rattle.rpc_base.specs.declared.event.Event.TheVariants.{Overflowed, Bad, Ran, DoneOk}
use Rattle.report_text.specs.declared.shape.Shape.{Shape}
use Rattle.report_text.specs.declared.shape.Shape.TheVariants.{Word, One, Two, Three, Four, Five}
use Rattle.report_text.specs.declared.shape.Shape.TheVariants.{Ending, State, Reason, Entry}
use Rattle.report_text.specs.declared.shape.Shape.TheVariants.{Datagram}
use Rattle.report_text.specs.declared.shape.Tail.{Tail}
use Rattle.report_text.specs.declared.shape.Tail.TheVariants.{Nothing, First, Both}
use Rattle.report_text.specs.Names.{owner_text, state_text, reason_text, bytes_text}

-- the words and numbers of a line
abbrev pub shape_text : Shape → List ℕ
shape_text (Word a) = a.now
shape_text (One a) = a.0.now ++ decimal a.1
shape_text (Two a b) = a.0.now ++ decimal a.1 ++ b.0.now ++ decimal b.1
shape_text (Three a b c) =
    a.0.now ++ decimal a.1 ++ b.0.now ++ decimal b.1 ++ c.0.now ++ decimal c.1
shape_text (Four a b c d) =
    a.0.now ++ decimal a.1 ++ b.0.now ++ decimal b.1 ++ c.0.now ++ decimal c.1 ++ d.0.now
    ++ decimal d.1
shape_text (Five a b c d e) =
    a.0.now ++ decimal a.1 ++ b.0.now ++ decimal b.1 ++ c.0.now ++ decimal c.1 ++ d.0.now
    ++ decimal d.1 ++ e.0.now ++ decimal e.1
shape_text (Ending a word) = a.0.now ++ decimal a.1 ++ word.now
shape_text (State a state) = a.0.now ++ decimal a.1 ++ codes " " ++ state_text state
shape_text (Reason reason) = codes "dropped " ++ reason_text reason
shape_text (Entry word owner number) = word.now ++ owner_text owner ++ codes " " ++ decimal number
shape_text (Datagram peer owner number) =
    codes "sent " ++ decimal peer ++ codes " " ++ owner_text owner ++ codes " " ++ decimal number

-- which bytes of its fact a line ends with
abbrev pub tail_of : Event → Tail
tail_of (Asked call session req_type room) = First
tail_of (Unsent peer) = First
tail_of (Arrived peer) = First
tail_of (Overflowed peer) = First
tail_of (Bad peer) = First
tail_of (DoneOk call) = First
tail_of (Sent peer owner number) = Both
tail_of (Ran session request req_type) = Both
tail_of _ = Nothing

-- a line with its bytes
abbrev pub with_tail : Tail → List ℕ → List ℕ → List ℕ → List ℕ
with_tail Nothing line first second = line
with_tail First line first second = line ++ codes " " ++ bytes_text first
with_tail Both line first second =
    line ++ codes " " ++ bytes_text first ++ codes " " ++ bytes_text second
