-- What steps that hand control packets to the link tell of it.
use Rattle.std.specs.Prelude.{[], ◌∷◌, ◌≡◌, ℕ, ◌+◌, ◌≤◌, min, Bool, true, false, option_map, IfSome}
use Rattle.std.specs.Prelude.{List, ◌++◌, count_by, map, slice_get}
use Rattle.rpc_laws.specs.declared.tables.Queued.{Queued}
use Rattle.rpc_outside.specs.Recording.{Log}
use Rattle.packet_header.specs.declared.packet.ControlHeader.{ControlHeader}
use Rattle.rpc_base.specs.declared.event.Event.{Event}
use Rattle.rpc_base.specs.declared.event.Event.TheVariants.{Unsent}
use Rattle.rpc_base.specs.declared.fact.Fact.{Fact}
use Rattle.rpc_laws.specs.declared.tables.Timed.{Timed}
use Rattle.rpc_laws.specs.ControlSteps.{Speaks, given_up}
use Rattle.rpc_laws.specs.Facts.{plain}
use Rattle.rpc_laws.specs.Steps.{Goes, Rel}
use Rattle.memory_count.specs.Faults.{end_of_count, HasRisen}
use Rattle.node_steps.specs.Changes.{Change}
use Rattle.node_steps.specs.Counts.{is_sent}
use Rattle.node_steps.specs.Notes.{Makes, sent_of}
use Rattle.node_steps.specs.declared.told.Asking.{Asking}
use Rattle.rpc_outside.specs.declared.link.Link as Link

-- a link's counts: how often it failed so far, and how often it was busy
pub record Troubles : Type 0 where
  pub faults : ℕ
  pub busies : ℕ

abbrev pub troubles_of : {L : Type 0} → Link.Ghosts L → L → Troubles
troubles_of l link = record { faults = l.faults link; busies = l.busies link }

-- a count rose by n at least, or stands at its end
pub record RisenBy (n old new : ℕ) : Type 0 where
  pub no_less : old ≤ new
  pub rose : min (old + n) end_of_count ≤ new

-- n packets weren't taken: for each the link failed or was busy
pub record HeldBack (n : ℕ) (from to : Troubles) : Type 0 where
  pub failed : ℕ
  pub busy : ℕ
  pub parts : n ≡ failed + busy
  pub faults : RisenBy failed from.faults to.faults
  pub busies : RisenBy busy from.busies to.busies

-- a control packet that the link didn't take
abbrev pub is_unsent : Event → Bool
is_unsent (Unsent peer) = true
is_unsent _ = false

-- how many of these facts are of such packets
abbrev pub unsent_in : List Fact → ℕ
unsent_in x = count_by (λ f. is_unsent f.event) x

-- the count of faults has risen where one came, and otherwise it is unchanged
abbrev pub FailedAs : (failed : Bool) → (old new : ℕ) → Type 0
FailedAs true old new = HasRisen old new
FailedAs false old new = new ≡ old

-- what a link counted while these facts were noted: for each packet that it didn't take it failed
-- or was busy
pub record CountsUnsent (x : List Fact) (failed : Bool) (from to : Troubles) : Type 0 where
  pub held : HeldBack (unsent_in x) from to
  pub cause : FailedAs failed from.faults to.faults

-- the link, where it tells what it sent, took just the datagrams of the Sent facts; it is told how
-- many they are, and whether the link failed
pub record LinkTook {L : Type 0} (net : Link.Ghosts L) (told : Asking) (x : List Fact) (from to : L)
    : Type 0 where
  pub took : net.sent to ≡ option_map (λ ds. ds ++ sent_of x) (net.sent from)
  pub went : told.sent ≡ count_by (λ f. is_sent f.event) x
  pub counts : CountsUnsent x told.failed (troubles_of net from) (troubles_of net to)

-- a step that hands control packets to the link
pub record MakesSpoken {R L : Type 0} (log : R → Log) (net : Link.Ghosts L) (P : Rel)
    (told : Asking) (node : Change Timed) (rec : Change R) (wire : Change L) : Type 0 where
  pub makes : Makes log P node.old node.new rec.old rec.new
  pub link : LinkTook net told makes.noted wire.old wire.new

-- session i sends its own request, with this header
pub record SendsRequest (i : ℕ) (h : ControlHeader) (s : Timed) (x : List Fact) (t : Timed)
    : Type 0 where
  pub facts : IfSome (slice_get s.lists.clients i) (λ c. Speaks s.lists.me c.way.peer h x)
  pub goes : Goes s x t

-- session i, to whose request no answer came, gives up
pub record GivesUpAt (i : ℕ) (s : Timed) (x : List Fact) (t : Timed) : Type 0 where
  pub facts : IfSome (slice_get s.lists.clients i)
      (λ c. x ≡ map (plain s.lists.me) (given_up c.state c.way.number))
  pub goes : Goes s x t

-- one, where a packet is left in the line
abbrev pub left_one : List Queued → ℕ
left_one [] = 0
left_one (q ∷ qs) = 1
