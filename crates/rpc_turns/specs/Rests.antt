-- What a run does where nothing comes: after some turns in a row that did nothing it sleeps.
use Rattle.std.specs.Prelude.{◌≡◌, ◌↔◌, ℕ, ◌+◌, ◌^◌, ◌<◌, ◌≤◌, Bool, true, false, ◌&&◌, nat_le, min}
use Rattle.std.specs.Prelude.{Option, Some}
use Rattle.std.specs.Prelude.{IsTrue, if◌then◌else◌}
use Rattle.endpoint_loop.specs.declared.endpoint.poll.Turn.{Turn}
use Rattle.node_steps.specs.Due.{RestsAt}
use Rattle.node_steps.specs.Status.{IsQuiet}
use Rattle.rpc_turns.specs.declared.rest.Rest.{Rest}
use Rattle.rpc_turns.specs.declared.rest.TheConstants.{EMPTY_TURNS, SHORT_SLEEPS, SHORT_SLEEP}
use Rattle.rpc_turns.specs.declared.rest.TheConstants.{LONG_SLEEP}
use Rattle.rpc_laws.specs.declared.tables.Lists.{Lists}
use Rattle.rpc_laws.specs.declared.tables.Timed.{Timed}
use Rattle.rpc_outside.specs.Linking.{KeepsAddresses, NoneComes}
use Rattle.rpc_outside.specs.declared.link.Link as Link

-- a run that made no turn so far, and that may sleep or doesn't
abbrev pub resting : (sleeps : Bool) → Rest
resting sleeps = record { sleeps = sleeps; empty = 0 }

-- it sleeps before a turn where 256 turns in a row did nothing
abbrev pub is_asleep : Rest → Bool
is_asleep rest = rest.sleeps && nat_le EMPTY_TURNS rest.empty

-- the microseconds of its longest sleep: behind 1,000 sleeps in a row it is a longer one
abbrev pub longest_sleep : Rest → ℕ
longest_sleep rest =
    if nat_le (EMPTY_TURNS + SHORT_SLEEPS) rest.empty then LONG_SLEEP else SHORT_SLEEP

-- a turn that did nothing is counted, up to the last of the short sleeps, and one that did something
-- ends the count
abbrev pub counted : (nothing : Bool) → Rest → Rest
counted nothing rest =
    record rest {
      empty = if nothing then min (rest.empty + 1) (EMPTY_TURNS + SHORT_SLEEPS) else 0;
    }

-- for so many microseconds from its clock on nothing is due at a node, and then something is, where
-- they are fewer than were asked for, and the clock goes further
pub record RestsFor (s : Timed) (most micros : ℕ) : Type 0 where
  pub within : micros ≤ most
  pub rests : (t : ℕ) → s.clock ≤ t → t < s.clock + micros → RestsAt t s.lists
  pub due : micros < most → s.clock + micros + 1 < 2 ^ 64 → RestsAt (s.clock + micros) s.lists → ⊥

-- a link waited: all that it tells is as before
pub record TellsNothingNew {L : Type 0} (net : Link.Ghosts L) (old new : L) : Type 0 where
  pub sent : net.sent new ≡ net.sent old
  pub lists : NoneComes net.waiting net.received old new
  pub addresses : KeepsAddresses net.bound net.numbers old new
  pub faults : net.faults new ≡ net.faults old
  pub busies : net.busies new ≡ net.busies old

-- a run that sleeps waits by its link, and one that doesn't leaves it alone
abbrev pub Rests : {L : Type 0} → Link.Ghosts L → (asleep : Bool) → (old new : L) → Type 0
Rests net true old new = TellsNothingNew net old new
Rests net false old new = new ≡ old

-- a turn handled and sent no packet, and left none to be sent
abbrev pub IsIdle : Option Turn → Type 0
IsIdle told = told ≡ Some (record { handled = 0; sent = 0; busy = false })

-- a turn did nothing: beside that the endpoint is quiet behind it
abbrev pub DidNothing : Option Turn → Lists → Type 0
DidNothing told s = IsIdle told × IsQuiet s

-- the same, by a test of whether the endpoint is quiet
pub record CountsIf (told : Option Turn) (quiet : Bool) (rest then_rest : Rest) : Type 0 where
  pub nothing : Bool
  pub so : IsTrue nothing ↔ (IsIdle told × IsTrue quiet)
  pub count : then_rest ≡ counted nothing rest

-- what a turn makes of the count
pub record CountsTurn (told : Option Turn) (s : Lists) (rest then_rest : Rest) : Type 0 where
  pub nothing : Bool
  pub so : IsTrue nothing ↔ DidNothing told s
  pub count : then_rest ≡ counted nothing rest
