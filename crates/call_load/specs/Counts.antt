-- What is counted of calls, and of the turns that carry them.
use Rattle.std.specs.Prelude.{◌≡◌, ◌≢◌, ℕ, ◌+◌, ◌-◌, ◌^◌, ◌<◌, ◌≤◌, min, Bool, List}
use Rattle.std.specs.Prelude.{[], ◌∷◌, if◌then◌else◌, ◌==◌}
use Rattle.call_load.specs.declared.counts.Counts.{Counts}
use Rattle.call_load.specs.declared.tally.Ending.{Ending}
use Rattle.call_load.specs.declared.tally.Turns.{Turns}
use Rattle.call_load.specs.Tallies.{ended_so}
use Rattle.endpoint_loop.specs.declared.endpoint.poll.Turn.{Turn}
use Rattle.time_histogram.specs.Times.{Holds, MOST_TIMES, Tallies}

-- no turn was made
abbrev pub no_turns : Turns
no_turns = record { made = 0; empty = 0; handled = 0; sent = 0; busy = 0 }

-- nothing was counted
pub record CountsNone (c : Counts) : Type 0 where
  pub asked : c.tally.asked ≡ 0
  pub ended : (e : Ending) → ended_so e c.tally ≡ 0
  pub turns : c.turns ≡ no_turns
  pub times : Holds [] c.times
  pub newest : Holds [] c.newest

-- of what was counted only the calls that are pending stay
pub record BeginsAnew (old new : Counts) : Type 0 where
  pub pending : new.tally.pending ≡ old.tally.pending
  pub ended : (e : Ending) → ended_so e new.tally ≡ 0
  pub turns : new.turns ≡ no_turns
  pub times : Holds [] new.times
  pub newest : Holds [] new.newest

-- one more call was asked
pub record AsksOne (old new : Counts) : Type 0 where
  pub asked : new.tally.asked ≡ old.tally.asked + 1
  pub pending : new.tally.pending ≡ old.tally.pending + 1
  pub ended : (e : Ending) → ended_so e new.tally ≡ ended_so e old.tally
  pub rest : new ≡ record old { tally = new.tally }

-- a histogram that isn't full counts one more time
pub record AddsTime (took : ℕ) (old new : Tallies) : Type 0 where
  pub counted : old.count < MOST_TIMES → (times : List ℕ) → Holds times old
      → Holds (took ∷ times) new
  pub full : MOST_TIMES ≤ old.count → new ≡ old

-- the time of a call was counted
pub record TimesOne (took : ℕ) (old new : Counts) : Type 0 where
  pub times : AddsTime took old.times new.times
  pub newest : AddsTime took old.newest new.newest
  pub tally : new.tally ≡ old.tally
  pub turns : new.turns ≡ old.turns

-- a call ended, where one was pending
pub record EndsOne (ending : Ending) (old new : Counts) : Type 0 where
  pub own : 0 < old.tally.pending → ended_so ending new.tally ≡ ended_so ending old.tally + 1
  pub others : (e : Ending) → e ≢ ending → ended_so e new.tally ≡ ended_so e old.tally
  pub pending : new.tally.pending ≡ old.tally.pending - 1
  pub asked : new.tally.asked ≡ old.tally.asked
  pub rest : new ≡ record old { tally = new.tally }

-- counts of turns stop at 2^64 - 1
abbrev pub added : ℕ → ℕ → ℕ
added n count = min (count + n) (2 ^ 64 - 1)

abbrev pub one_if : Bool → ℕ
one_if b = if b then 1 else 0

abbrev pub turned : Turn → Turns → Turns
turned t c = record {
  made = added 1 c.made;
  empty = added (one_if (t.handled == 0)) c.empty;
  handled = added t.handled c.handled;
  sent = added t.sent c.sent;
  busy = added (one_if t.busy) c.busy;
}

-- a turn was made, and is counted
abbrev pub CountsTurn : Turn → Counts → Counts → Type 0
CountsTurn t old new = new ≡ record old { turns = turned t old.turns }
