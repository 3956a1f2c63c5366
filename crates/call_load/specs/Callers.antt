-- What the calls of a client change of its counts.
use Rattle.std.specs.Prelude.{◌≡◌, ℕ, ◌+◌, ◌<◌, ◌≤◌, ◌==◌, ◌||◌, min, if◌then◌else◌}
use Rattle.std.specs.List.{find}
use Rattle.call_load.specs.declared.aim.Aim.{Aim}
use Rattle.call_load.specs.declared.aim.TheConstants.{FILL_BYTES, TALLY_BYTES}
use Rattle.call_load.specs.declared.caller.Caller.{Caller}
use Rattle.call_load.specs.declared.counts.Counts.{Counts}
use Rattle.call_load.specs.declared.tally.Ending.{Ending}
use Rattle.call_load.specs.declared.tally.Tally.{Tally}
use Rattle.call_load.specs.Tallies.{ended_so}
use Rattle.rpc_base.specs.declared.limits.TheConstants.{MOST_MESSAGE_BYTES}
use Rattle.rpc_base.specs.declared.state.SessionState.TheVariants.{Connected}
use Rattle.rpc_laws.specs.Groups.{state_of}
use Rattle.rpc_laws.specs.Sessions.{is_client}

-- how many bytes a call asks, and how many it is answered with
abbrev pub asked_of : Aim → ℕ
asked_of a =
    if a.req_type == 3 then TALLY_BYTES
    else (if a.req_type == 4 || a.req_type == 132 then FILL_BYTES
    else min a.size MOST_MESSAGE_BYTES)

abbrev pub answered_of : Aim → ℕ
answered_of a = if a.req_type == 3 then TALLY_BYTES else min a.size MOST_MESSAGE_BYTES

-- there is a number of calls, and all of them were asked
abbrev pub AreAsked : Aim → Tally → Type 0
AreAsked a t = (0 < a.calls) × (a.calls ≤ t.asked)

-- and all are over
abbrev pub AreOver : Aim → Tally → Type 0
AreOver a t = AreAsked a t × (t.pending ≡ 0)

-- each session is connected
abbrev pub AllConnected : Caller → Type 0
AllConnected c =
    (n : ℕ) → n < c.aim.sessions
    → state_of (find (is_client n) c.endpoint.timed.lists.clients) ≡ Connected

-- some calls more were asked, at most so many, and are pending
pub record AsksMore (most : ℕ) (old new : Counts) : Type 0 where
  pub more : ℕ
  pub few : more ≤ most
  pub asked : new.tally.asked ≡ old.tally.asked + more
  pub pending : new.tally.pending ≡ old.tally.pending + more
  pub ended : (e : Ending) → ended_so e new.tally ≡ ended_so e old.tally
  pub rest : new ≡ record old { tally = new.tally }

-- some of the calls that were pending are over, at most so many, and none more was asked
pub record EndsSome (most : ℕ) (old new : Counts) : Type 0 where
  pub over : ℕ
  pub few : over ≤ most
  pub asked : new.tally.asked ≡ old.tally.asked
  pub pending : new.tally.pending + over ≡ old.tally.pending
  pub turns : new.turns ≡ old.turns
