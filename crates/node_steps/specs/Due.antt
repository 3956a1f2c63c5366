-- When a node's timers next have something to do.
use Rattle.std.specs.Prelude.{◌≡◌, ℕ, ◌<◌, ◌≤◌, Bool, true, false, Option, Some, None, IfSome}
use Rattle.std.specs.Prelude.{List, [], slice_get}
use Rattle.std.specs.List.{AllByRecursion}
use Rattle.rpc_laws.specs.ControlSteps.{retry_row}
use Rattle.rpc_laws.specs.GoBackN.{row_of}
use Rattle.rpc_laws.specs.Pacing.{line}
use Rattle.rpc_laws.specs.declared.rows.RetryRow.TheVariants.{Rests}
use Rattle.rpc_laws.specs.declared.rows.TimerRow.TheVariants.{Waits}
use Rattle.rpc_laws.specs.declared.tables.Call.{Call}
use Rattle.rpc_laws.specs.declared.tables.Client.{Client}
use Rattle.rpc_laws.specs.declared.tables.Lists.{Lists}
use Rattle.rpc_laws.specs.declared.tables.Queued.{Queued}
use Rattle.session_store.specs.Changes.{has_request}

-- at moment t a session's own request, where it has one, is neither to be sent nor given up
abbrev pub RequestRests : (t timeout : ℕ) → Client → Type 0
RequestRests t timeout x =
    has_request x.state ≡ true → retry_row t timeout x.sends x.sent_at ≡ Rests

-- a call of session i, where it is active, doesn't time out then
abbrev pub CallRests : (t timeout i : ℕ) → List Queued → Call → Type 0
CallRests t timeout i queued c = IfSome c.progress (λ p. row_of t timeout i queued p ≡ Waits)

abbrev pub CallsRest : (t timeout i : ℕ) → List Queued → Client → Type 0
CallsRest t timeout i queued x = AllByRecursion (CallRests t timeout i queued) x.calls

pub record SessionRests (t timeout i : ℕ) (queued : List Queued) (x : Client) : Type 0 where
  pub request : RequestRests t timeout x
  pub calls : CallsRest t timeout i queued x

-- at moment t nothing is due: each client session rests, and no queued packet may be sent
pub record RestsAt (t : ℕ) (s : Lists) : Type 0 where
  pub sessions : (i : ℕ) → IfSome (slice_get s.clients i) (SessionRests t s.timeout i s.queued)
  pub queue : line t s.queued ≡ []

-- something is due exactly where it doesn't rest
abbrev pub DueUnless : (rests : Type 0) → (due : Bool) → Type 0
DueUnless rests true = rests → ⊥
DueUnless rests false = rests

-- nothing is due at one moment, and something is at a later one
pub record IsBetween (resting due : ℕ) (s : Lists) : Type 0 where
  pub order : resting < due
  pub rests : RestsAt resting s
  pub late : RestsAt due s → ⊥

-- the first moment from the clock on, and up to another, at which something is due; or nothing is
-- due up to that
abbrev pub IsFirstDue : (clock until : ℕ) → Lists → Option ℕ → Type 0
IsFirstDue clock until s None = (t : ℕ) → t ≤ until → RestsAt t s
IsFirstDue clock until s (Some due) =
    (clock ≤ until → clock ≤ due) × (due ≤ until) × (RestsAt due s → ⊥)
    × ((t : ℕ) → clock ≤ t → t < due → RestsAt t s)
