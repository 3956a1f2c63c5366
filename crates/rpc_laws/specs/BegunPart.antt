-- The calls of a session in two parts: those up to the last that began, and behind them those that
-- wait.
use Rattle.std.specs.Prelude.{◌≡◌, ℕ, Some, None, List, ◌++◌, slice_get}
use Rattle.std.specs.List.{AllByRecursion}
use Rattle.rpc_laws.specs.declared.tables.Call.{Call}
use Rattle.rpc_laws.specs.declared.tables.Progress.{Progress}

-- a call has no progress
abbrev pub IsWaiting : Call → Type 0
IsWaiting c = c.progress ≡ None

-- the calls in front, behind which all wait
pub record IsBegunPart (part calls : List Call) : Type 0 where
  pub rest : List Call
  pub whole : calls ≡ part ++ rest
  pub waits : AllByRecursion IsWaiting rest

-- the call at a place began
pub record IsBegunAt (i : ℕ) (calls : List Call) : Type 0 where
  pub call : Call
  pub progress : Progress
  pub there : slice_get calls i ≡ Some call
  pub began : call.progress ≡ Some progress

-- it began with this progress
abbrev pub with_progress : Progress → Call → Call
with_progress p c = record c { progress = Some p }
