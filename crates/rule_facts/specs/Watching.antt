-- Calls that give nothing by the timer rule.
use Rattle.std.specs.Prelude.{ℕ, Bool, true, false, Option, Some, None, List}
use Rattle.std.specs.List.{list_all}
use Rattle.rpc_laws.specs.declared.rows.TimerRow.{TimerRow}
use Rattle.rpc_laws.specs.declared.rows.TimerRow.TheVariants.{Waits}
use Rattle.rpc_laws.specs.declared.tables.Call.{Call}
use Rattle.rpc_laws.specs.declared.tables.Client.{Client}
use Rattle.rpc_laws.specs.declared.tables.Progress.{Progress}
use Rattle.rpc_laws.specs.declared.tables.Queued.{Queued}
use Rattle.rpc_laws.specs.GoBackN.{row_of}

abbrev pub is_waits : TimerRow → Bool
is_waits Waits = true
is_waits _ = false

-- a call that isn't active gives nothing
abbrev pub progress_waits : (clock timeout session : ℕ) → List Queued → Option Progress → Bool
progress_waits clock timeout session queued None = true
progress_waits clock timeout session queued (Some p) =
    is_waits (row_of clock timeout session queued p)

abbrev pub call_waits : (clock timeout session : ℕ) → List Queued → Call → Bool
call_waits clock timeout session queued c = progress_waits clock timeout session queued c.progress

-- no call of a session gives anything
abbrev pub client_waits : (clock timeout : ℕ) → List Queued → Option Client → Bool
client_waits clock timeout queued None = true
client_waits clock timeout queued (Some x) =
    list_all (call_waits clock timeout x.way.number queued) x.calls
