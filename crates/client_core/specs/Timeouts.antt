-- What a look at a call's clock tells, and what a rollback and a loss make of a session.
use Rattle.std.specs.Prelude.{ℕ, ◌+◌, ◌%◌, ◌==◌, Bool, false, Option}
use Rattle.std.specs.List.{find}
use Rattle.rpc_base.specs.Tables.{at_first}
use Rattle.credit_book.specs.Credits.{rolled}
use Rattle.rpc_laws.specs.declared.rows.TimerRow.{TimerRow}
use Rattle.rpc_laws.specs.declared.rows.TimerRow.TheVariants.{Waits, RollsBack, Breaks}
use Rattle.rpc_laws.specs.GoBackN.{has_timed_out, timer_row}
use Rattle.client_core.specs.declared.call.ActiveCall.{ActiveCall}
use Rattle.client_core.specs.declared.outcome.Timer.{Timer}
use Rattle.client_core.specs.declared.outcome.Timer.TheVariants.{Quiet, Roll, Lost}
use Rattle.client_core.specs.Replies.{is_request}
use Rattle.client_core.specs.Session.{Session}

abbrev pub is_numbered : ℕ → ActiveCall → Bool
is_numbered number c = c.call == number

-- the active call with this number
abbrev pub call_numbered : ℕ → Session → Option ActiveCall
call_numbered number s = find (is_numbered number) s.active

-- whether its clock says that a call timed out, whatever is queued
abbrev pub is_late : (now timeout : ℕ) → ActiveCall → Bool
is_late now timeout c = has_timed_out now timeout false c.got c.posted c.mark

-- what the timer rule says of a call
abbrev pub call_timer : (now timeout : ℕ) → Bool → ActiveCall → TimerRow
call_timer now timeout is_waiting c = timer_row now timeout is_waiting c.got c.posted c.rolls c.mark

-- and what is told of it
abbrev pub timer_told : TimerRow → ActiveCall → Timer
timer_told Waits c = Quiet
timer_told RollsBack c = Roll c.request c.posted c.got
timer_told Breaks c = Lost

-- rolled back: the packets from the first unanswered one on are to be posted again
abbrev pub rolled_call : ActiveCall → ActiveCall
rolled_call c = record c { posted = c.got; rolls = c.rolls + 1 }

-- the session once a call was rolled back: the credits of its unanswered packets are back
abbrev pub after_roll : ActiveCall → Session → Session
after_roll c s = record s {
  credits = rolled (c.request % 8) s.credits;
  active = at_first (is_request c.request) rolled_call s.active;
}
