-- What is asked, and how.
use Rattle.std.specs.Prelude.{◌≤◌}
use Rattle.call_load.specs.declared.aim.Aim.{Aim}
use Rattle.call_load.specs.declared.aim.TheConstants.{MOST_CALLERS, MOST_PENDING}
use Rattle.rpc_base.specs.declared.limits.TheConstants.{MOST_CREDITS, MOST_MESSAGE_BYTES}
use Rattle.rpc_base.specs.declared.limits.TheConstants.{MOST_TIMEOUT}

-- each number is in its range
pub record IsInRange (a : Aim) : Type 0 where
  pub some_sessions : 1 ≤ a.sessions
  pub most_sessions : a.sessions ≤ MOST_CALLERS
  pub some_credits : 1 ≤ a.credits
  pub most_credits : a.credits ≤ MOST_CREDITS
  pub some_pending : 1 ≤ a.pending
  pub most_pending : a.pending ≤ MOST_PENDING
  pub size : a.size ≤ MOST_MESSAGE_BYTES
  pub some_timeout : 1 ≤ a.timeout
  pub most_timeout : a.timeout ≤ MOST_TIMEOUT
