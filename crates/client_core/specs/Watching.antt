-- The active calls in the order of their numbers, as they are told one by one.
use Rattle.std.specs.Prelude.{ℕ, nat_lt, Bool, true, Option, Some, None, option_map}
use Rattle.rpc_base.specs.Least.{least}
use Rattle.client_core.specs.declared.active.Active.{Active}
use Rattle.client_core.specs.declared.call.ActiveCall.{ActiveCall}
use Rattle.client_core.specs.Session.{Session}

-- by which the calls are ordered
abbrev pub call_number : ActiveCall → ℕ
call_number c = c.call

-- whether a call has a number above another, if there is another
abbrev pub is_after : Option ℕ → ActiveCall → Bool
is_after None c = true
is_after (Some n) c = nat_lt n c.call

-- what is told of a call
abbrev pub told : ActiveCall → Active
told c = record { call = c.call; request = c.request; got = c.got; posted = c.posted }

-- the active call of least number, above the one given
abbrev pub next_told : Option ℕ → Session → Option Active
next_told after s = option_map told (least (is_after after) call_number s.active)
