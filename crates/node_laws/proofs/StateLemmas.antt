-- States of client sessions.
use Rattle.std.proofs.Common.{◌≡◌, ◌<◌, ℕ, Bool, true, false, cond, ltb-true, refl}
use Rattle.std.specs.Prelude.{nat_lt}
use Rattle.rpc_base.specs.declared.limits.TheConstants.{MOST_CALLS}
use Rattle.rpc_base.specs.declared.state.SessionState.{SessionState}
use Rattle.rpc_base.specs.declared.state.SessionState.TheVariants.{Unknown, Connecting, Connected}
use Rattle.rpc_base.specs.declared.state.SessionState.TheVariants.{Closing, Closed, Failed, Broken}
use Rattle.rpc_base.specs.declared.state.SessionState.TheVariants.{Spent}
use Rattle.rpc_laws.specs.Groups.{told_state}
use Rattle.rpc_laws.specs.Sessions.{is_connected, is_live}

-- a connected session is live
pub connected-live : (state : SessionState) → is_connected state ≡ true → is_live state ≡ true
connected-live Connected e = refl
connected-live Spent e = refl
connected-live Unknown e = cc
connected-live Connecting e = cc
connected-live Closing e = cc
connected-live Closed e = cc
connected-live Failed e = cc
connected-live Broken e = cc

-- and so is one that is told to be
pub told-connected : (state : SessionState) (asked : ℕ)
    → is_connected (told_state state asked) ≡ true → is_connected state ≡ true
told-connected Connected asked e = refl
told-connected Spent asked e = refl
told-connected Unknown asked e = cc
told-connected Connecting asked e = cc
told-connected Closing asked e = cc
told-connected Closed asked e = cc
told-connected Failed asked e = cc
told-connected Broken asked e = cc

-- and counts fewer than the most calls
few-by : (asked : ℕ) (b : Bool) → nat_lt asked MOST_CALLS ≡ b → cond b Connected Spent ≡ Connected
    → asked < MOST_CALLS
few-by asked true t e = ltb-true asked MOST_CALLS t
few-by asked false t e = cc

pub told-few : (state : SessionState) (asked : ℕ) → told_state state asked ≡ Connected
    → asked < MOST_CALLS
told-few Connected asked e = few-by asked (nat_lt asked MOST_CALLS) refl e
told-few Spent asked e = cc
told-few Unknown asked e = cc
told-few Connecting asked e = cc
told-few Closing asked e = cc
told-few Closed asked e = cc
told-few Failed asked e = cc
told-few Broken asked e = cc
