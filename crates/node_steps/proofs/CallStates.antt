-- The state that is told of a client session, and its own.
use Rattle.std.proofs.Common.{◌≡◌, ◌≢◌, ℕ, Bool, true, false, cond, ltb, None, refl, ap}
use Rattle.rpc_base.specs.declared.limits.TheConstants.{MOST_CALLS}
use Rattle.rpc_base.specs.declared.state.SessionState.{SessionState}
use Rattle.rpc_base.specs.declared.state.SessionState.TheVariants.{Unknown, Connecting, Connected}
use Rattle.rpc_base.specs.declared.state.SessionState.TheVariants.{Closing, Closed, Failed, Spent}
use Rattle.rpc_base.specs.declared.state.SessionState.TheVariants.{Broken as IsBroken}
use Rattle.rpc_laws.specs.ControlSteps.{request_by}
use Rattle.rpc_laws.specs.declared.tables.Way.{Way}
use Rattle.rpc_laws.specs.Groups.{told_state}

-- the state that is told of a session
pub told-connecting : (state : SessionState) (asked : ℕ) → told_state state asked ≡ Connecting
    → state ≡ Connecting
told-connecting Connected asked e = by (ltb asked MOST_CALLS) e
  where
    by : (few : Bool) → cond few Connected Spent ≡ Connecting → Connected ≡ Connecting
    by true e = cc
    by false e = cc
told-connecting Spent asked e = cc
told-connecting IsBroken asked e = cc
told-connecting Unknown asked e = cc
told-connecting Connecting asked e = refl
told-connecting Closing asked e = cc
told-connecting Closed asked e = cc
told-connecting Failed asked e = cc

pub told-closing : (state : SessionState) (asked : ℕ) → told_state state asked ≡ Closing
    → state ≡ Closing
told-closing Connected asked e = by (ltb asked MOST_CALLS) e
  where
    by : (few : Bool) → cond few Connected Spent ≡ Closing → Connected ≡ Closing
    by true e = cc
    by false e = cc
told-closing Spent asked e = cc
told-closing IsBroken asked e = cc
told-closing Unknown asked e = cc
told-closing Connecting asked e = cc
told-closing Closing asked e = refl
told-closing Closed asked e = cc
told-closing Failed asked e = cc

pub told-apart : (state : SessionState) (asked : ℕ) → told_state state asked ≢ Connecting
    → state ≢ Connecting
told-apart state asked other e = other (ap (λ x. told_state x asked) e)

pub told-open : (state : SessionState) (asked : ℕ) → told_state state asked ≢ Closing
    → state ≢ Closing
told-open state asked other e = other (ap (λ x. told_state x asked) e)

-- a session's own request is that of the state that is told
pub told-request : (own : ℕ) (state : SessionState) (asked : ℕ) (way : Way) (credits : ℕ)
    → request_by own (told_state state asked) way credits ≡ request_by own state way credits
told-request own Connected asked way credits = by (ltb asked MOST_CALLS)
  where
    by : (few : Bool) → request_by own (cond few Connected Spent) way credits ≡ None
    by true = refl
    by false = refl
told-request own Spent asked way credits = refl
told-request own IsBroken asked way credits = refl
told-request own Unknown asked way credits = refl
told-request own Connecting asked way credits = refl
told-request own Closing asked way credits = refl
told-request own Closed asked way credits = refl
told-request own Failed asked way credits = refl
