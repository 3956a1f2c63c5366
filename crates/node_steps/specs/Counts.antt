-- What a poll counts.
use Rattle.std.specs.Prelude.{Bool, true, false}
use Rattle.rpc_base.specs.declared.event.Event.{Event}
use Rattle.rpc_base.specs.declared.event.Event.TheVariants.{Again, Dropped, Heard, Sent, Took}

-- a packet was handled, of a call or of session control
abbrev pub is_handled : Event → Bool
is_handled Heard = true
is_handled (Took owner k) = true
is_handled (Again owner k) = true
is_handled (Dropped why) = true
is_handled _ = false

-- a packet was sent
abbrev pub is_sent : Event → Bool
is_sent (Sent peer owner k) = true
is_sent _ = false
