-- Which answers look at no tallies.
use Rattle.std.specs.Prelude.{ℕ, ◌-◌, nat_le, if◌then◌else◌}
use Rattle.rpc_outside.specs.PlainAnswer.{is_in_background}

-- the type of the event loop whose answer a request of some type has, where it is no tally; 0 where
-- it has none
abbrev pub steady_kind : ℕ → ℕ
steady_kind req_type =
    if nat_le req_type 4 then req_type
    else (if is_in_background req_type then req_type - 128 else 0)
