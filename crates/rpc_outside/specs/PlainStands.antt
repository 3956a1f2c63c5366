-- What a plain service has served, as far as it tells.
use Rattle.std.specs.Prelude.{ℕ, ◌≡◌}
use Rattle.rpc_outside.specs.PlainAnswer.{total_of}
use Rattle.rpc_outside.specs.Served.{Served}

-- a service of this total stands for the lists whose tallies add up to it
abbrev pub PlainStands : ℕ → Served → Type 0
PlainStands total served = total ≡ total_of served
