-- Want of memory among what a Request or RFR did.
use Rattle.std.specs.Prelude.{ℕ}
use Rattle.rpc_base.specs.declared.state.DropReason.{DropReason}
use Rattle.rpc_base.specs.declared.state.DropReason.TheVariants.{NoMemory}
use Rattle.server_core.specs.declared.step.Step.{Step}
use Rattle.server_core.specs.declared.step.Step.TheVariants.{Dropped}

-- how many refusals of memory a drop for this reason tells
abbrev pub lacks_for : DropReason → ℕ
lacks_for NoMemory = 1
lacks_for why = 0

-- and how many a step does
abbrev pub lacks_of : Step → ℕ
lacks_of (Dropped why) = lacks_for why
lacks_of step = 0
