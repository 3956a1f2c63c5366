-- The calls that are over and weren't taken out yet.
use Rattle.std.specs.Prelude.{◌≡◌, List}
use Rattle.client_core.specs.declared.outcome.Done.{Done}
use Rattle.rpc_turns.specs.declared.ended.Ended.{Ended}

-- the calls that are over may be these: they are, where no memory was refused for one
abbrev pub KeepsAll : Ended → List Done → Type 0
KeepsAll k dones = k.memory ≡ 0 → k.dones.items ≡ dones
