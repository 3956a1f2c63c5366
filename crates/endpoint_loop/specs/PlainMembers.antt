-- The plain service, by what contracts see of a service.
use Rattle.std.specs.Prelude.{ℕ}
use Rattle.rpc_outside.specs.PlainAnswer.{plain_answer, plain_mode}
use Rattle.rpc_outside.specs.PlainStands.{PlainStands}
use Rattle.rpc_outside.specs.declared.service.Service as Service

-- it is seen as its total
abbrev pub plain_members : Service.Ghosts ℕ
plain_members = record { mode_of = plain_mode; answer = plain_answer; stands = PlainStands }
