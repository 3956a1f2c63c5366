-- The exit codes of the statuses, in their order.
use Rattle.std.specs.Prelude.{ℕ}
use Rattle.run_status.specs.declared.status.Status.{Status}
use Rattle.run_status.specs.declared.status.Status.TheVariants.{Done, Usage, BadScript, ReadFault}
use Rattle.run_status.specs.declared.status.Status.TheVariants.{WriteFault, NoMemory, LinkFault}
use Rattle.run_status.specs.declared.status.Status.TheVariants.{CallsFailed, TurnsSpent}
use Rattle.run_status.specs.declared.status.Status.TheVariants.{NotLawful, TooLong}

abbrev pub code_of : Status → ℕ
code_of Done = 0
code_of Usage = 1
code_of (BadScript bad) = 2
code_of ReadFault = 3
code_of WriteFault = 4
code_of NoMemory = 5
code_of LinkFault = 6
code_of CallsFailed = 7
code_of TurnsSpent = 8
code_of (NotLawful line) = 9
code_of TooLong = 10
