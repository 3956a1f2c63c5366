-- Where a line was written, or a front of it, no memory was wanting.
use Rattle.std.proofs.Common.{ℕ, ◌≤◌, List}
use Rattle.memory_count.proofs.Risen.{none-risen-by}
use Rattle.memory_count.specs.Faults.{HasRisenBy}
use Rattle.rpc_outside.specs.Writing.{Written}
use Rattle.run_status.specs.Words.{lacks}
use Rattle.run_status.specs.declared.status.Status.{Status}
use Rattle.run_status.specs.declared.status.Status.TheVariants.{Done, WriteFault}
use Rattle.serve_run.specs.Serving.{Writes}

pub writes-none : (told : Status) (line : List ℕ) (old new : Written) (m n : ℕ)
    → Writes told line old new → m ≤ n → HasRisenBy (lacks told) m n
writes-none Done line old new m n wrote le = none-risen-by m n le
writes-none WriteFault line old new m n wrote le = none-risen-by m n le
writes-none _ line old new m n wrote le = absurd wrote
