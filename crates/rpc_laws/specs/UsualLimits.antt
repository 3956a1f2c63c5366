-- The limits of the nodes of a script.
use Rattle.std.specs.Prelude.{ℕ}
use Rattle.rpc_base.specs.declared.limits.Limits.{Limits}
use Rattle.rpc_laws.specs.GoBackN.{usual_timeout}
use Rattle.rpc_laws.specs.Jobs.{usual_jobs}

-- a ring of so many places, 64 jobs and a timeout of 5,000 microseconds
abbrev pub with_ring : ℕ → Limits
with_ring ring = record { ring = ring; jobs = usual_jobs; timeout = usual_timeout }
