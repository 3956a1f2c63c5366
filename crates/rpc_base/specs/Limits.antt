-- The ranges of an endpoint's limits.
use Rattle.std.specs.Prelude.{◌≤◌}
use Rattle.rpc_base.specs.declared.limits.Limits.{Limits}
use Rattle.rpc_base.specs.declared.limits.TheConstants.{LEAST_RING, MOST_JOBS, MOST_RING}
use Rattle.rpc_base.specs.declared.limits.TheConstants.{MOST_TIMEOUT}

-- ring 32 to 4,096, jobs 1 to 1,024, timeout 1 to 60,000,000 microseconds
abbrev pub Fits : Limits → Type 0
Fits l =
    (LEAST_RING ≤ l.ring) × (l.ring ≤ MOST_RING) × (1 ≤ l.jobs) × (l.jobs ≤ MOST_JOBS) ×
    (1 ≤ l.timeout) × (l.timeout ≤ MOST_TIMEOUT)
