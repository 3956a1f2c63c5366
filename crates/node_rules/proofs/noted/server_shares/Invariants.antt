use Rattle.std.proofs.Common.{◌≡◌, ◌≤◌, ◌*◌, take}
use Rattle.std.specs.Prelude.{sum_by}
use Rattle.node_rules.proofs.noted.server_shares.Given as goal

abbrev pub invariant-loop-server : goal.invariant-loop-server
invariant-loop-server l =
    (l.credits ≡ sum_by (λ v. v.credits) (take l.server-index l.servers)) × (l.credits ≤ 65535 * l.server-index)
