use Rattle.std.proofs.Common.{◌≡◌, ◌≤◌, ◌*◌, take}
use Rattle.std.specs.Prelude.{sum_by}
use Rattle.rpc_laws.specs.Groups.{live_credits}
use Rattle.node_rules.proofs.noted.client_shares.Given as goal

abbrev pub invariant-loop-client : goal.invariant-loop-client
invariant-loop-client l =
    (l.credits ≡ sum_by live_credits (take l.client-index l.clients)) × (l.credits ≤ 65535 * l.client-index)
