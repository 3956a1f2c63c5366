use Rattle.std.proofs.Common.{◌≡◌, ◌++◌, map}
use Rattle.network_model.specs.Sending.{copy_from}
use Rattle.network_model.proofs.node_link.NodeLink.send_into.Given as goal

abbrev pub invariant-datagrams : goal.invariant-datagrams
invariant-datagrams l =
    (l.net ≡ l.initial.net ++ map (copy_from l.me) l.yielded) × (l.memory ≡ l.initial.memory)
