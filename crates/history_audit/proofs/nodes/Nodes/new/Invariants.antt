use Rattle.std.proofs.Common.{◌≡◌, [], length}
use Rattle.end_laws.proofs.ListLemmas.{Placed}
use Rattle.node_audit.specs.Kept.{Keeps}
use Rattle.history_audit.proofs.nodes.Nodes.new.Given as goal

abbrev pub invariant-loop-number : goal.invariant-loop-number
invariant-loop-number l =
    (length l.nodes.items ≡ l.number) × Placed (λ n a. Keeps a n []) l.nodes.items
    × (l.memory ≡ l.initial.memory)
