-- one call more at each turn, and no memory was refused
use Rattle.std.proofs.Common.{◌≡◌}
use Rattle.rpc_laws.proofs.CallsLemmas.{HaveGone}
use Rattle.rpc_laws.proofs.calls.bring.Given as goal

abbrev pub invariant-loop-i : goal.invariant-loop-i
invariant-loop-i l =
    HaveGone l._i l.begun.items l.waiting.items l.fn.begun.items l.fn.waiting.items
    × (l.memory ≡ l.fn.memory)
