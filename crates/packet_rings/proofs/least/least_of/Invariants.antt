-- the least so far and the least of the rest give the least of all
use Rattle.std.proofs.Common.{◌≡◌}
use Rattle.rpc_base.specs.Least.{least_number}
use Rattle.packet_rings.specs.Entries.{is_of, number_of}
use Rattle.rpc_base.proofs.LeastLemmas.{lesser}
use Rattle.packet_rings.proofs.least.least_of.Given as goal

abbrev pub invariant-loop-entry : goal.invariant-loop-entry
invariant-loop-entry l =
    least_number (is_of l.owner) number_of l.entries.items
    ≡ lesser l.least (least_number (is_of l.owner) number_of l.entry-iterator)
