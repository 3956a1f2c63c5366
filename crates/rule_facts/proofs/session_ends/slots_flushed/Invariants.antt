use Rattle.std.proofs.Common.{◌≡◌, ◌≤◌, Some, length, take}
use Rattle.std.specs.Prelude.{flat_map}
use Rattle.std.specs.List.{find}
use Rattle.rpc_laws.specs.Requests.{in_slot_of}
use Rattle.rpc_laws.specs.ServerTable.{flushes}
use Rattle.rule_facts.specs.Fronts.{Fronts}
use Rattle.rule_facts.proofs.FrontLemmas.{slots}
use Rattle.rule_facts.proofs.session_ends.slots_flushed.Given as goal

abbrev pub invariant-loop-slot : goal.invariant-loop-slot
invariant-loop-slot l =
    Fronts (flat_map (λ slot. flushes l.me l.queued l.server.way.number (find (in_slot_of slot) l.server.slots))
    (take l.slot slots)) l.facts (Some l.count)
    × (l.count ≤ length l.facts)
    × (l.memory ≡ l.initial.memory)
