use Rattle.std.proofs.lemmas.List.Sorted.{searched}
use Rattle.calling_sessions.proofs.RisingLemmas.{as-placed, in-order}
use Rattle.calling_sessions.proofs.callers.CallingSessions.search.Goals as goal

pub returns-clause-place : goal.returns-clause-place
returns-clause-place c =
    let xs = c.self.inside.numbers.items in
    rw (← c.self.view_is) (as-placed xs c.args.number c.binary_search.result
    (searched xs c.args.number c.binary_search.result
    (rw c.deref-2.ensures.value at c.binary_search.ensures.position) (in-order xs c.self.invariant.0)))
