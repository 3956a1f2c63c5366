use Rattle.std.proofs.Common.{arith, sym, ◌∙◌}
use Rattle.calling_sessions.proofs.RisingLemmas.{remove-alone, remove-keeps, remove-left}
use Rattle.calling_sessions.proofs.RisingLemmas.{below-remove, rises-remove, unplaced}
use Rattle.calling_sessions.proofs.callers.CallingSessions.leave.Goals as goal

pub invariant_of-self : goal.invariant_of-self
invariant_of-self c =
    let xs = c.self.inside.numbers.items in
    let at = rw (← c.self.view_is) at c.in-Ok.ensures.place in (
      rw c.take_at.ensures.items (rises-remove xs c.in-Ok.place at.0 c.self.invariant.0),
      rw c.take_at.ensures.items
          (below-remove xs c.in-Ok.place at.0 65536 c.self.invariant.1),
      omega (arith, c.take_at.ensures.capacity, c.self.invariant.2),
    )

pub returns-in-Ok-clause-left : goal.returns-in-Ok-clause-left
returns-in-Ok-clause-left c =
    let xs = c.self.inside.numbers.items in
    let at = rw (← c.self.view_is) at c.in-Ok.ensures.place in
    rw c.take_at.ensures.items (λ n h same.
    remove-left xs c.in-Ok.place at.0 c.self.invariant.0 n h (same ∙ sym at.1))

pub returns-in-Ok-clause-others : goal.returns-in-Ok-clause-others
returns-in-Ok-clause-others c =
    let xs = c.self.inside.numbers.items in
    let at = rw (← c.self.view_is) at c.in-Ok.ensures.place in
    rw (← c.self.view_is, c.take_at.ensures.items) (λ n other h.
    remove-keeps xs c.in-Ok.place at.0 n (λ same. other (same ∙ at.1)) h)

pub returns-in-Err-clause-left : goal.returns-in-Err-clause-left
returns-in-Err-clause-left c =
    let xs = c.self.inside.numbers.items in
    let at = rw (← c.self.view_is) at c.in-Err.ensures.place in
    rw (← c.self.view_is) (λ n h same. unplaced xs c.args.session c.in-Err._place at.1 at.2 n h same)

pub returns-in-Ok-clause-alone : goal.returns-in-Ok-clause-alone
returns-in-Ok-clause-alone c =
    let xs = c.self.inside.numbers.items in
    let at = rw (← c.self.view_is) at c.in-Ok.ensures.place in
    rw (← c.self.view_is, c.take_at.ensures.items) (remove-alone xs c.in-Ok.place at.0)
