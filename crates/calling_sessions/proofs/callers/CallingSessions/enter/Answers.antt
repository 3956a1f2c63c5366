use Rattle.std.proofs.Common.{arith, length, ◌<◌}
use Rattle.calling_sessions.proofs.RisingLemmas.{has-room, insert-alone, insert-keeps}
use Rattle.calling_sessions.proofs.RisingLemmas.{below-insert, rises-insert}
use Rattle.calling_sessions.proofs.callers.CallingSessions.enter.Goals as goal

pub put_at-requires-clause-room : goal.put_at-requires-clause-room
put_at-requires-clause-room c =
    let xs = c.self.inside.numbers.items in
    let at = rw (← c.self.view_is) at c.in-Err.ensures.place in
    let room : length xs < 65536 = has-room xs c.in-Err.place c.args.session 65536
    c.self.invariant.0 at.0 at.1 at.2 c.self.invariant.1 (omega (arith, c.ranges.session.fits)) in
    omega (arith, room, c.self.invariant.2)

pub invariant_of-self : goal.invariant_of-self
invariant_of-self c =
    let xs = c.self.inside.numbers.items in
    let at = rw (← c.self.view_is) at c.in-Err.ensures.place in (
      rw c.put_at.ensures.items
          (rises-insert xs c.in-Err.place c.args.session at.0 c.self.invariant.0 at.1 at.2),
      rw c.put_at.ensures.items (below-insert xs c.in-Err.place c.args.session at.0 65536
          c.self.invariant.1 (omega (arith, c.ranges.session.fits))),
      omega (arith, c.put_at.ensures.capacity, c.self.invariant.2),
    )

pub returns-clause-others : goal.returns-clause-others
returns-clause-others c =
    let xs = c.self.inside.numbers.items in
    let at = rw (← c.self.view_is) at c.in-Err.ensures.place in
    rw (← c.self.view_is, c.put_at.ensures.items)
    (insert-keeps xs c.in-Err.place c.args.session at.0)

pub returns-clause-alone : goal.returns-clause-alone
returns-clause-alone c =
    let xs = c.self.inside.numbers.items in
    let at = rw (← c.self.view_is) at c.in-Err.ensures.place in
    rw (← c.self.view_is, c.put_at.ensures.items)
    (insert-alone xs c.in-Err.place c.args.session at.0)
