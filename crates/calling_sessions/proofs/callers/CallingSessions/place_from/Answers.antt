use Rattle.std.proofs.Common.{arith}
use Rattle.calling_sessions.proofs.RisingLemmas.{found-order}
use Rattle.calling_sessions.proofs.callers.CallingSessions.place_from.Goals as goal

pub returns-in-Ok : goal.returns-in-Ok
returns-in-Ok c =
    let at = c.in-Ok.ensures.place in
    let order = found-order c.args.self.now c.args.from c.in-Ok.place c.search.ensures.rises at.0 at.1 in
    record { below = order.0; above = order.1 }

pub returns-in-Err : goal.returns-in-Err
returns-in-Err c =
    let at = c.in-Err.ensures.place in
    record {
      below = at.1;
      above = λ k more within. (let h = at.2 k more within in omega (arith, h));
    }
