use Rattle.std.proofs.Common.{arith}
use Rattle.session_ends.proofs.JoinLemmas.{joined-length}
use Rattle.session_store.proofs.UndueLemmas.{queue-length}
use Rattle.session_store.proofs.store.Store.queued.Goals as goal

pub overflow_add-result : goal.overflow_add-result
overflow_add-result c =
    let s = c.self.inside in
    omega (
      arith,
      c.len.ensures.len,
      c.len-2.ensures.len,
      joined-length s.queue.tx s.queue.pacer,
      c.self.invariant.0.within,
      c.self.invariant.0.few,
    )

pub returns : goal.returns
returns c =
    let s = c.self.inside in
    rw (← c.self.view_is) (omega (
      arith,
      c.len.ensures.len,
      c.len-2.ensures.len,
      queue-length s.queue.tx s.queue.pacer,
    ))
