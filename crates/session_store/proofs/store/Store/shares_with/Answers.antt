use Rattle.std.proofs.Common.{arith, refl}
use Rattle.session_store.proofs.ShareLemmas.{shares-few}
use Rattle.session_store.proofs.store.Store.shares_with.Goals as goal

pub overflow_add-result : goal.overflow_add-result
overflow_add-result c =
    let s = c.self.inside in
    omega (
      arith,
      c.requires.most,
      c.from.ensures,
      shares-few s.shares s.pool s.sides.items s.servers.items s.queue.tx s.queue.pacer c.args.self.now
          c.self.view_is c.self.invariant.2 c.few.ensures.clients c.few.ensures.servers,
    )

pub returns : goal.returns
returns c = rw (← c.self.view_is, c.self.invariant.2.all, c.from.ensures) refl
