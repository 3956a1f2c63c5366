use Rattle.std.proofs.Common.{ap, sym, ◌∙◌, arith}
use Rattle.std.specs.Option.{option_copied}
use Rattle.session_store.proofs.ShareLemmas.{few-servers}
use Rattle.session_store.proofs.store.Store.few.Goals as goal

pub returns-in-Some-clause-servers : goal.returns-in-Some-clause-servers
returns-in-Some-clause-servers c =
    let s = c.self.inside in
    few-servers s.pool s.sides.items s.servers.items s.queue.tx s.queue.pacer c.args.self.now c.self.view_is
    c.self.invariant.0.rises c.in-Some.last.now
    (rw c.deref.ensures.value at (sym c.last.ensures.value ∙ ap option_copied c.in-Some.is))
    (let fits = c.session-number.type_inv in omega (arith, fits, c.session-number.ensures))
