use Rattle.std.proofs.Common.{◌%◌, arith}
use Rattle.server_core.specs.contracts.session.ServerSession.{the_view}
use Rattle.server_core.proofs.AgainLemmas.{again-fits, again-full, again-puts}
use Rattle.server_core.proofs.AgainLemmas.{again-session, again-unheld}
use Rattle.server_core.proofs.SlotLemmas.{few-left}
use Rattle.server_core.proofs.session.ServerSession.begin_again.Goals as goal

pub get_mut-requires-clause-full : goal.get_mut-requires-clause-full
get_mut-requires-clause-full c =
    again-full c.args.pool.now c.args.self.now c.args.head.now c.args.size c.args.place
    c.requires.reusable c.requires.begins.whole.begins.keeps_pool

pub get_mut-requires-clause-free : goal.get_mut-requires-clause-free
get_mut-requires-clause-free c =
    again-unheld c.args.pool.now c.args.self.now c.args.head.now c.args.size c.args.place
    c.requires.reusable c.requires.begins.whole.begins.keeps_pool
    (rw c.requires.reusable.newest_is at c.requires.begins.whole.begins.unheld)

pub set_len-requires : goal.set_len-requires
set_len-requires c =
    again-fits c.args.pool.now c.args.self.now c.args.head.now c.args.size c.args.place
    c.get_mut.result.now c.requires.reusable c.requires.begins c.requires.short
    c.get_mut.ensures.buffer

pub begin_again-requires-clause-few : goal.begin_again-requires-clause-few
begin_again-requires-clause-few c = rw c.answered.ensures
    (few-left (the_view c.self.inside) c.self.invariant (c.args.head.now.request % 8) (omega arith))

pub begin_again-requires-clause-apart : goal.begin_again-requires-clause-apart
begin_again-requires-clause-apart c =
    rw c.answered.ensures (c.self.invariant.apart (c.args.head.now.request % 8))

pub begin_again-requires-clause-older : goal.begin_again-requires-clause-older
begin_again-requires-clause-older c =
    let reusable = rw (← c.self.view_is) at c.requires.reusable in
    rw (c.answered.ensures, reusable.newest_is, reusable.answer_is) reusable.own

pub invariant_of-self : goal.invariant_of-self
invariant_of-self c =
    let begins = rw (← c.self.view_is) at c.requires.begins in
    let reusable = rw (← c.self.view_is) at c.requires.reusable in
    rw (c.begin_again.ensures, c.answered.ensures) (again-session c.args.pool.now
    (the_view c.self.inside) c.args.head.now c.args.size c.args.place c.get_mut.result.now
    reusable begins c.requires.short c.get_mut.ensures.buffer)

pub returns : goal.returns
returns c =
    let begins = rw (← c.self.view_is) at c.requires.begins in
    let reusable = rw (← c.self.view_is) at c.requires.reusable in
    rw (c.begin_again.ensures, c.answered.ensures, c.set_len.ensures, ← c.self.view_is) (again-puts
    c.args.pool.now (the_view c.self.inside) c.args.head.now c.args.size c.args.place
    c.get_mut.result.now reusable begins c.requires.short c.get_mut.ensures.buffer)
