use Rattle.std.proofs.Common.{◌-◌, refl, ap, ◌∙◌}
use Rattle.packet_rings.specs.contracts.entry.Entry.{the_view as entry_view}
use Rattle.server_core.specs.contracts.session.ServerSession.{the_view}
use Rattle.server_core.specs.Counting.{left_at}
use Rattle.server_core.specs.Replies.{is_owner, released_at}
use Rattle.server_core.proofs.FlushLemmas.{shown-released}
use Rattle.server_core.proofs.HoldBeginLemmas.{sent-holds}
use Rattle.server_core.proofs.PoolLemmas.{keeps-released}
use Rattle.server_core.proofs.QueuedLemmas.{left-counted}
use Rattle.server_core.proofs.RecountLemmas.{less-turn, recount-holds, recount-keeps}
use Rattle.server_core.proofs.RecountLemmas.{recount-served, recount-session, recount-shown}
use Rattle.server_core.proofs.session.ServerSession.sent.Goals as goal
use Rattle.buffer_pool.proofs.CountingLemmas.{counts-released}

pub invariant_of-self : goal.invariant_of-self
invariant_of-self c =
    rw c.leave.ensures (recount-session (λ n. n - 1)
    (is_owner c.self.inside.number c.entry.inside.owner)
    (the_view c.self.inside) c.self.invariant (λ q found turn. less-turn q turn))

pub returns : goal.returns
returns c =
    let s = the_view c.self.inside in
    let e = c.args.entry.now in
    let test = is_owner c.self.inside.number c.entry.inside.owner in
    let pool = c.args.pool.now in
    let after = released_at e.place pool in
    let keeps = rw (← c.self.view_is) at c.requires.keeps_pool in
    rw (
      c.release_at.ensures,
      ap (λ x. released_at x.place pool) c.entry.view_is,
      c.leave.ensures,
      ← c.self.view_is,
    )
    (record {
      session = ap (λ x. left_at x s) c.entry.view_is;
      same = shown-released pool e.place _ ∙ recount-shown (λ n. n - 1) test s pool;
      pool = refl;
      holds = λ posted passes old new out holds. recount-holds (λ n. n - 1) test s after new
          (sent-holds pool s c.self.invariant keeps passes e old new out holds posted);
      queued = λ posted passes old new out counted.
          let taken = rw (← c.entry.view_is) at out in
          let stands = rw (← c.entry.view_is) at posted in
          left-counted s (entry_view c.entry.inside) c.self.invariant passes old new taken counted
          stands;
      served = λ mode_of all. recount-served (λ n. n - 1) test s mode_of all;
      counts = λ passes old new out counts.
          counts-released pool old counts passes e new out c.requires.held;
      keeps_pool = recount-keeps (λ n. n - 1) test s after
          (keeps-released pool e.place s.slots c.requires.held keeps);
    })
