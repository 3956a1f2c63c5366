use Rattle.std.proofs.Common.{refl, ap}
use Rattle.packet_rings.specs.contracts.entry.Entry.{the_view as entry_view}
use Rattle.client_core.specs.KeepsPool.{released_at}
use Rattle.client_core.specs.Posting.{is_owner, one_left}
use Rattle.client_core.specs.contracts.session.ClientSession.{the_view}
use Rattle.client_core.proofs.OthersLemmas.{gone-leaves, leaving-keeps, stays}
use Rattle.client_core.proofs.PoolLemmas.{keeps-left, keeps-released}
use Rattle.client_core.proofs.SentLemmas.{left-shown}
use Rattle.client_core.proofs.SessionLemmas.{left-session}
use Rattle.client_core.proofs.QueuedLemmas.{left-queued}
use Rattle.client_core.proofs.HandingLemmas.{handed-released}
use Rattle.client_core.proofs.session.ClientSession.flushed.Goals as goal
use Rattle.buffer_pool.proofs.CountingLemmas.{counts-released}

pub invariant_of-self : goal.invariant_of-self
invariant_of-self c =
    rw c.leave.ensures (
      c.self.invariant.0,
      left-session _
          (is_owner c.self.inside.number c.entry.inside.owner) c.self.invariant.1,
    )

pub returns : goal.returns
returns c = record {
  session = rw (← c.self.view_is, ← c.entry.view_is, c.leave.ensures) refl;
  same = λ peer.
      rw (← c.self.view_is, c.release_at.ensures, c.leave.ensures)
      (left-shown c.args.pool.now peer c.entry.inside.place (the_view c.self.inside)
      (is_owner c.self.inside.number c.entry.inside.owner));
  leaves = record {
    pool = rw (c.release_at.ensures, ap (λ e. released_at e.place c.args.pool.now) c.entry.view_is) refl;
    handed = rw (← c.self.view_is, c.release_at.ensures, c.leave.ensures)
        (handed-released c.args.pool.now (is_owner c.self.inside.number c.entry.inside.owner)
        one_left (λ x. refl) c.self.inside.calls c.self.inside.slots.waiting c.entry.inside.place);
    others = rw (← c.self.view_is, ← c.entry.view_is, c.release_at.ensures, c.leave.ensures)
        (gone-leaves c.args.pool.now (the_view c.self.inside) (entry_view c.entry.inside)
        (is_owner c.self.inside.number c.entry.inside.owner) one_left (λ p x. refl));
    entries = rw (← c.self.view_is, c.leave.ensures)
        (λ e was. stays c.self.inside.number (is_owner c.self.inside.number c.entry.inside.owner)
        one_left leaving-keeps e c.self.inside.calls was);
    counts = λ passes old new out counts.
        rw (c.release_at.ensures, ap (λ e. released_at e.place c.args.pool.now) c.entry.view_is)
        (counts-released c.args.pool.now old counts passes c.args.entry.now new out c.requires.held);
    queued = λ posted passes old new out all.
        let before = rw (← c.self.view_is) at all in
        let stands = rw (← c.self.view_is, ← c.entry.view_is) at posted in
        let taken = rw (← c.entry.view_is) at out in
        rw c.leave.ensures (left-queued (the_view c.self.inside)
        (entry_view c.entry.inside) one_left passes old new c.self.invariant.1 taken (λ x. refl)
        (λ x. refl) stands before);
    keeps_pool = let keeps = rw (← c.self.view_is) at c.requires.keeps_pool in
        rw (c.release_at.ensures, ap (λ e. released_at e.place c.args.pool.now) c.entry.view_is, c.leave.ensures)
        (keeps-left _ (is_owner c.self.inside.number c.entry.inside.owner) c.self.inside.calls
        (keeps-released c.args.pool.now c.args.entry.now.place c.self.inside.calls c.requires.held
        keeps));
  };
}
