use Rattle.std.proofs.Common.{ap}
use Rattle.std.proofs.Common.{refl}
use Rattle.packet_rings.specs.contracts.entry.Entry.{the_view as entry_view}
use Rattle.client_core.specs.KeepsPool.{released_at}
use Rattle.client_core.specs.contracts.session.ClientSession.{the_view}
use Rattle.client_core.specs.Posting.{is_owner}
use Rattle.client_core.proofs.PoolLemmas.{keeps-marked, keeps-released}
use Rattle.client_core.proofs.SessionLemmas.{marked-session}
use Rattle.client_core.proofs.SentLemmas.{sent-step}
use Rattle.client_core.proofs.OthersLemmas.{gone-leaves, marked-own, marking-keeps, stays}
use Rattle.client_core.specs.Posting.{marked}
use Rattle.client_core.proofs.QueuedLemmas.{left-queued, marked-less, marked-request}
use Rattle.client_core.proofs.HandingLemmas.{handed-released, marked-handed}
use Rattle.client_core.proofs.session.ClientSession.sent.Goals as goal
use Rattle.buffer_pool.proofs.CountingLemmas.{counts-released}

pub invariant_of-self : goal.invariant_of-self
invariant_of-self c = rw c.mark.ensures (c.self.invariant.0, marked-session _ _ _ _ c.self.invariant.1)

pub returns : goal.returns
returns c = record {
  session = rw (← c.self.view_is, ← c.entry.view_is, c.mark.ensures) refl;
  step = λ peer.
      rw (← c.self.view_is, ← c.entry.view_is, c.release_at.ensures, c.mark.ensures)
      (sent-step c.args.pool.now peer c.args.now c.entry.inside.place (the_view c.self.inside)
      (entry_view c.entry.inside));
  leaves = record {
    pool = rw (c.release_at.ensures, ap (λ e. released_at e.place c.args.pool.now) c.entry.view_is) refl;
    handed = rw (← c.self.view_is, c.release_at.ensures, c.mark.ensures)
        (handed-released c.args.pool.now (is_owner c.self.inside.number c.entry.inside.owner)
        (marked c.entry.inside.number c.args.now)
        (λ x. marked-handed c.args.pool.now c.entry.inside.number c.args.now x)
        c.self.inside.calls c.self.inside.slots.waiting c.entry.inside.place);
    others = rw (← c.self.view_is, ← c.entry.view_is, c.release_at.ensures, c.mark.ensures)
        (gone-leaves c.args.pool.now (the_view c.self.inside) (entry_view c.entry.inside)
        (is_owner c.self.inside.number c.entry.inside.owner)
        (marked c.entry.inside.number c.args.now)
        (λ p x. marked-own p c.entry.inside.number c.args.now x));
    entries = rw (← c.self.view_is, c.mark.ensures)
        (λ e was. stays c.self.inside.number (is_owner c.self.inside.number c.entry.inside.owner)
        (marked c.entry.inside.number c.args.now)
        (marking-keeps c.entry.inside.number c.args.now) e c.self.inside.calls was);
    counts = λ passes old new out counts.
        rw (c.release_at.ensures, ap (λ e. released_at e.place c.args.pool.now) c.entry.view_is)
        (counts-released c.args.pool.now old counts passes c.args.entry.now new out c.requires.held);
    queued = λ posted passes old new out all.
        let before = rw (← c.self.view_is) at all in
        let stands = rw (← c.self.view_is, ← c.entry.view_is) at posted in
        let taken = rw (← c.entry.view_is) at out in
        let number = c.entry.inside.number in
        rw c.mark.ensures (left-queued (the_view c.self.inside) (entry_view c.entry.inside)
        (marked number c.args.now) passes old new c.self.invariant.1 taken
        (marked-request number c.args.now) (marked-less number c.args.now) stands before);
    keeps_pool = let keeps = rw (← c.self.view_is) at c.requires.keeps_pool in
        rw (c.release_at.ensures, ap (λ e. released_at e.place c.args.pool.now) c.entry.view_is, c.mark.ensures)
        (keeps-marked _ (is_owner c.self.inside.number c.entry.inside.owner) c.entry.inside.number
        c.args.now c.self.inside.calls (keeps-released c.args.pool.now c.args.entry.now.place
        c.self.inside.calls c.requires.held keeps));
  };
}
