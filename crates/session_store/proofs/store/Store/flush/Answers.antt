use Rattle.std.proofs.Common.{subst, sym, ap, ◌∙◌}
use Rattle.packet_rings.specs.Rings.{Ring, ring}
use Rattle.session_store.specs.Sides.{Kept, Shown}
use Rattle.std.specs.Prelude.{option_map}
use Rattle.rpc_base.specs.Least.{least, without_least}
use Rattle.rpc_base.specs.declared.owner.Owner.TheVariants.{Ask}
use Rattle.packet_rings.specs.Entries.{is_entry}
use Rattle.session_ends.specs.Joined.{is_owned, queued_number, queued_of, joined, queue_of}
use Rattle.session_store.specs.Joined.{undue, without_due}
use Rattle.session_store.proofs.FlushLemmas.{taken-seen, least-own, number-at}
use Rattle.session_store.proofs.GoneLemmas.{flushed-clients, flushed-kept, flushed-places}
use Rattle.session_store.proofs.GoneLemmas.{gone-held, flushed-handed}
use Rattle.session_store.proofs.UndueLemmas.{flat}
use Rattle.std.specs.Prelude.{map}
use Rattle.rpc_laws.specs.Groups.{live_credits}
use Rattle.session_store.proofs.ShareLemmas.{clients-kept}
use Rattle.session_store.proofs.ChangesLemmas.{changes-queue, servers-released}
use Rattle.std.proofs.Common.{◌≡◌, refl}
use Rattle.packet_rings.specs.Values.{EntryValue}
use Rattle.session_store.proofs.RoomLemmas.{room-stays}
use Rattle.session_store.proofs.store.Store.flush.Goals as goal

pub returns-in_default-clause-taken : goal.returns-in_default-clause-taken
returns-in_default-clause-taken c =
    let s = c.self.inside in
    let number = c.session.ensures ∙ number-at s.pool s.sides.items s.servers.items
    (joined s.queue.tx s.queue.pacer) c.self.invariant.0 (undue c.args.self.now) (flat s.pool s.sides.items
    s.servers.items s.queue.tx s.queue.pacer c.args.self.now c.self.view_is) c.args.i c.index.result.now
    c.requires.known c.index.ensures in
    let h = rw c.in_default.is at c.flush-flushed.ensures in
    rw (← c.self.view_is) (ap (option_map queued_of) h.taken
    ∙ taken-seen (Ask c.session.result c.args.request) s.queue.tx s.queue.pacer
    ∙ ap (λ n. option_map without_due (least (is_owned (Ask n c.args.request)) queued_number
    (queue_of s.queue.tx s.queue.pacer))) number)

pub flushed_at-requires-clause-held : goal.flushed_at-requires-clause-held
flushed_at-requires-clause-held c =
    let s = c.self.inside in
    let number = c.session.ensures ∙ number-at s.pool s.sides.items s.servers.items (joined s.queue.tx s.queue.pacer)
    c.self.invariant.0 (undue c.args.self.now) (flat c.self.inside.pool c.self.inside.sides.items
    c.self.inside.servers.items c.self.inside.queue.tx c.self.inside.queue.pacer c.args.self.now c.self.view_is)
    c.args.i c.index.result.now
    c.requires.known c.index.ensures in
    let h = rw c.in-Some.is at c.flush-flushed.ensures in
    let own = least-own c.session.result c.args.request c.in-Some.entry h.own
    ∙ ap (λ n. Ask n c.args.request) number in
    gone-held s.pool s.pool s.sides.items s.servers.items (joined s.queue.tx s.queue.pacer) c.args.i c.args.request
    c.in-Some.entry (is_entry (Ask c.session.result c.args.request) c.in-Some.entry.number)
    (joined c.flush-flushed.new.self.tx c.flush-flushed.new.self.pacer).items c.self.invariant.0 h.nearest own

pub invariant_of-self-2 : goal.invariant_of-self-2
invariant_of-self-2 c =
    let s = c.self.inside in
    let number = c.session.ensures ∙ number-at s.pool s.sides.items s.servers.items (joined s.queue.tx s.queue.pacer)
    c.self.invariant.0 (undue c.args.self.now) (flat c.self.inside.pool c.self.inside.sides.items
    c.self.inside.servers.items c.self.inside.queue.tx c.self.inside.queue.pacer c.args.self.now c.self.view_is)
    c.args.i c.index.result.now
    c.requires.known c.index.ensures in
    let h = rw c.in-Some.is at c.flush-flushed.ensures in
    let own = least-own c.session.result c.args.request c.in-Some.entry h.own
    ∙ ap (λ n. Ask n c.args.request) number in (
      subst (λ n. Kept c.flushed_at.new.pool c.flushed_at.new.sides.items s.servers.items
          (ring (joined c.flush-flushed.new.self.tx
          c.flush-flushed.new.self.pacer).items n)) (sym (ap (λ r. r.size) h.left))
          (flushed-kept s.pool c.flushed_at.new.pool s.sides.items c.flushed_at.new.sides.items
          s.servers.items (joined s.queue.tx s.queue.pacer) c.args.i c.args.request c.in-Some.entry
          (is_entry (Ask c.session.result c.args.request) c.in-Some.entry.number)
          (joined c.flush-flushed.new.self.tx c.flush-flushed.new.self.pacer).items
          c.self.invariant.0 h.nearest own c.flushed_at.ensures.flushes),
      h.paces,
      clients-kept s.shares s.pool c.flushed_at.new.pool s.sides.items c.flushed_at.new.sides.items
          s.servers.items (ap (map live_credits) (flushed-clients s.pool c.flushed_at.new.pool
          s.sides.items c.flushed_at.new.sides.items s.servers.items (joined s.queue.tx s.queue.pacer) c.args.i
          c.args.request c.in-Some.entry
          (is_entry (Ask c.session.result c.args.request) c.in-Some.entry.number)
          (joined c.flush-flushed.new.self.tx c.flush-flushed.new.self.pacer).items c.self.invariant.0
          h.nearest own c.flushed_at.ensures.flushes)) c.self.invariant.2,
      c.self.invariant.3,
      room-stays (ap (λ (r : Ring EntryValue). r.size) h.left) c.flushed_at.ensures.room
          refl refl c.self.invariant.4,
    )

pub returns-clause-taken : goal.returns-clause-taken
returns-clause-taken c =
    let s = c.self.inside in
    let number = c.session.ensures ∙ number-at s.pool s.sides.items s.servers.items
    (joined s.queue.tx s.queue.pacer) c.self.invariant.0 (undue c.args.self.now) (flat s.pool s.sides.items
    s.servers.items s.queue.tx s.queue.pacer c.args.self.now c.self.view_is) c.args.i c.index.result.now
    c.requires.known c.index.ensures in
    let h = rw c.in-Some.is at c.flush-flushed.ensures in
    rw (← c.self.view_is) (ap (option_map queued_of) h.taken
    ∙ taken-seen (Ask c.session.result c.args.request) s.queue.tx s.queue.pacer
    ∙ ap (λ n. option_map without_due (least (is_owned (Ask n c.args.request)) queued_number
    (queue_of s.queue.tx s.queue.pacer))) number)

pub invariant_of-self : goal.invariant_of-self
invariant_of-self c =
    let u = rw c.in_default.is at c.flush-flushed.ensures.unchanged in
    rw (u.0, u.1) c.self.invariant

pub returns-in_default-clause-left : goal.returns-in_default-clause-left
returns-in_default-clause-left c =
    let s = c.self.inside in
    let number = c.session.ensures ∙ number-at s.pool s.sides.items s.servers.items
    (joined s.queue.tx s.queue.pacer) c.self.invariant.0 (undue c.args.self.now) (flat s.pool s.sides.items
    s.servers.items s.queue.tx s.queue.pacer c.args.self.now c.self.view_is) c.args.i c.index.result.now
    c.requires.known c.index.ensures in
    let h = rw c.in_default.is at c.flush-flushed.ensures in
    let still = rw c.in_default.is at c.flush-flushed.ensures.unchanged in
    changes-queue s.pool s.pool s.sides.items s.sides.items s.servers.items s.servers.items s.queue.tx
    c.flush-flushed.new.self.tx s.queue.pacer c.flush-flushed.new.self.pacer c.args.self.now c.self.view_is
    (λ xs ys. ys ≡ xs) (ap (λ (v : Shown). v.clients) c.self.view_is) refl refl
    (without_least (is_owned (Ask c.args.i c.args.request))
    queued_number) refl (h.queue ∙ ap (λ n. without_least (is_owned (Ask n c.args.request)) queued_number
    (queue_of s.queue.tx s.queue.pacer)) number)
    (ap (λ (r : Ring EntryValue). r.size) still.0)

pub returns-clause-left : goal.returns-clause-left
returns-clause-left c =
    let s = c.self.inside in
    let number = c.session.ensures ∙ number-at s.pool s.sides.items s.servers.items
    (joined s.queue.tx s.queue.pacer) c.self.invariant.0 (undue c.args.self.now) (flat s.pool s.sides.items
    s.servers.items s.queue.tx s.queue.pacer c.args.self.now c.self.view_is) c.args.i c.index.result.now
    c.requires.known c.index.ensures in
    let h = rw c.in-Some.is at c.flush-flushed.ensures in
    let own = least-own c.session.result c.args.request c.in-Some.entry h.own
    ∙ ap (λ n. Ask n c.args.request) number in
    changes-queue s.pool c.flushed_at.new.pool s.sides.items c.flushed_at.new.sides.items
    s.servers.items s.servers.items s.queue.tx c.flush-flushed.new.self.tx s.queue.pacer
    c.flush-flushed.new.self.pacer c.args.self.now c.self.view_is (λ xs ys. ys ≡ xs)
    (flushed-clients s.pool c.flushed_at.new.pool s.sides.items
    c.flushed_at.new.sides.items s.servers.items (joined s.queue.tx s.queue.pacer) c.args.i c.args.request
    c.in-Some.entry (is_entry (Ask c.session.result c.args.request) c.in-Some.entry.number)
    (joined c.flush-flushed.new.self.tx c.flush-flushed.new.self.pacer).items c.self.invariant.0
    h.nearest own c.flushed_at.ensures.flushes ∙ ap (λ (v : Shown). v.clients) c.self.view_is)
    (rw c.flushed_at.ensures.flushes.step.leaves.pool (servers-released s.pool s.servers.items
    c.in-Some.entry.place)) (flushed-places s.pool c.flushed_at.new.pool s.sides.items
    c.flushed_at.new.sides.items s.servers.items (joined s.queue.tx s.queue.pacer) c.args.i c.args.request
    c.in-Some.entry (is_entry (Ask c.session.result c.args.request) c.in-Some.entry.number)
    (joined c.flush-flushed.new.self.tx c.flush-flushed.new.self.pacer).items c.self.invariant.0
    h.nearest own c.flushed_at.ensures.flushes)
    (without_least (is_owned (Ask c.args.i c.args.request))
    queued_number)
    (flushed-handed s.pool c.flushed_at.new.pool s.sides.items
    c.flushed_at.new.sides.items s.servers.items (joined s.queue.tx s.queue.pacer) c.args.i c.args.request
    c.in-Some.entry (is_entry (Ask c.session.result c.args.request) c.in-Some.entry.number)
    (joined c.flush-flushed.new.self.tx c.flush-flushed.new.self.pacer).items c.self.invariant.0
    h.nearest own c.flushed_at.ensures.flushes)
    (h.queue ∙ ap (λ n. without_least (is_owned (Ask n c.args.request)) queued_number
    (queue_of s.queue.tx s.queue.pacer)) number)
    (ap (λ r. r.size) h.left)
