use Rattle.std.proofs.Common.{subst, sym, ap, ◌∙◌}
use Rattle.packet_rings.specs.Rings.{Ring, ring}
use Rattle.session_store.specs.Sides.{Kept, Shown}
use Rattle.std.specs.Prelude.{option_map}
use Rattle.rpc_base.specs.declared.owner.Owner.TheVariants.{Reply}
use Rattle.packet_rings.specs.Entries.{is_entry}
use Rattle.session_ends.specs.Joined.{queued_of, joined, is_owned, queued_number}
use Rattle.session_store.proofs.FlushLemmas.{taken-seen, least-reply}
use Rattle.session_store.proofs.ReplyGoneLemmas.{reply-clients, reply-held, reply-kept}
use Rattle.session_store.proofs.ReplyGoneLemmas.{reply-places, reply-servers, reply-there}
use Rattle.session_store.proofs.ReplyGoneLemmas.{reply-handed}
use Rattle.session_store.proofs.ShareLemmas.{gone-kept, servers-kept}
use Rattle.session_store.proofs.WayLemmas.{ends-kept, gone-ways}
use Rattle.session_store.proofs.ChangesLemmas.{changes-queue}
use Rattle.std.proofs.Common.{◌≡◌, refl}
use Rattle.packet_rings.specs.Values.{EntryValue}
use Rattle.rpc_base.specs.Least.{without_least}
use Rattle.session_store.proofs.RoomLemmas.{room-stays}
use Rattle.session_store.proofs.store.Store.flush_reply.Goals as goal

pub returns-in_default-clause-taken : goal.returns-in_default-clause-taken
returns-in_default-clause-taken c =
    let s = c.self.inside in
    let h = rw c.in_default.is at c.flush-flushed.ensures in
    rw (← c.self.view_is) (ap (option_map queued_of) h.taken
    ∙ taken-seen (Reply c.args.session c.args.request) s.queue.tx s.queue.pacer)

pub reply_flushed_at-requires-clause-there : goal.reply_flushed_at-requires-clause-there
reply_flushed_at-requires-clause-there c =
    let s = c.self.inside in
    let h = rw c.in-Some.is at c.flush-flushed.ensures in
    let own = least-reply c.args.session c.args.request c.in-Some.entry h.own in
    record {
      rises = c.self.invariant.0.rises;
      keeps = c.self.invariant.0.serves;
      stands = reply-there s.pool s.pool s.sides.items s.servers.items s.servers.items (joined s.queue.tx s.queue.pacer) c.args.session
          c.args.request c.in-Some.entry (is_entry (Reply c.args.session c.args.request)
          c.in-Some.entry.number) (joined c.flush-flushed.new.self.tx c.flush-flushed.new.self.pacer).items
          c.self.invariant.0 h.nearest own;
    }

pub reply_flushed_at-requires-clause-held : goal.reply_flushed_at-requires-clause-held
reply_flushed_at-requires-clause-held c =
    let s = c.self.inside in
    let h = rw c.in-Some.is at c.flush-flushed.ensures in
    let own = least-reply c.args.session c.args.request c.in-Some.entry h.own in
    reply-held s.pool s.pool s.sides.items s.servers.items s.servers.items (joined s.queue.tx s.queue.pacer) c.args.session
    c.args.request c.in-Some.entry (is_entry (Reply c.args.session c.args.request)
    c.in-Some.entry.number) (joined c.flush-flushed.new.self.tx c.flush-flushed.new.self.pacer).items
    c.self.invariant.0 h.nearest own

pub invariant_of-self-2 : goal.invariant_of-self-2
invariant_of-self-2 c =
    let s = c.self.inside in
    let h = rw c.in-Some.is at c.flush-flushed.ensures in
    let own = least-reply c.args.session c.args.request c.in-Some.entry h.own in (
      subst (λ n. Kept c.reply_flushed_at.new.pool s.sides.items
          c.reply_flushed_at.new.servers.items (ring (joined c.flush-flushed.new.self.tx
          c.flush-flushed.new.self.pacer).items n)) (sym (ap (λ r. r.size) h.left))
          (reply-kept s.pool c.reply_flushed_at.new.pool s.sides.items s.servers.items
          c.reply_flushed_at.new.servers.items (joined s.queue.tx s.queue.pacer) c.args.session c.args.request c.in-Some.entry
          (is_entry (Reply c.args.session c.args.request) c.in-Some.entry.number)
          (joined c.flush-flushed.new.self.tx c.flush-flushed.new.self.pacer).items
          c.self.invariant.0 h.nearest own c.reply_flushed_at.ensures.gone),
      h.paces,
      servers-kept s.shares s.pool c.reply_flushed_at.new.pool s.sides.items s.servers.items
          c.reply_flushed_at.new.servers.items (gone-kept c.args.session c.in-Some.entry
          s.servers.items c.reply_flushed_at.new.servers.items s.pool c.reply_flushed_at.new.pool
          c.reply_flushed_at.ensures.gone) c.self.invariant.2,
      ends-kept s.ends.items s.servers.items c.reply_flushed_at.new.servers.items
          (gone-ways c.args.session c.in-Some.entry s.servers.items
          c.reply_flushed_at.new.servers.items s.pool c.reply_flushed_at.new.pool
          c.reply_flushed_at.ensures.gone) c.self.invariant.3,
      room-stays (ap (λ (r : Ring EntryValue). r.size) h.left) refl
          c.reply_flushed_at.ensures.room refl c.self.invariant.4,
    )

pub returns-clause-taken : goal.returns-clause-taken
returns-clause-taken c =
    let s = c.self.inside in
    let h = rw c.in-Some.is at c.flush-flushed.ensures in
    rw (← c.self.view_is) (ap (option_map queued_of) h.taken
    ∙ taken-seen (Reply c.args.session c.args.request) s.queue.tx s.queue.pacer)

pub invariant_of-self : goal.invariant_of-self
invariant_of-self c =
    let u = rw c.in_default.is at c.flush-flushed.ensures.unchanged in
    rw (u.0, u.1) c.self.invariant

pub returns-in_default-clause-left : goal.returns-in_default-clause-left
returns-in_default-clause-left c =
    let s = c.self.inside in
    let still = rw c.in_default.is at c.flush-flushed.ensures.unchanged in
    changes-queue s.pool s.pool s.sides.items s.sides.items s.servers.items s.servers.items s.queue.tx
    c.flush-flushed.new.self.tx s.queue.pacer c.flush-flushed.new.self.pacer c.args.self.now c.self.view_is
    (λ xs ys. ys ≡ xs) (ap (λ (v : Shown). v.clients) c.self.view_is) refl refl (without_least
    (is_owned (Reply c.args.session c.args.request)) queued_number) refl
    c.flush-flushed.ensures.queue (ap (λ (r : Ring EntryValue). r.size) still.0)

pub returns-clause-left : goal.returns-clause-left
returns-clause-left c =
    let s = c.self.inside in
    let h = rw c.in-Some.is at c.flush-flushed.ensures in
    let own = least-reply c.args.session c.args.request c.in-Some.entry h.own in
    changes-queue s.pool c.reply_flushed_at.new.pool s.sides.items s.sides.items
    s.servers.items c.reply_flushed_at.new.servers.items s.queue.tx c.flush-flushed.new.self.tx s.queue.pacer
    c.flush-flushed.new.self.pacer c.args.self.now c.self.view_is (λ xs ys. ys ≡ xs)
    (reply-clients s.pool c.reply_flushed_at.new.pool s.sides.items
    s.servers.items c.reply_flushed_at.new.servers.items (joined s.queue.tx s.queue.pacer) c.args.session
    c.args.request c.in-Some.entry (is_entry (Reply c.args.session c.args.request)
    c.in-Some.entry.number) (joined c.flush-flushed.new.self.tx c.flush-flushed.new.self.pacer).items
    c.self.invariant.0 h.nearest own c.reply_flushed_at.ensures.gone
    ∙ ap (λ (v : Shown). v.clients) c.self.view_is)
    (reply-servers s.pool c.reply_flushed_at.new.pool s.sides.items
    s.servers.items c.reply_flushed_at.new.servers.items (joined s.queue.tx s.queue.pacer) c.args.session
    c.args.request c.in-Some.entry (is_entry (Reply c.args.session c.args.request)
    c.in-Some.entry.number) (joined c.flush-flushed.new.self.tx c.flush-flushed.new.self.pacer).items
    c.self.invariant.0 h.nearest own c.reply_flushed_at.ensures.gone)
    (reply-places s.pool c.reply_flushed_at.new.pool s.sides.items
    s.servers.items c.reply_flushed_at.new.servers.items (joined s.queue.tx s.queue.pacer) c.args.session
    c.args.request c.in-Some.entry (is_entry (Reply c.args.session c.args.request)
    c.in-Some.entry.number) (joined c.flush-flushed.new.self.tx c.flush-flushed.new.self.pacer).items
    c.self.invariant.0 h.nearest own c.reply_flushed_at.ensures.gone) (without_least
    (is_owned (Reply c.args.session c.args.request)) queued_number)
    (reply-handed s.pool c.reply_flushed_at.new.pool s.sides.items
    s.servers.items c.reply_flushed_at.new.servers.items (joined s.queue.tx s.queue.pacer) c.args.session
    c.args.request c.in-Some.entry (is_entry (Reply c.args.session c.args.request)
    c.in-Some.entry.number) (joined c.flush-flushed.new.self.tx c.flush-flushed.new.self.pacer).items
    c.self.invariant.0 h.nearest own c.reply_flushed_at.ensures.gone) h.queue
    (ap (λ r. r.size) h.left)
