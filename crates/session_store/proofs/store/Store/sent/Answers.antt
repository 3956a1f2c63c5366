use Rattle.std.proofs.Common.{◌≡◌, false, drop, refl, sym, ap, ◌∙◌}
use Rattle.rpc_base.specs.declared.owner.Owner.TheVariants.{Ask, Reply}
use Rattle.packet_rings.specs.Values.{EntryValue}
use Rattle.std.specs.Prelude.{map}
use Rattle.session_store.specs.Queue.{clients_sent, SendsFront}
use Rattle.session_store.specs.Sides.{shown_side}
use Rattle.session_ends.specs.Joined.{joined}
use Rattle.session_store.specs.Joined.{undue}
use Rattle.session_store.proofs.FrontLemmas.{sends-seen}
use Rattle.session_store.proofs.GoneLemmas.{sent-clients, sent-kept, sent-places, sent-handed}
use Rattle.session_store.proofs.ReplyGoneLemmas.{end-reply, reply-clients, reply-kept, reply-places}
use Rattle.session_store.proofs.ReplyGoneLemmas.{reply-servers, reply-handed}
use Rattle.session_store.proofs.StandLemmas.{front-taken}
use Rattle.session_store.proofs.UndueLemmas.{flat, sends-undue}
use Rattle.rpc_laws.specs.Groups.{live_credits}
use Rattle.session_store.proofs.ShareLemmas.{clients-kept, gone-kept, sends-kept, servers-kept}
use Rattle.session_store.proofs.WayLemmas.{ends-kept, gone-ways}
use Rattle.session_store.proofs.ChangesLemmas.{changes-queue, servers-released}
use Rattle.packet_rings.specs.Rings.{Ring}
use Rattle.session_store.proofs.RoomLemmas.{room-stays}
use Rattle.session_store.proofs.store.Store.sent.Goals as goal

pub invariant_of-self : goal.invariant_of-self
invariant_of-self c =
    let s = c.self.inside in
    let front = sym c.pop.ensures.front ∙ c.in-Some.is in
    let own : c.in-Some.entry.owner ≡ Ask c.from.result c.in-Ask.request =
    sym (ap (λ (e : EntryValue). e.owner) c.entry.view_is) ∙ c.in-Ask.is
    ∙ ap (λ n. Ask n c.in-Ask.request) (sym (c.from.ensures ∙ c.session.view_is)) in (
      rw c.pop.ensures.rest (sent-kept s.pool c.sent_at.new.pool s.sides.items
          c.sent_at.new.sides.items s.servers.items (joined s.queue.tx s.queue.pacer) c.from.result c.in-Ask.request
          c.in-Some.entry (λ d. false) (drop 1 (joined s.queue.tx s.queue.pacer).items) c.self.invariant.0
          (front-taken (joined s.queue.tx s.queue.pacer).items c.in-Some.entry front) own
          c.args.now c.sent_at.ensures.sends),
      c.pop.ensures.paces,
      clients-kept s.shares s.pool c.sent_at.new.pool s.sides.items c.sent_at.new.sides.items
          s.servers.items (ap (map live_credits) (sent-clients s.pool c.sent_at.new.pool
          s.sides.items c.sent_at.new.sides.items s.servers.items (joined s.queue.tx s.queue.pacer)
          c.from.result c.in-Ask.request c.in-Some.entry (λ d. false)
          (drop 1 (joined s.queue.tx s.queue.pacer).items) c.self.invariant.0
          (front-taken (joined s.queue.tx s.queue.pacer).items c.in-Some.entry front) own c.args.now
          c.sent_at.ensures.sends) ∙ sends-kept c.args.now (Ask c.from.result c.in-Ask.request)
          c.in-Some.entry.number (map (shown_side s.pool) s.sides.items)) c.self.invariant.2,
      c.self.invariant.3,
      room-stays (ap (λ (r : Ring EntryValue). r.size) c.pop.ensures.rest)
          c.sent_at.ensures.room refl refl c.self.invariant.4,
    )

pub reply_sent_at-requires-clause-there : goal.reply_sent_at-requires-clause-there
reply_sent_at-requires-clause-there c =
    let s = c.self.inside in
    let front = sym c.pop.ensures.front ∙ c.in-Some.is in
    let own : c.in-Some.entry.owner ≡ Reply c.in-Reply.session c.in-Reply.request =
    sym (ap (λ (e : EntryValue). e.owner) c.entry.view_is) ∙ c.in-Reply.is in
    record {
      rises = c.self.invariant.0.rises;
      keeps = c.self.invariant.0.serves;
      stands = end-reply s.pool s.sides.items s.servers.items (joined s.queue.tx s.queue.pacer) c.self.invariant.0 c.in-Reply.session
          c.in-Reply.request c.in-Some.entry front own;
    }

pub invariant_of-self-in-Reply : goal.invariant_of-self-in-Reply
invariant_of-self-in-Reply c =
    let s = c.self.inside in
    let front = sym c.pop.ensures.front ∙ c.in-Some.is in
    let own : c.in-Some.entry.owner ≡ Reply c.in-Reply.session c.in-Reply.request =
    sym (ap (λ (e : EntryValue). e.owner) c.entry.view_is) ∙ c.in-Reply.is in (
      rw c.pop.ensures.rest (reply-kept s.pool c.reply_sent_at.new.pool s.sides.items s.servers.items
          c.reply_sent_at.new.servers.items (joined s.queue.tx s.queue.pacer) c.in-Reply.session c.in-Reply.request c.in-Some.entry
          (λ d. false) (drop 1 (joined s.queue.tx s.queue.pacer).items) c.self.invariant.0
          (front-taken (joined s.queue.tx s.queue.pacer).items c.in-Some.entry front) own
          c.reply_sent_at.ensures.gone),
      c.pop.ensures.paces,
      servers-kept s.shares s.pool c.reply_sent_at.new.pool s.sides.items s.servers.items
          c.reply_sent_at.new.servers.items (gone-kept c.in-Reply.session c.in-Some.entry
          s.servers.items c.reply_sent_at.new.servers.items s.pool c.reply_sent_at.new.pool
          c.reply_sent_at.ensures.gone) c.self.invariant.2,
      ends-kept s.ends.items s.servers.items c.reply_sent_at.new.servers.items
          (gone-ways c.in-Reply.session c.in-Some.entry s.servers.items
          c.reply_sent_at.new.servers.items s.pool c.reply_sent_at.new.pool
          c.reply_sent_at.ensures.gone) c.self.invariant.3,
      room-stays (ap (λ (r : Ring EntryValue). r.size) c.pop.ensures.rest) refl
          c.reply_sent_at.ensures.room refl c.self.invariant.4,
    )

pub returns-in-Ask : goal.returns-in-Ask
returns-in-Ask c =
    let s = c.self.inside in
    let front = sym c.pop.ensures.front ∙ c.in-Some.is in
    let own : c.in-Some.entry.owner ≡ Ask c.from.result c.in-Ask.request =
    sym (ap (λ (e : EntryValue). e.owner) c.entry.view_is) ∙ c.in-Ask.is
    ∙ ap (λ n. Ask n c.in-Ask.request) (sym (c.from.ensures ∙ c.session.view_is)) in
    changes-queue s.pool c.sent_at.new.pool s.sides.items c.sent_at.new.sides.items
    s.servers.items s.servers.items s.queue.tx c.pop.new.self.tx s.queue.pacer c.pop.new.self.pacer
    c.args.self.now c.self.view_is (SendsFront c.args.now c.args.self.now.queued)
    (sends-undue c.args.now c.args.self.now.queued _ _
    (sends-seen s.pool s.sides.items s.servers.items (joined s.queue.tx s.queue.pacer) c.self.invariant.0
    (undue c.args.self.now) (flat s.pool s.sides.items s.servers.items s.queue.tx s.queue.pacer
    c.args.self.now c.self.view_is) c.in-Some.entry c.args.now _ front
    (sent-clients s.pool c.sent_at.new.pool s.sides.items
    c.sent_at.new.sides.items s.servers.items (joined s.queue.tx s.queue.pacer) c.from.result c.in-Ask.request
    c.in-Some.entry (λ d. false) (drop 1 (joined s.queue.tx s.queue.pacer).items) c.self.invariant.0
    (front-taken (joined s.queue.tx s.queue.pacer).items c.in-Some.entry front) own c.args.now
    c.sent_at.ensures.sends
    ∙ ap (λ o. clients_sent c.args.now o c.in-Some.entry.number
    (map (shown_side s.pool) s.sides.items)) (sym own))))
    (rw c.sent_at.ensures.sends.step.leaves.pool (servers-released s.pool s.servers.items
    c.in-Some.entry.place)) (sent-places s.pool c.sent_at.new.pool s.sides.items
    c.sent_at.new.sides.items s.servers.items (joined s.queue.tx s.queue.pacer) c.from.result c.in-Ask.request
    c.in-Some.entry (λ d. false) (drop 1 (joined s.queue.tx s.queue.pacer).items) c.self.invariant.0
    (front-taken (joined s.queue.tx s.queue.pacer).items c.in-Some.entry front) own c.args.now
    c.sent_at.ensures.sends) (drop 1)
    (sent-handed s.pool c.sent_at.new.pool s.sides.items
    c.sent_at.new.sides.items s.servers.items (joined s.queue.tx s.queue.pacer) c.from.result c.in-Ask.request
    c.in-Some.entry (λ d. false) (drop 1 (joined s.queue.tx s.queue.pacer).items) c.self.invariant.0
    (front-taken (joined s.queue.tx s.queue.pacer).items c.in-Some.entry front) own c.args.now
    c.sent_at.ensures.sends) c.pop.ensures.queue
    (ap (λ r. r.size) c.pop.ensures.rest)

pub returns-in-Reply : goal.returns-in-Reply
returns-in-Reply c =
    let s = c.self.inside in
    let front = sym c.pop.ensures.front ∙ c.in-Some.is in
    let own : c.in-Some.entry.owner ≡ Reply c.in-Reply.session c.in-Reply.request =
    sym (ap (λ (e : EntryValue). e.owner) c.entry.view_is) ∙ c.in-Reply.is in
    changes-queue s.pool c.reply_sent_at.new.pool s.sides.items s.sides.items
    s.servers.items c.reply_sent_at.new.servers.items s.queue.tx c.pop.new.self.tx s.queue.pacer
    c.pop.new.self.pacer c.args.self.now c.self.view_is
    (SendsFront c.args.now c.args.self.now.queued)
    (sends-undue c.args.now c.args.self.now.queued _ _
    (sends-seen s.pool s.sides.items s.servers.items (joined s.queue.tx s.queue.pacer) c.self.invariant.0
    (undue c.args.self.now) (flat s.pool s.sides.items s.servers.items s.queue.tx s.queue.pacer
    c.args.self.now c.self.view_is) c.in-Some.entry c.args.now _ front
    (reply-clients s.pool c.reply_sent_at.new.pool s.sides.items
    s.servers.items c.reply_sent_at.new.servers.items (joined s.queue.tx s.queue.pacer) c.in-Reply.session
    c.in-Reply.request c.in-Some.entry (λ d. false) (drop 1 (joined s.queue.tx s.queue.pacer).items)
    c.self.invariant.0 (front-taken (joined s.queue.tx s.queue.pacer).items c.in-Some.entry front) own
    c.reply_sent_at.ensures.gone
    ∙ ap (λ o. clients_sent c.args.now o c.in-Some.entry.number
    (map (shown_side s.pool) s.sides.items)) (sym own))))
    (reply-servers s.pool c.reply_sent_at.new.pool s.sides.items
    s.servers.items c.reply_sent_at.new.servers.items (joined s.queue.tx s.queue.pacer) c.in-Reply.session
    c.in-Reply.request c.in-Some.entry (λ d. false) (drop 1 (joined s.queue.tx s.queue.pacer).items)
    c.self.invariant.0 (front-taken (joined s.queue.tx s.queue.pacer).items c.in-Some.entry front) own
    c.reply_sent_at.ensures.gone)
    (reply-places s.pool c.reply_sent_at.new.pool s.sides.items
    s.servers.items c.reply_sent_at.new.servers.items (joined s.queue.tx s.queue.pacer) c.in-Reply.session
    c.in-Reply.request c.in-Some.entry (λ d. false) (drop 1 (joined s.queue.tx s.queue.pacer).items)
    c.self.invariant.0 (front-taken (joined s.queue.tx s.queue.pacer).items c.in-Some.entry front) own
    c.reply_sent_at.ensures.gone) (drop 1)
    (reply-handed s.pool c.reply_sent_at.new.pool s.sides.items
    s.servers.items c.reply_sent_at.new.servers.items (joined s.queue.tx s.queue.pacer) c.in-Reply.session
    c.in-Reply.request c.in-Some.entry (λ d. false) (drop 1 (joined s.queue.tx s.queue.pacer).items)
    c.self.invariant.0 (front-taken (joined s.queue.tx s.queue.pacer).items c.in-Some.entry front) own
    c.reply_sent_at.ensures.gone) c.pop.ensures.queue
    (ap (λ r. r.size) c.pop.ensures.rest)
