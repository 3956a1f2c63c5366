use Rattle.std.proofs.Common.{◌≡◌, sym, ap, ◌∙◌}
use Rattle.rpc_base.specs.declared.owner.Owner.TheVariants.{Ask, Reply}
use Rattle.packet_rings.specs.Values.{EntryValue}
use Rattle.session_ends.specs.Joined.{joined}
use Rattle.session_store.proofs.FrontLemmas.{fronts, no-control}
use Rattle.session_store.proofs.GoneLemmas.{front-spells, front-stands}
use Rattle.session_store.proofs.ReplyGoneLemmas.{end-reply, end-spells}
use Rattle.session_store.proofs.store.Store.front.Goals as goal

pub packet_at-body-requires-clause-stands : goal.packet_at-body-requires-clause-stands
packet_at-body-requires-clause-stands c =
    let s = c.self.inside in
    let front = rw c.in-Some.is at c.front.ensures.front in
    let own : c.in-Some.entry.owner ≡ Ask c.from.result c.in-Ask.request =
    sym (ap (λ (e : EntryValue). e.owner) c.entry.view_is) ∙ c.in-Ask.is
    ∙ ap (λ n. Ask n c.in-Ask.request) (sym (c.from.ensures ∙ c.session.view_is)) in
    front-stands s.pool s.sides.items s.servers.items (joined s.queue.tx s.queue.pacer)
    c.self.invariant.0 c.from.result c.in-Ask.request c.in-Some.entry front own

pub reply_at-body-requires : goal.reply_at-body-requires
reply_at-body-requires c =
    let s = c.self.inside in
    let front = rw c.in-Some.is at c.front.ensures.front in
    let own : c.in-Some.entry.owner ≡ Reply c.in-Reply.session c.in-Reply.request =
    sym (ap (λ (e : EntryValue). e.owner) c.entry.view_is) ∙ c.in-Reply.is in
    record {
      there = record {
        rises = c.self.invariant.0.rises;
        keeps = c.self.invariant.0.serves;
        stands = end-reply s.pool s.sides.items s.servers.items (joined s.queue.tx s.queue.pacer)
            c.self.invariant.0 c.in-Reply.session c.in-Reply.request c.in-Some.entry front own;
      };
    }

pub unreachable-requires : goal.unreachable-requires
unreachable-requires c =
    let s = c.self.inside in
    let front = rw c.in-Some.is at c.front.ensures.front in
    no-control s.pool s.sides.items s.servers.items (joined s.queue.tx s.queue.pacer)
    c.self.invariant.0 c.in-Some.entry front
    (sym (ap (λ (e : EntryValue). e.owner) c.entry.view_is) ∙ c.in-Control.is)

pub returns-in-Ask-clause-front : goal.returns-in-Ask-clause-front
returns-in-Ask-clause-front c =
    let s = c.self.inside in
    let tx = joined s.queue.tx s.queue.pacer in
    let front = rw c.in-Some.is at c.front.ensures.front in
    let due = rw c.in-Some.is at c.front.ensures.due in
    let own : c.in-Some.entry.owner ≡ Ask c.from.result c.in-Ask.request =
    sym (ap (λ (e : EntryValue). e.owner) c.entry.view_is) ∙ c.in-Ask.is
    ∙ ap (λ n. Ask n c.in-Ask.request) (sym (c.from.ensures ∙ c.session.view_is)) in
    fronts s.pool s.sides.items s.servers.items s.queue.tx s.queue.pacer c.self.invariant.0
    c.args.self.now c.self.view_is c.args.now c.in-Some.entry _ _ front due
    c.packet_at-body.ensures.bytes
    (front-spells s.pool s.sides.items s.servers.items tx c.self.invariant.0 c.from.result
    c.in-Ask.request c.in-Some.entry front own _ _ c.packet_at-body.ensures.spells)

pub returns-in-Reply-clause-front : goal.returns-in-Reply-clause-front
returns-in-Reply-clause-front c =
    let s = c.self.inside in
    let tx = joined s.queue.tx s.queue.pacer in
    let front = rw c.in-Some.is at c.front.ensures.front in
    let due = rw c.in-Some.is at c.front.ensures.due in
    let own : c.in-Some.entry.owner ≡ Reply c.in-Reply.session c.in-Reply.request =
    sym (ap (λ (e : EntryValue). e.owner) c.entry.view_is) ∙ c.in-Reply.is in
    fronts s.pool s.sides.items s.servers.items s.queue.tx s.queue.pacer c.self.invariant.0
    c.args.self.now c.self.view_is c.args.now c.in-Some.entry _ _ front due
    c.reply_at-body.ensures.bytes
    (end-spells s.pool s.sides.items s.servers.items tx c.self.invariant.0 c.in-Reply.session
    c.in-Reply.request c.in-Some.entry front own _ _ c.reply_at-body.ensures.spells)
