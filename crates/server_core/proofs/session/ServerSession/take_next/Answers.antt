use Rattle.server_core.proofs.QueuedLemmas.{gone-counted}
use Rattle.server_core.specs.Session.{IsInTurn, is_in_slot}
use Rattle.server_core.proofs.StepLemmas.{next-idle}
use Rattle.std.proofs.Common.{◌≡◌, ◌<◌, ◌%◌, refl, ap, ◌∙◌, arith}
use Rattle.server_core.specs.Replies.{IsReplyIn, held_at, place_of}
use Rattle.server_core.specs.Steps.{IsReply}
use Rattle.server_core.specs.Serving.{gone_on, next_taken, with_slots}
use Rattle.server_core.specs.contracts.session.ServerSession.{the_view}
use Rattle.server_core.proofs.BeginLemmas.{idle-reply, is-reply}
use Rattle.server_core.proofs.SlotLemmas.{gone-session}
use Rattle.server_core.proofs.TakeLemmas.{gone-served, gone-newest, is-held-at, may-hold}
use Rattle.server_core.proofs.TakeLemmas.{next-keeps, next-shows, own-beside}
use Rattle.server_core.proofs.OtherLemmas.{next-others}
use Rattle.server_core.proofs.SpareLemmas.{next-spare}
use Rattle.server_core.proofs.HoldStepLemmas.{next-holds}
use Rattle.server_core.proofs.session.ServerSession.take_next.Goals as goal
use Rattle.rpc_base.proofs.FirstLemmas.{found-holds}
use Rattle.server_core.proofs.StaysLemmas.{held-behind}

pub hold_at-requires : goal.hold_at-requires
hold_at-requires c =
    let found = rw (← c.self.view_is) at c.requires.newest.found in
    let keeps = rw (← c.self.view_is) at c.requires.newest.keeps_pool in
    let beside = own-beside c.args.pool.now (the_view c.self.inside) c.args.request c.self.invariant found keeps in
    rw (ap (λ e. e.place) (c.reply.view_is ∙ c.entry-reply.ensures))
    (may-hold c.args.pool.now c.args.request c.args.request.taken beside.own
    c.requires.can_hold)

pub invariant_of-self : goal.invariant_of-self
invariant_of-self c =
    let found = rw (← c.self.view_is) at c.requires.newest.found in
    rw c.replace.ensures (gone-session (the_view c.self.inside) c.args.request
    (next_taken c.args.request) c.self.invariant c.requires.turn refl found)

pub returns-clause-shown : goal.returns-clause-shown
returns-clause-shown c =
    let found = rw (← c.self.view_is) at c.requires.newest.found in
    let keeps = rw (← c.self.view_is) at c.requires.newest.keeps_pool in
    rw (
      c.replace.ensures,
      c.hold_at.ensures,
      ap (λ e. held_at e.place c.args.pool.now)
          (c.reply.view_is ∙ c.entry-reply.ensures),
      ← c.self.view_is,
    )
    (next-shows c.args.pool.now (the_view c.self.inside) c.args.request c.self.invariant found keeps)

pub overflow_add-request-2 : goal.overflow_add-request-2
overflow_add-request-2 c = omega (arith, c.requires.can_hold.1)

pub returns-clause-replies : goal.returns-clause-replies
returns-clause-replies c =
    let s = the_view c.self.inside in
    let q = c.args.request in
    let pool = c.args.pool.now in
    let d = next_taken q in
    let e = c.entry-reply.result in
    let found = rw (← c.self.view_is) at c.requires.newest.found in
    let keeps = rw (← c.self.view_is) at c.requires.newest.keeps_pool in
    let beside = own-beside pool s q c.self.invariant found keeps in
    let after : c.hold_at.new.self ≡ held_at (place_of q q.taken) pool =
    c.hold_at.ensures ∙ ap (λ x. held_at x.place pool) (c.reply.view_is ∙ c.entry-reply.ensures) in
    let idle = idle-reply d q.taken (next-idle q
    (found-holds (is_in_slot (q.number % 8)) IsInTurn s.slots q c.self.invariant.in_turn found)
    c.requires.turn) in
    let below : q.taken < d.taken = omega arith in
    let reply : IsReply q.number q.taken (with_slots (gone_on d s.slots) s)
    (held_at (place_of q q.taken) pool) e =
    rw c.entry-reply.ensures (is-reply _ (with_slots (gone_on d s.slots) s) d q.taken
    (gone-session s q d c.self.invariant c.requires.turn refl found)
    (gone-newest pool s q c.self.invariant found keeps d refl) below idle
    (is-held-at pool q q.taken beside.own)) in
    let mine : IsReplyIn d e =
    rw c.entry-reply.ensures (record {
      taken = omega arith;
      there = idle;
      place_is = refl;
    }) in
    let place : e.place ≡ place_of q q.taken = ap (λ x. x.place) c.entry-reply.ensures in
    rw (c.replace.ensures, after, ← c.self.view_is) (record {
      reply = reply;
      stays = record {
        places = record {
          spare = next-spare pool s q q.number keeps found refl q.taken;
          others = next-others pool s q q.number found refl q.taken;
          keeps_pool = next-keeps pool s q c.self.invariant found keeps;
        };
        replies = λ es. record {
          holds = λ all. next-holds pool s q c.self.invariant found keeps es all e reply place mine;
          queued = λ all counted. gone-counted s q c.self.invariant found d refl es e refl
              (ap (λ x. x.owner) c.entry-reply.ensures) counted;
          counts = λ p. held-behind pool e es p (place_of q q.taken) place
              (may-hold pool q q.taken beside.own c.requires.can_hold);
        };
        served = λ mode_of all. gone-served pool s q c.self.invariant found keeps mode_of d refl refl
            all;
      };
    })
