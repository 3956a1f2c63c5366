use Rattle.std.proofs.Common.{◌≡◌, ◌+◌, ◌%◌, Some, refl, sym, ap, subst, ◌∙◌, arith}
use Rattle.rpc_base.specs.Tables.{at_first}
use Rattle.server_core.specs.Counting.{repeated}
use Rattle.server_core.specs.KeepsPool.{IsKept}
use Rattle.server_core.specs.Replies.{IsReplyIn, entry_at, held_at, place_of}
use Rattle.server_core.specs.Serving.{gone_on, one_queued}
use Rattle.server_core.specs.Session.{IsSession, is_in_slot, newest}
use Rattle.server_core.specs.Shown.{shown}
use Rattle.server_core.specs.Steps.{IsReply}
use Rattle.server_core.specs.contracts.session.ServerSession.{the_view}
use Rattle.server_core.proofs.BeginLemmas.{is-reply-of}
use Rattle.server_core.proofs.ChangedLemmas.{at_first-agree}
use Rattle.server_core.proofs.FoundLemmas.{found-changed}
use Rattle.server_core.proofs.HoldStepLemmas.{again-holds}
use Rattle.server_core.proofs.OtherLemmas.{held-others}
use Rattle.server_core.proofs.QueuedLemmas.{gone-counted}
use Rattle.server_core.proofs.RecountLemmas.{more-queued, recount-holds, recount-keeps}
use Rattle.server_core.proofs.RecountLemmas.{recount-others, recount-served, recount-session}
use Rattle.server_core.proofs.RecountLemmas.{recount-shown, recount-spare}
use Rattle.server_core.proofs.SpareLemmas.{held-spare}
use Rattle.server_core.proofs.TakeLemmas.{again-keeps, held-shown, is-held-at, may-hold}
use Rattle.server_core.proofs.session.ServerSession.repeat.Goals as goal
use Rattle.rpc_base.proofs.FirstLemmas.{found-holds}
use Rattle.server_core.proofs.StaysLemmas.{held-behind}

pub hold_at-requires : goal.hold_at-requires
hold_at-requires c =
    let found = sym c.in-Some.ensures in
    let kept = found-holds (is_in_slot (c.args.head.now.request % 8))
    (IsKept c.args.pool.now) c.args.self.now.slots c.in-Some.request
    c.requires.ready.keeps_pool.kept found in
    rw (ap (λ e. e.place) (c.reply.view_is ∙ c.entry-reply.ensures))
    (may-hold c.args.pool.now c.in-Some.request c.args.head.now.number kept
    (rw found at c.requires.ready.can_hold))

pub overflow_add-request : goal.overflow_add-request
overflow_add-request c =
    let found = sym c.in-Some.ensures in
    let few = rw found at c.requires.ready.can_hold in
    omega (arith, few.1)

-- the session counts one reply more of the request

pub returns-clause-session : goal.returns-clause-session
returns-clause-session c =
    let s = the_view c.self.inside in
    let q = c.in-Some.request in
    let r = c.args.head.now.request in
    let found = sym c.in-Some.ensures in
    let slot : newest r s ≡ Some q = rw (← c.self.view_is) at found in
    let again = rw found at c.requires.again in
    let same : gone_on (one_queued q) s.slots ≡ at_first (is_in_slot (r % 8)) one_queued s.slots =
    ap (λ m. at_first (is_in_slot (m % 8)) (λ x. one_queued q) s.slots) again.same
    ∙ at_first-agree (is_in_slot (r % 8))
    (λ x. one_queued q) one_queued q s.slots refl slot in
    rw (← c.self.view_is, c.replace.ensures, same) refl

pub invariant_of-self : goal.invariant_of-self
invariant_of-self c =
    let s = the_view c.self.inside in
    let q = c.in-Some.request in
    let r = c.args.head.now.request in
    let found = sym c.in-Some.ensures in
    let slot : newest r s ≡ Some q = rw (← c.self.view_is) at found in
    let few = rw found at c.requires.ready.can_hold in
    let again = rw found at c.requires.again in
    let same : gone_on (one_queued q) s.slots ≡ at_first (is_in_slot (r % 8)) one_queued s.slots =
    ap (λ m. at_first (is_in_slot (m % 8)) (λ x. one_queued q) s.slots) again.same
    ∙ at_first-agree (is_in_slot (r % 8))
    (λ x. one_queued q) one_queued q s.slots refl slot in
    let whole : IsSession (repeated r s) = recount-session (λ n. n + 1) (is_in_slot (r % 8)) s c.self.invariant (λ x here turn. let one : x ≡ q = cc (here, slot) in more-queued x (rw one few.1) turn) in
    rw (c.replace.ensures, same) whole

pub returns-clause-shown : goal.returns-clause-shown
returns-clause-shown c =
    ap (shown c.hold_at.new.self) (returns-clause-session c)
    ∙ rw c.hold_at.ensures (held-shown c.args.pool.now c.reply.inside.place
    (repeated c.args.head.now.request c.args.self.now)
    ∙ recount-shown (λ n. n + 1) (is_in_slot (c.args.head.now.request % 8)) c.args.self.now
    c.args.pool.now)

pub returns-clause-replies : goal.returns-clause-replies
returns-clause-replies c =
    let s = c.args.self.now in
    let q = c.in-Some.request in
    let k = c.args.head.now.number in
    let r = c.args.head.now.request in
    let pool = c.args.pool.now in
    let e = c.entry-reply.result in
    let test = is_in_slot (r % 8) in
    let found = sym c.in-Some.ensures in
    let sound : IsSession s = subst IsSession c.self.view_is c.self.invariant in
    let kept = found-holds test (IsKept pool) s.slots q c.requires.ready.keeps_pool.kept found in
    let again = rw found at c.requires.again in
    let own : newest q.number s ≡ Some q = ap (λ n. newest n s) again.same ∙ found in
    let entry : e ≡ entry_at s.number s.peer k q =
    c.entry-reply.ensures ∙ ap (λ x. entry_at x.number x.peer k q) c.self.view_is in
    let after : c.hold_at.new.self ≡ held_at (place_of q k) pool =
    c.hold_at.ensures ∙ ap (λ x. held_at x.place pool) (c.reply.view_is ∙ c.entry-reply.ensures) in
    let reply : IsReply q.number k s (held_at (place_of q k) pool) e =
    rw entry (is-reply-of _ s q q.number k sound own refl again.taken again.there
    (is-held-at pool q k kept)) in
    let mine : IsReplyIn q e =
    rw entry (record { taken = again.taken; there = again.there; place_is = refl }) in
    let place : e.place ≡ place_of q k = ap (λ x. x.place) entry in
    let same : gone_on (one_queued q) s.slots ≡ at_first test one_queued s.slots =
    ap (λ m. at_first (is_in_slot (m % 8)) (λ x. one_queued q) s.slots) again.same
    ∙ at_first-agree test (λ x. one_queued q) one_queued q s.slots refl found in
    let counted : newest r (repeated r s) ≡ Some (one_queued q) =
    found-changed test one_queued s.slots (λ x. refl) ∙ rw found refl in
    let whole : IsSession (repeated r s) =
    subst IsSession (returns-clause-session c) (invariant_of-self c) in
    let given : IsReply r k (repeated r s) (held_at (place_of q k) pool) e =
    rw entry (is-reply-of _ (repeated r s) (one_queued q) r k whole counted again.same again.taken
    again.there (is-held-at pool q k kept)) in
    rw (returns-clause-session c, after) (record {
      reply = given;
      stays = record {
        places = record {
          spare = recount-spare (λ n. n + 1) test s pool (held_at (place_of q k) pool)
              (held-spare pool s q r c.requires.ready.keeps_pool found k);
          others = recount-others (λ n. n + 1) test s _ _ (held-others pool s q r found k);
          keeps_pool = recount-keeps (λ n. n + 1) test s _
              (again-keeps pool s q sound own c.requires.ready.keeps_pool k);
        };
        replies = λ es. record {
          holds = λ all. recount-holds (λ n. n + 1) test s _ _
              (again-holds pool s q sound own c.requires.ready.keeps_pool es all k e reply place mine);
          queued = λ all counted. rw (← same) (gone-counted s q sound own (one_queued q) refl es e refl
              reply.owner counted);
          counts = λ p. held-behind pool e es p (place_of q k) place
              (may-hold pool q k kept (rw found at c.requires.ready.can_hold));
        };
        served = λ mode_of all. recount-served (λ n. n + 1) test s mode_of all;
      };
    })
