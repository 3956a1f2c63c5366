use Rattle.std.proofs.Common.{rules, None, Some, ◌≡◌, ◌%◌, refl, sym, ap, ◌∙◌}
use Rattle.std.specs.Prelude.{option_map}
use Rattle.credit_book.specs.Credits.{charged}
use Rattle.client_core.specs.Session.{can_post}
use Rattle.client_core.specs.KeepsPool.{held_at}
use Rattle.client_core.specs.Shown.{posted_event}
use Rattle.client_core.proofs.ShownLemmas.{posting-shown, posting-step}
use Rattle.client_core.proofs.PoolLemmas.{entry-held, keeps-posting, may-hold}
use Rattle.client_core.proofs.SessionLemmas.{entry-stands, nothing-posted, posted-session}
use Rattle.client_core.proofs.OthersLemmas.{post-leaves, posting-keeps, stays}
use Rattle.client_core.specs.Posting.{next_entry, one_posted}
use Rattle.client_core.specs.Posting.{place_of}
use Rattle.client_core.proofs.QueuedLemmas.{post-queued}
use Rattle.client_core.proofs.SessionLemmas.{request-call}
use Rattle.client_core.proofs.HandingLemmas.{handed-held}
use Rattle.client_core.proofs.session.ClientSession.post.Goals as goal
use Rattle.rpc_base.proofs.TakingLemmas.{find-passes}
use Rattle.buffer_pool.proofs.CountingLemmas.{counts-held}

pub hold_at-requires : goal.hold_at-requires
hold_at-requires c =
    may-hold c.args.pool.now can_post c.self.inside.calls c.in-Some.call c.in-Some.call.posted
    c.entry.inside.place (rw (← c.self.view_is) at c.requires.keeps_pool)
    (rw (← c.self.view_is) at c.requires.can_hold) (sym c.in-Some.ensures.call)
    (ap (λ e. e.place) (c.entry.view_is ∙ c.next_entry-entry.ensures))

pub invariant_of-self-2 : goal.invariant_of-self-2
invariant_of-self-2 c =
    let charged_is : c.charge.new.self ≡ charged (c.in-Some.call.request % 8)
    c.self.inside.credits =
    c.charge.ensures.charged ∙ ap (λ n. charged n c.self.inside.credits) c.slot.ensures in
    rw (charged_is, c.post_next.ensures.calls) (
      c.self.invariant.0,
      posted-session _ c.in-Some.call c.self.invariant.1
          (sym c.in-Some.ensures.call) (rw charged_is at c.charge.ensures.balanced),
    )

pub returns-in_default : goal.returns-in_default
returns-in_default c =
    let entry : None ≡ next_entry c.args.peer c.args.self.now = search rules in
    record {
      entry = entry;
      none = rw (← entry) at (nothing-posted c.args.self.now c.args.peer);
      session = search rules;
      turn = posting-shown c.args.pool.now c.args.peer c.args.self.now c.requires.keeps_pool
          ∙ ap (option_map posted_event) (sym entry);
      step = tt;
      pool = refl;
      stands = tt;
      held = tt;
      handed = search rules;
      others = search rules;
      entries = search rules;
      counts = tt;
      queued = tt;
      keeps_pool = search rules;
    }

pub returns : goal.returns
returns c =
    let session = c.self.inside in
    let call = c.in-Some.call in
    let pool = c.args.pool.now in
    let keeps = rw (← c.self.view_is) at c.requires.keeps_pool in
    let can = rw (← c.self.view_is) at c.requires.can_hold in
    let found = sym c.in-Some.ensures.call in
    let place = place_of call call.posted in
    let may = may-hold pool can_post session.calls call call.posted place keeps can found refl in
    let held_is = ap (λ e. held_at e.place pool) (c.entry.view_is ∙ c.next_entry-entry.ensures) in
    let charged_is : c.charge.new.self ≡ charged (call.request % 8) session.credits =
    c.charge.ensures.charged ∙ ap (λ n. charged n session.credits) c.slot.ensures in
    let more = find-passes can_post session.calls call found in
    let entry : Some c.next_entry-entry.result ≡ next_entry c.args.peer c.args.self.now = search rules in
    record {
      entry = entry;
      none = rw (← entry) at (nothing-posted c.args.self.now c.args.peer);
      session = search rules;
      turn = posting-shown pool c.args.peer c.args.self.now c.requires.keeps_pool
          ∙ ap (option_map posted_event) (sym entry);
      step = λ clock. rw (
        ← c.self.view_is,
        c.next_entry-entry.ensures,
        c.hold_at.ensures,
        charged_is,
        c.post_next.ensures.calls,
      )
          (posting-step clock pool c.args.peer c.entry.inside.place _ call c.self.invariant.1 found
          more (rw charged_is at c.charge.ensures.limit));
      pool = search rules;
      stands = rw (c.next_entry-entry.ensures, c.post_next.ensures.calls)
          (entry-stands _ c.args.peer call c.self.invariant.1 found);
      held = rw (c.hold_at.ensures, held_is, c.next_entry-entry.ensures)
          (entry-held pool session.calls call keeps found);
      handed = rw (← c.self.view_is, c.hold_at.ensures, held_is, c.post_next.ensures.calls)
          (handed-held pool can_post one_posted (λ x. refl) session.calls session.slots.waiting _);
      others = rw (← c.self.view_is, c.hold_at.ensures, held_is, c.post_next.ensures.calls)
          (post-leaves pool call call.posted session.calls found);
      entries = rw (← c.self.view_is, c.post_next.ensures.calls)
          (λ e was. stays session.number can_post one_posted posting-keeps e session.calls was);
      counts = λ entries counts. rw (c.hold_at.ensures, held_is, c.next_entry-entry.ensures)
          (counts-held pool entries counts place _ refl may);
      queued = λ entries all.
          let before = rw (← c.self.view_is) at all in
          rw (c.next_entry-entry.ensures, c.post_next.ensures.calls)
          (post-queued _ call _ entries c.self.invariant.1 found
          (request-call _ call c.self.invariant.1 found) refl before);
      keeps_pool = rw (c.hold_at.ensures, held_is, c.post_next.ensures.calls)
          (keeps-posting pool session.calls call keeps found);
    }
