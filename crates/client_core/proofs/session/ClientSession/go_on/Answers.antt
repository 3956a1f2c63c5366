use Rattle.std.proofs.Common.{◌≡◌, ◌+◌, ◌-◌, ◌%◌, refl, ap, ◌∙◌, arith}
use Rattle.std.specs.Prelude.{slice_index}
use Rattle.credit_book.specs.Credits.{given_back}
use Rattle.client_core.specs.KeepsPool.{IsKept}
use Rattle.client_core.specs.Replies.{is_request, replied}
use Rattle.client_core.proofs.AnswerLemmas.{keeps-replied}
use Rattle.client_core.proofs.CallLemmas.{goes-not-small, part-of, replied-turn}
use Rattle.rpc_base.proofs.ChangedLemmas.{same-change}
use Rattle.client_core.proofs.OneCallLemmas.{changed-session, own-turn, own-unanswered}
use Rattle.client_core.proofs.CountLemmas.{counts-answered}
use Rattle.client_core.proofs.session.ClientSession.go_on.Goals as goal
use Rattle.rpc_base.proofs.FirstLemmas.{found-holds}

pub give_back-requires-clause-charged : goal.give_back-requires-clause-charged
give_back-requires-clause-charged c =
    let found = rw (← c.self.view_is) at c.requires.call.active in
    rw c.slot.ensures (omega (
      arith,
      own-unanswered _ (is_request c.args.call.request) c.args.call
          c.self.invariant.1 found,
      c.requires.taken.posted,
    ))

pub write_part-requires-clause-kept : goal.write_part-requires-clause-kept
write_part-requires-clause-kept c =
    found-holds (is_request c.args.call.request)
    (IsKept c.args.pool.now) c.args.self.now.active c.args.call c.requires.call.keeps_pool.kept
    c.requires.call.active

pub write_part-requires-clause-part : goal.write_part-requires-clause-part
write_part-requires-clause-part c =
    let found = rw (← c.self.view_is) at c.requires.call.active in
    let kept = found-holds (is_request c.args.call.request)
    (IsKept c.args.pool.now) c.args.self.now.active c.args.call c.requires.call.keeps_pool.kept
    c.requires.call.active in
    part-of c.args.pool.now c.args.call c.args.head.now _ kept
    (own-turn _ (is_request c.args.call.request) c.args.call c.self.invariant.1 found)
    c.requires.taken (goes-not-small _ _ c.requires.goes_on)

pub invariant_of-self : goal.invariant_of-self
invariant_of-self c =
    let found = rw (← c.self.view_is) at c.requires.call.active in
    let turn = own-turn _ (is_request c.args.call.request) c.args.call c.self.invariant.1 found in
    let count = own-unanswered _ (is_request c.args.call.request) c.args.call c.self.invariant.1 found in
    let credits = c.give_back.ensures.given_back ∙ ap (λ n. given_back n c.self.inside.credits) c.slot.ensures in
    let own : slice_index c.self.inside.credits.unanswered (c.args.call.request % 8) - 1
    ≡ c.args.call.posted - (c.args.call.got + 1) =
    omega (arith, count, c.requires.taken.posted) in
    rw (c.replace.ensures, c.replied.ensures) (
      c.self.invariant.0,
      changed-session _ (is_request c.args.call.request) c.args.call
          c.self.invariant.1 found (replied c.args.now c.args.head.now c.args.call) refl refl
          (replied-turn c.args.now c.args.call c.args.head.now _ turn c.requires.taken
          c.requires.small) c.give_back.new.self c.give_back.ensures.balanced _
          (ap (λ b. b.unanswered) credits) own,
    )

pub returns-clause-session : goal.returns-clause-session
returns-clause-session c =
    let found = rw (← c.self.view_is) at c.requires.call.active in
    let credits = c.give_back.ensures.given_back ∙ ap (λ n. given_back n c.self.inside.credits) c.slot.ensures in
    rw (
      ← c.self.view_is,
      c.replace.ensures,
      c.replied.ensures,
      credits,
      same-change (is_request c.args.call.request) c.args.call
          (replied c.args.now c.args.head.now) c.self.inside.calls found,
    ) refl

pub returns-clause-still : goal.returns-clause-still
returns-clause-still c = record {
  counts = λ entries counts.
      rw c.write_part.ensures (counts-answered c.args.pool.now entries c.args.call c.args.head.now
      c.args.body.now counts);
  keeps_pool = let found = rw (← c.self.view_is) at c.requires.call.active in
      let keeps = rw (← c.self.view_is) at c.requires.call.keeps_pool in
      let kept = found-holds (is_request c.args.call.request)
      (IsKept c.args.pool.now) c.self.inside.calls c.args.call keeps.kept found in
      let part = part-of c.args.pool.now c.args.call c.args.head.now _ kept
      (own-turn _ (is_request c.args.call.request) c.args.call c.self.invariant.1 found)
      c.requires.taken (goes-not-small _ _ c.requires.goes_on) in
      rw (c.write_part.ensures, c.replace.ensures, c.replied.ensures)
      (keeps-replied c.args.pool.now c.args.now c.args.call c.args.head.now c.args.body.now
      c.self.inside.calls found keeps part);
}
