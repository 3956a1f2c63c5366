use Rattle.std.proofs.Common.{ap, ◌∙◌}
use Rattle.credit_book.specs.Credits.{rolled}
use Rattle.client_core.specs.KeepsPool.{IsKept}
use Rattle.client_core.specs.Replies.{is_request}
use Rattle.client_core.proofs.AnswerLemmas.{keeps-without}
use Rattle.client_core.proofs.OneCallLemmas.{ended-session, is-active}
use Rattle.client_core.proofs.PlacesLemmas.{two-places}
use Rattle.client_core.proofs.CountLemmas.{counts-ended}
use Rattle.client_core.proofs.session.ClientSession.end.Goals as goal
use Rattle.rpc_base.proofs.FirstLemmas.{found-holds}

pub end-requires : goal.end-requires
end-requires c = is-active _ c.args.call c.self.invariant.1 (rw (← c.self.view_is) at c.requires.call.active)

pub take_buffers-requires-clause-kept : goal.take_buffers-requires-clause-kept
take_buffers-requires-clause-kept c =
    found-holds (is_request c.args.call.request)
    (IsKept c.args.pool.now) c.args.self.now.active c.args.call c.requires.call.keeps_pool.kept
    c.requires.call.active

pub take_buffers-requires-clause-apart : goal.take_buffers-requires-clause-apart
take_buffers-requires-clause-apart c =
    two-places (is_request c.args.call.request) c.args.call c.args.self.now.active c.requires.call.active
    (c.requires.call.keeps_pool.apart c.args.call.ask)

pub invariant_of-self : goal.invariant_of-self
invariant_of-self c =
    let found = rw (← c.self.view_is) at c.requires.call.active in
    let credits = c.roll.ensures.rolled ∙ ap (λ n. rolled n c.self.inside.credits) c.slot.ensures in
    let sound = rw c.end.ensures.ended at c.end.ensures.sound in
    rw (c.remove.ensures, c.end.ensures.ended) (
      c.self.invariant.0,
      ended-session _ (is_request c.args.call.request) c.args.call
          c.self.invariant.1 found c.roll.new.self c.roll.ensures.balanced
          (ap (λ b. b.unanswered) credits) sound,
    )

pub returns-clause-still : goal.returns-clause-still
returns-clause-still c = record {
  counts = λ entries counts.
      let kept = found-holds (is_request c.args.call.request)
      (IsKept c.args.pool.now) c.args.self.now.active c.args.call c.requires.call.keeps_pool.kept
      c.requires.call.active in
      let apart = two-places (is_request c.args.call.request) c.args.call c.args.self.now.active
      c.requires.call.active (c.requires.call.keeps_pool.apart c.args.call.ask) in
      rw c.take_buffers.ensures.pool (counts-ended c.args.pool.now entries c.args.call kept apart
      c.requires.unheld counts);
  keeps_pool = let found = rw (← c.self.view_is) at c.requires.call.active in
      let keeps = rw (← c.self.view_is) at c.requires.call.keeps_pool in
      rw (c.take_buffers.ensures.pool, c.remove.ensures)
      (keeps-without c.args.pool.now (is_request c.args.call.request) c.args.call
      c.self.inside.calls found keeps);
}
