use Rattle.std.proofs.Common.{◌≡◌, length, refl, sym, ◌∙◌, rules}
use Rattle.client_core.specs.Replies.{call_as, is_request, reply_row, row_told}
use Rattle.client_core.specs.contracts.session.ClientSession.{the_view}
use Rattle.client_core.proofs.EndedLemmas.{outcome-step}
use Rattle.client_core.proofs.OneCallLemmas.{by-request, own-request, own-turn}
use Rattle.client_core.proofs.OutcomeLemmas.{facts-shown, row-shown}
use Rattle.client_core.proofs.OthersLemmas.{reply-entries, reply-leaves}
use Rattle.client_core.proofs.OthersLemmas.{same-still}
use Rattle.client_core.proofs.QueuedLemmas.{reply-queued}
use Rattle.client_core.proofs.HandingLemmas.{reply-handed}
use Rattle.client_core.proofs.session.ClientSession.on_reply.Goals as goal

pub take-requires-clause-call : goal.take-requires-clause-call
take-requires-clause-call c = record {
  keeps_pool = c.requires.keeps_pool;
  active = rw (← c.self.view_is) (by-request _ (is_request c.args.head.now.request) c.in-Some.call
      c.self.invariant.1 (sym c.in-Some.ensures));
}

pub take-requires-clause-of_call : goal.take-requires-clause-of_call
take-requires-clause-of_call c =
    sym (own-request c.args.head.now.request _ c.in-Some.call c.self.invariant.1 (sym c.in-Some.ensures))

pub take-requires-clause-turn : goal.take-requires-clause-turn
take-requires-clause-turn c =
    own-turn _ (is_request c.args.head.now.request) c.in-Some.call c.self.invariant.1 (sym c.in-Some.ensures)

pub returns-in_default : goal.returns-in_default
returns-in_default c =
    record {
      row = search rules;
      rule = λ queue queued peer.
          row-shown c.args.pool.now queue c.args.queued c.args.head.now (length c.args.body.now)
          c.args.self.now c.requires.keeps_pool queued peer
          ∙ rw (← c.self.view_is, ← c.in_default.ensures) refl;
      facts = search rules;
      step = search rules;
      replies = search rules;
      handed = search rules;
      entries = search rules;
      still = same-still c.args.self.now c.args.pool.now c.requires.keeps_pool;
    }

pub returns-in-Drops : goal.returns-in-Drops
returns-in-Drops c = record {
  row = search rules;
  rule = λ queue queued peer.
      row-shown c.args.pool.now queue c.args.queued c.args.head.now (length c.args.body.now)
      c.args.self.now c.requires.keeps_pool queued peer
      ∙ rw (← c.self.view_is, ← c.in-Some.ensures) (sym c.in-Drops.ensures);
  facts = search rules;
  step = search rules;
  replies = search rules;
  handed = search rules;
  entries = search rules;
  still = same-still c.args.self.now c.args.pool.now c.requires.keeps_pool;
}

pub returns-in-Takes : goal.returns-in-Takes
returns-in-Takes c =
    let s = the_view c.self.inside in
    let pool = c.args.pool.now in
    let head = c.args.head.now in
    let body = c.args.body.now in
    let new = c.take.new.self in
    let after = c.take.new.pool in
    let keeps = rw (← c.self.view_is) at c.requires.keeps_pool in
    let replies = rw (← c.self.view_is) at c.take.ensures.replies in
    let row : row_told c.take.result ≡ reply_row c.args.queued head (length body)
    (call_as head.request s) =
    rw (← c.in-Some.ensures) (c.take.ensures.took ∙ c.in-Takes.ensures) in
    rw (← c.self.view_is) (record {
      row = row;
      rule = λ queue queued peer.
          row-shown pool queue c.args.queued head (length body) s keeps queued peer
          ∙ rw (← c.in-Some.ensures) (sym c.in-Takes.ensures ∙ sym c.take.ensures.took);
      facts = λ takes me peer. facts-shown c.args.queued c.args.now me peer pool after head body s
          new c.self.invariant.1 keeps c.take.result row replies takes;
      step = λ alone peer. outcome-step c.args.queued c.args.now peer pool after head body s new
          c.self.invariant.1 keeps (rw (← c.self.view_is) at c.requires.session) c.take.result row
          replies alone;
      replies = replies;
      handed = reply-handed c.args.queued c.args.now pool after head body s new c.self.invariant.1
          keeps c.take.result row replies;
      entries = reply-entries c.args.now head body s new pool after c.take.result replies;
      still = record {
        others = reply-leaves c.args.now head body s new pool after c.take.result replies;
        counts = c.take.ensures.still.counts;
        queued = λ entries all.
            reply-queued c.args.now head body s new pool after entries c.take.result replies all;
        keeps_pool = c.take.ensures.still.keeps_pool;
      };
    })
