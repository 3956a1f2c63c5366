use Rattle.std.proofs.Common.{refl, ap, arith, rules}
use Rattle.std.proofs.lemmas.List.{length-drop}
use Rattle.client_core.specs.contracts.session.ClientSession.{the_view}
use Rattle.client_core.proofs.PoolLemmas.{keeps-begun}
use Rattle.client_core.proofs.SessionLemmas.{begun-session, few-active, started-turn}
use Rattle.client_core.proofs.ShownLemmas.{beginning-step, call-begins, nothing-begins}
use Rattle.client_core.proofs.OthersLemmas.{begun-leaves, find-front}
use Rattle.client_core.specs.Posting.{is_owner}
use Rattle.buffer_pool.specs.Pool.{filled}
use Rattle.std.proofs.Common.{sym, ◌∙◌}
use Rattle.rpc_base.specs.declared.owner.Owner.TheVariants.{Ask}
use Rattle.packet_rings.specs.Entries.{is_of}
use Rattle.std.proofs.Common.{◌≡◌}
use Rattle.std.specs.Prelude.{count_by}
use Rattle.client_core.proofs.HandingLemmas.{handed-begun}
use Rattle.client_core.proofs.session.ClientSession.begin.Goals as goal
use Rattle.rpc_base.proofs.FirstLemmas.{all-push}
use Rattle.buffer_pool.proofs.CountingLemmas.{counts-filled}

pub push-requires : goal.push-requires
push-requires c =
    let is = c.start-call.ensures.call in
    few-active _ _ _ c.start-call.result c.self.invariant.1 (ap (λ x. x.request) is)
    (ap (λ x. x.call) is) c.in-Some.ensures.begins.slot

pub invariant_of-self-2 : goal.invariant_of-self-2
invariant_of-self-2 c =
    let begins = c.in-Some.ensures.begins in
    let is = c.start-call.ensures.call in
    let turn = started-turn _ _ _ _ c.start-call.result _ _ begins c.self.invariant.1.messages is in
    let sound = rw begins.table at c.begin.ensures.sound in
    rw (c.push.ensures, begins.table) (
      omega (arith, length-drop 1 c.self.inside.slots.waiting, c.self.invariant.0),
      begun-session _ _ _ c.start-call.result c.self.invariant.1 (ap (λ x. x.request) is)
          (ap (λ x. x.call) is) begins.slot turn (ap (λ x. x.posted) is) sound,
    )

pub returns-in_default : goal.returns-in_default
returns-in_default c = record {
  sound = rw (← c.self.view_is) c.self.invariant.1;
  none = search rules;
  unchanged = search rules;
  turn = λ peer. rw (← c.self.view_is) (nothing-begins c.args.pool.now peer _ c.self.invariant.1
      (c.in_default.ensures.none.0 refl));
  step = tt;
  starts = tt;
  handed = search rules;
  others = search rules;
  entries = search rules;
  counts = λ entries counts. counts;
  queued = λ entries all. tt;
  keeps_pool = search rules;
}

pub returns : goal.returns
returns c =
    let session = c.self.inside in
    let pool = c.args.pool.now in
    let call = c.start-call.result in
    let w = c.in-Some.waiting in
    let is = c.start-call.ensures.call in
    let begins = c.in-Some.ensures.begins in
    let keeps = rw (← c.self.view_is) at c.requires.keeps_pool in
    let kept = rw c.start-call.ensures.pool at c.start-call.ensures.kept in
    let size = rw (ap (λ x. x.len) is) at kept.size in
    record {
      sound = rw (← c.self.view_is) c.self.invariant.1;
      none = search rules;
      unchanged = tt;
      turn = λ peer. rw (← c.self.view_is, ap (λ x. x.call) is)
          (call-begins pool peer _ _ _ _ c.self.invariant.1 begins);
      step = λ clock peer fresh.
          let unlisted = rw (← c.self.view_is, ap (λ x. x.call) is) at fresh in
          rw (← c.self.view_is, c.push.ensures, c.start-call.ensures.pool, begins.table, is)
          (beginning-step pool peer _ _ _ c.start-call.ensures.ask c.start-call.ensures.answer clock
          (the_view session) _ _ keeps begins size unlisted);
      starts = search rules;
      handed = rw (← c.self.view_is, c.push.ensures, c.start-call.ensures.pool, begins.table, is)
          (handed-begun pool _ _ _ c.start-call.ensures.ask c.start-call.ensures.answer
          (the_view session) _ _ keeps begins size);
      others = rw (← c.self.view_is, c.push.ensures, c.start-call.ensures.pool)
          (begun-leaves pool call.ask call.answer _ _ call session.calls c.start-call.ensures.ask
          c.start-call.ensures.answer refl refl);
      entries = rw (← c.self.view_is, c.push.ensures)
          (λ e was. find-front (is_owner session.number e.owner) e session.calls call was);
      counts = λ entries counts.
          let first = counts-filled pool entries counts call.ask w.req c.start-call.ensures.ask in
          rw c.start-call.ensures.pool (counts-filled (filled call.ask w.req pool) entries first
          call.answer w.resp c.start-call.ensures.answer);
      queued = λ entries all none.
          let before = rw (← c.self.view_is) at all in
          let fresh = rw (← c.self.view_is) at none in
          let own : call.queued ≡ count_by (is_of (Ask session.number call.request)) entries =
          ap (λ x. x.queued) is ∙ sym fresh
          ∙ ap (λ x. count_by (is_of (Ask session.number x.request)) entries) (sym is) in
          rw c.push.ensures (all-push (λ x. x.queued
          ≡ count_by (is_of (Ask session.number x.request)) entries) session.calls call before
          own);
      keeps_pool = rw (c.start-call.ensures.pool, c.push.ensures)
          (keeps-begun pool _ _ _ _ c.start-call.ensures.ask c.start-call.ensures.answer call
          session.calls refl refl kept keeps);
    }
