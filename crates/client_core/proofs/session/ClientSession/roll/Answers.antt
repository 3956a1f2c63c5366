use Rattle.std.proofs.Common.{◌≡◌, ◌-◌, refl, sym, ap, ◌∙◌, arith}
use Rattle.credit_book.specs.Credits.{rolled}
use Rattle.client_core.specs.Replies.{is_request}
use Rattle.client_core.specs.Timeouts.{is_numbered, rolled_call}
use Rattle.client_core.specs.contracts.session.ClientSession.{the_view}
use Rattle.std.proofs.lemmas.Bool.{eqb-true}
use Rattle.client_core.proofs.CallLemmas.{rolled-turn}
use Rattle.client_core.proofs.LostLemmas.{roll-step}
use Rattle.rpc_base.proofs.ChangedLemmas.{same-change}
use Rattle.client_core.proofs.OneCallLemmas.{by-request, changed-session, own-turn}
use Rattle.client_core.proofs.OthersLemmas.{roll-leaves, roll-others}
use Rattle.client_core.proofs.RollLemmas.{keeps-rolled}
use Rattle.rpc_base.specs.declared.owner.Owner.TheVariants.{Ask}
use Rattle.packet_rings.specs.Entries.{is_of}
use Rattle.std.specs.Prelude.{count_by}
use Rattle.client_core.proofs.HandingLemmas.{handed-changed}
use Rattle.client_core.proofs.session.ClientSession.roll.Goals as goal
use Rattle.rpc_base.proofs.TakingLemmas.{find-passes}
use Rattle.rpc_base.proofs.FirstLemmas.{all-kept}

pub invariant_of-self : goal.invariant_of-self
invariant_of-self c =
    let numbered = sym c.in-Some.ensures in
    let few = rw (← c.self.view_is, ← c.in-Some.ensures) at c.requires.few in
    let found = by-request _ (is_numbered c.args.call) c.in-Some.call c.self.invariant.1 numbered in
    let idle = rw (← c.self.view_is, ← c.in-Some.ensures) at c.requires.idle in
    let turn = rolled-turn c.in-Some.call (own-turn _ (is_numbered c.args.call) c.in-Some.call
    c.self.invariant.1 numbered) few idle in
    let credits = c.roll.ensures.rolled ∙ ap (λ n. rolled n c.self.inside.credits) c.slot.ensures in
    let none : 0 ≡ c.in-Some.call.got - c.in-Some.call.got = omega arith in
    rw (c.replace.ensures, c.rolled.ensures) (
      c.self.invariant.0,
      changed-session _ (is_request c.in-Some.call.request) c.in-Some.call
          c.self.invariant.1 found (rolled_call c.in-Some.call) refl refl turn c.roll.new.self
          c.roll.ensures.balanced 0 (ap (λ b. b.unanswered) credits) none,
    )

pub returns : goal.returns
returns c =
    let numbered = sym c.in-Some.ensures in
    let call = c.in-Some.call in
    let calls = c.self.inside.calls in
    let found = by-request _ (is_numbered c.args.call) call c.self.invariant.1 numbered in
    let own = eqb-true call.call c.args.call
    (find-passes (is_numbered c.args.call) calls call numbered) in
    let credits = c.roll.ensures.rolled ∙ ap (λ n. rolled n c.self.inside.credits) c.slot.ensures in
    let same = same-change (is_request call.request) call rolled_call calls found in
    rw (← c.self.view_is, c.replace.ensures, c.rolled.ensures, credits, same) (record {
      call = call;
      found = numbered;
      session = refl;
      step = λ pool clock peer. roll-step pool clock peer c.args.call call (the_view c.self.inside)
          c.self.invariant.1 numbered own;
      handed = λ pool. handed-changed pool (is_request call.request) rolled_call (λ x. refl) calls
          c.self.inside.slots.waiting;
      others = λ pool. roll-leaves pool (is_request call.request) calls;
      entries = roll-others call.request (the_view c.self.inside);
      queued = λ entries all. all-kept (is_request call.request) rolled_call
          (λ x. x.queued ≡ count_by (is_of (Ask c.self.inside.number x.request)) entries) calls
          (λ x here passes. here) all;
      keeps_pool = λ pool keeps. keeps-rolled pool (is_request call.request) calls keeps;
    })
