use Rattle.std.proofs.Common.{◌≡◌, ap, cond, sym, ◌∙◌, Some}
use Rattle.rpc_base.specs.Least.{smaller}
use Rattle.pacing_wheel.specs.Wheel.{is_of, number_of}
use Rattle.pacing_wheel.proofs.PopLemmas.{least-behind}
use Rattle.pacing_wheel.proofs.chains.least_from.Goals.{else-is_owned, then-is_owned}
use Rattle.pacing_wheel.proofs.chains.least_from.Goals as goal

pub loop-left-preserved : goal.loop-left-preserved
loop-left-preserved c =
    let passes = is_of c.args.owner.now in
    let so-far = c.loop-left.least in
    let item = c.link_at-link.result.item in
    let now : c.if-is_owned.least ≡ cond (passes item) (Some (smaller (number_of item) so-far)) so-far =
    elim c.if-is_owned.branch [
      | then-is_owned w ↦ w.least-is ∙ (ap Some (w.smaller_of.ensures ∙ ap (λ n. smaller n so-far) w.number_in.ensures)
          ∙ ap (λ b. cond b (Some (smaller (number_of item) so-far)) so-far) (sym (sym c.is_owned.ensures ∙ w.if-is_owned.true)))
      | else-is_owned w ↦ w.least-is
          ∙ ap (λ b. cond b (Some (smaller (number_of item) so-far)) so-far) (sym (sym c.is_owned.ensures ∙ w.if-is_owned.false))
    ] in
    rw c.link_at-link.ensures (least-behind passes c.args.links.now.items c.loop-left.left c.loop-left.place _ so-far
    c.if-is_owned.least c.loop-left-test.true c.loop-left.invariant (rw c.link_at-link.ensures at now))
