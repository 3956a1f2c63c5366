use Rattle.std.proofs.Common.{◌<◌, ◌+◌, ap, arith, drop, length, refl, sym, ◌∙◌}
use Rattle.rpc_base.specs.Least.{least_number}
use Rattle.rpc_base.proofs.LeastLemmas.{lesser}
use Rattle.pacing_wheel.specs.Wheel.{is_of, number_of, together}
use Rattle.pacing_wheel.proofs.DialLemmas.{least-step}
use Rattle.pacing_wheel.proofs.WalkLemmas.{behind-step, lesser-then, walked-all, walked-some}
use Rattle.pacing_wheel.proofs.dial.least_between.Goals as goal

pub loop-place-init : goal.loop-place-init
loop-place-init c = (
  omega arith,
  refl,
  record { order = c.requires.order; enough = c.requires.enough; counted = refl },
)

pub overflow_sub-unseen : goal.overflow_sub-unseen
overflow_sub-unseen c =
    let w = c.loop-place.invariant.2 in
    rw c.len_of-unseen.ensures (walked-some w c.loop-place-test.true
    (omega (arith, c.loop-place-test.true, c.requires.inside)))

pub loop-place-preserved : goal.loop-place-preserved
loop-place-preserved c =
    let inv = c.loop-place.invariant in
    let ls = c.args.chains.now.lists in
    let in_it : c.loop-place.place < length ls = omega (arith, c.loop-place-test.true, c.requires.inside) in
    let rest = least_number (is_of c.args.owner.now) number_of (together (drop (c.loop-place.place + 1) ls)) in
    let some = walked-some inv.2 c.loop-place-test.true in_it in (
      omega (arith, inv.0),
      inv.1 ∙ (ap (lesser c.loop-place.best) (least-step (is_of c.args.owner.now) ls c.loop-place.place in_it)
          ∙ (ap (λ r. lesser c.loop-place.best (lesser r rest)) (sym c.least.ensures)
          ∙ (sym (lesser-then c.loop-place.best c.least.result rest)
          ∙ ap (λ b. lesser b rest) (sym c.lesser-best.ensures)))),
      record {
        order = omega (arith, c.loop-place-test.true);
        enough = c.requires.enough;
        counted = omega (arith, inv.2.counted, behind-step ls c.loop-place.place in_it, c.len_of-unseen.ensures, some);
      },
    )

pub returns-else-unseen-gt0-clause-best : goal.returns-else-unseen-gt0-clause-best
returns-else-unseen-gt0-clause-best c =
    let inv = c.loop-place.invariant in
    inv.1 ∙ ap (λ ps. lesser c.loop-place.best (least_number (is_of c.args.owner.now) number_of ps))
    (walked-all inv.2 (omega (arith, c.if-unseen-gt0.false)))

pub returns-else-unseen-gt0-clause-left : goal.returns-else-unseen-gt0-clause-left
returns-else-unseen-gt0-clause-left c =
    let inv = c.loop-place.invariant in
    inv.2.counted ∙ ap (λ ps. c.args.left + length ps) (walked-all inv.2 (omega (arith, c.if-unseen-gt0.false)))
