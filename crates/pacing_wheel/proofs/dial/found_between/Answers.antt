use Rattle.std.proofs.Common.{◌<◌, ◌+◌, ap, arith, drop, length, refl, sym, ◌∙◌}
use Rattle.std.specs.List.{find}
use Rattle.pacing_wheel.specs.Wheel.{earlier, is_entry_of, together}
use Rattle.pacing_wheel.proofs.DialLemmas.{found-step}
use Rattle.pacing_wheel.proofs.WalkLemmas.{behind-step, earlier-then, walked-all, walked-some, walked-to}
use Rattle.pacing_wheel.proofs.dial.found_between.Goals.{then-loop-place-test+else-unseen-gt0, else-loop-place-test}
use Rattle.pacing_wheel.proofs.dial.found_between.Goals as goal

pub loop-place-init : goal.loop-place-init
loop-place-init c = (
  omega arith,
  refl,
  record { order = c.requires.order; enough = c.requires.enough; counted = refl },
)

pub overflow_sub-unseen : goal.overflow_sub-unseen
overflow_sub-unseen c =
    let w = c.loop-place.invariant.2 in
    rw c.len_of-unseen.ensures (walked-some w c.loop-place-test.true
    (omega (arith, c.loop-place-test.true, c.requires.inside)))

pub loop-place-preserved : goal.loop-place-preserved
loop-place-preserved c =
    let inv = c.loop-place.invariant in
    let ls = c.args.chains.now.lists in
    let in_it : c.loop-place.place < length ls = omega (arith, c.loop-place-test.true, c.requires.inside) in
    let rest = find (is_entry_of c.args.owner.now c.args.number) (together (drop (c.loop-place.place + 1) ls)) in
    let some = walked-some inv.2 c.loop-place-test.true in_it in (
      omega (arith, inv.0),
      inv.1 ∙ (ap (earlier c.loop-place.best) (found-step (is_entry_of c.args.owner.now c.args.number) ls c.loop-place.place c.requires.sorted in_it)
          ∙ (ap (λ r. earlier c.loop-place.best (earlier r rest)) (sym c.first_with.ensures)
          ∙ (sym (earlier-then c.loop-place.best c.first_with.result rest)
          ∙ ap (λ b. earlier b rest) (sym c.earlier-best.ensures)))),
      record {
        order = omega (arith, c.loop-place-test.true);
        enough = c.requires.enough;
        counted = omega (arith, inv.2.counted, behind-step ls c.loop-place.place in_it, c.len_of-unseen.ensures, some);
      },
    )

pub returns-clause-best : goal.returns-clause-best
returns-clause-best c =
    let inv = c.loop-place.invariant in
    elim c.loop-place-test.branch [
      | then-loop-place-test+else-unseen-gt0 w ↦ inv.1 ∙ ap (λ ps. earlier c.loop-place.best (find (is_entry_of c.args.owner.now c.args.number) ps))
          (walked-all inv.2 (omega (arith, w.if-unseen-gt0.false)))
      | else-loop-place-test w ↦ inv.1 ∙ ap (λ ps. earlier c.loop-place.best (find (is_entry_of c.args.owner.now c.args.number) ps))
          (walked-to inv.2 (omega (arith, w.loop-place-test.false)))
    ]

pub returns-clause-left : goal.returns-clause-left
returns-clause-left c =
    let inv = c.loop-place.invariant in
    let ls = c.args.chains.now.lists in
    elim c.loop-place-test.branch [
      | then-loop-place-test+else-unseen-gt0 w ↦ inv.2.counted
          ∙ ap (λ ps. c.args.left + length ps) (walked-all inv.2 (omega (arith, w.if-unseen-gt0.false)))
      | else-loop-place-test w ↦ inv.2.counted
          ∙ ap (λ ps. c.args.left + length ps) (walked-to inv.2 (omega (arith, w.loop-place-test.false)))
    ]
