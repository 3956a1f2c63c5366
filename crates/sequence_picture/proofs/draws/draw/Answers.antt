use Rattle.std.proofs.Common.{◌≡◌, List, ◌++◌, map, ap, ◌∙◌, arith, length, subst, sym}
use Rattle.sequence_picture.specs.Copies.{AllJoin}
use Rattle.sequence_picture.specs.Drawing.{drawing, flying}
use Rattle.sequence_picture.specs.declared.things.Track.{Track}
use Rattle.sequence_picture.proofs.DrawLemmas.{draw-end}
use Rattle.sequence_picture.proofs.JoinLemmas.{drawing-joins}
use Rattle.sequence_picture.proofs.draws.draw.Goals as goal

pub returns-clause-joins : goal.returns-clause-joins
returns-clause-joins c =
    let all : c.loop-place.place ≡ length c.args.facts.now = omega arith in
    let whole = draw-end c.args.facts.now c.loop-place.place c.loop-place.tracks c.loop-place.drawn
    all c.loop-place.invariant.0 in
    let is : c.show_flying.new.drawn ≡ drawing c.args.facts.now =
    c.in_ok-show_flying.ensures.drawn
    ∙ (ap (λ (ts : List Track). c.loop-place.drawn ++ map flying ts) c.as_slice.ensures ∙ whole) in
    subst (AllJoin c.args.facts.now) (sym is) (drawing-joins c.args.facts.now)
