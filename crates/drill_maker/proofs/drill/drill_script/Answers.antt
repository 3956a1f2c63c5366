use Rattle.std.proofs.Common.{◌≡◌, ◌+◌, List, ◌++◌, ◌∙◌, ap, arith, length, refl}
use Rattle.rand_pcg.specs.Lcg.{Lcg}
use Rattle.script_grammar.specs.declared.line.Command.{Command}
use Rattle.drill_maker.specs.Draws.{seeded}
use Rattle.drill_maker.specs.Drill.{drawn_call, drawn_calls, drawn_noises, nodes, pairs, rest_after}
use Rattle.drill_maker.proofs.DrillLemmas.{call_added, calls_next, drill_whole, lines_more, no_calls}
use Rattle.drill_maker.proofs.DrillLemmas.{seeded_by}
use Rattle.drill_maker.proofs.drill.drill_script.Goals as goal

pub loop-call-init : goal.loop-call-init
loop-call-init c =
    let none = no_calls c.args.calls (seeded c.args.seed) in
    let rng : c.seed_from_u64-rng.result ≡ seeded c.args.seed =
    c.seed_from_u64-rng.ensures ∙ seeded_by c.args.seed in
    let begun : c.add_pairs.new.draft ≡ nodes ++ pairs =
    c.in_ok-add_pairs.ensures.added ∙ ap (λ (d : List Command). d ++ pairs) c.in_ok-draft.ensures.begun in (
      rw none begun,
      rw none rng,
      λ some. omega (arith, ap (λ (d : List Command). length d) begun),
      refl,
    )

pub loop-call-preserved : goal.loop-call-preserved
loop-call-preserved c =
    let before = c.loop-call.invariant in
    let calls = c.args.calls in
    let n = c.loop-call.call in
    let g = seeded c.args.seed in
    let call = (drawn_call c.loop-call.rng).0 in
    let noises = (drawn_noises 6 c.add_call.new.rng).0 in
    let rest = rest_after calls (n + 1) in
    let next : c.add_call.new.rng ≡ (drawn_call (drawn_calls calls n g).1).1 =
    c.in_ok-add_call.ensures.next ∙ ap (λ (r : Lcg). (drawn_call r).1) before.1 in
    let added : (((nodes ++ pairs) ++ (drawn_calls calls n g).0) ++ call) ++ noises ++ rest
    ≡ (nodes ++ pairs) ++ (drawn_calls calls (n + 1) g).0 =
    call_added calls n g (nodes ++ pairs) call noises rest (ap (λ (r : Lcg). (drawn_call r).0) before.1)
    (ap (λ (r : Lcg). (drawn_noises 6 r).0) next) refl in (
      c.in_ok-add_rest_after.ensures.added ∙ ap (λ (d : List Command). d ++ rest)
          (c.in_ok-add_noises.ensures.added ∙ ap (λ (d : List Command). d ++ noises)
          (c.in_ok-add_call.ensures.added ∙ ap (λ (d : List Command). d ++ call) before.0))
          ∙ added,
      c.in_ok-add_noises.ensures.next ∙ ap (λ (r : Lcg). (drawn_noises 6 r).1) next ∙ rw calls_next refl,
      λ less. lines_more calls n (length c.loop-call.draft) (length c.add_noises.new.draft)
          (length c.add_rest_after.new.draft) (before.2 (omega arith))
          (omega (arith, c.in_ok-add_call.ensures.length, c.in_ok-add_noises.ensures.length))
          c.in_ok-add_rest_after.ensures.length c.in_ok-add_rest_after.ensures.none less,
      c.in_ok-add_rest_after.ensures.cause ∙ c.in_ok-add_noises.ensures.cause
          ∙ c.in_ok-add_call.ensures.cause ∙ before.3,
    )

pub returns-clause-script : goal.returns-clause-script
returns-clause-script c =
    let all : c.loop-call.call ≡ c.args.calls = omega arith in
    drill_whole c.args.seed c.args.calls c.into_script.result c.loop-call.draft c.into_script.ensures.lines
    (c.loop-call.invariant.0
    ∙ ap (λ n. nodes ++ pairs ++ (drawn_calls c.args.calls n (seeded c.args.seed)).0) all)
