use Rattle.std.proofs.Common.{◌≡◌, ◌<◌, ◌≤◌, ◌∙◌, List, [], ap, subst, length, refl, rules, arith}
use Rattle.std.proofs.lemmas.List.{take_all, take_more}
use Rattle.script_grammar.specs.declared.line.Line.{Line}
use Rattle.sim_script.specs.FollowsScript.{FollowsFrom, empty_stage}
use Rattle.sim_script.proofs.FollowsLemmas.{follows-more}
use Rattle.end_laws.proofs.ScriptLemmas.{script-two}
use Rattle.world_laws.proofs.FewLemmas.{script-few}
use Rattle.world_laws.proofs.ScriptLaws.{script-runs}
use Rattle.rpc_world.specs.Answered.{Play, stage_of}
use Rattle.rpc_world.proofs.LineLemmas.{ready, stands-after, stands-first}
use Rattle.rpc_world.proofs.PlainLemmas.{plainly-append, plainly-none}
use Rattle.rpc_world.proofs.FollowLemmas.{follows-by}
use Rattle.rpc_world.proofs.StandLemmas.{all-stand}
use Rattle.rpc_world.proofs.world.World.play.Goals as goal

pub loop-line-init : goal.loop-line-init
loop-line-init c =
    rw (c.new-rec.ensures.facts, c.new-stage.ensures)
    ((refl, refl), plainly-none [], stands-first _, omega arith)

pub loop-line-preserved : goal.loop-line-preserved
loop-line-preserved c =
    let within : c.loop-line.line-index < length c.lines-line-items.result.now = omega arith in
    let p = c.in_ok-execute.ensures.performed in
    rw (
      take_more c.lines-line-items.result.now c.loop-line.line-index c.line-item.result within,
      ← c.line-item.is,
      p.grew,
    ) (
      follows-more _ _ _ _ _ _ _ c.loop-line.invariant.0 p.does,
      plainly-append _ _ _ _ _ c.loop-line.invariant.1 p.plain,
      stands-after _ _ _ _ _ _ _ _
          c.lines-line-items.ensures.lines c.lines-line-items.ensures.script within c.line-item.is
          c.loop-line.invariant.2 p,
      omega (arith, c.in_ok-execute.ensures.cause, c.loop-line.invariant.3),
    )

pub returns-clause-follows : goal.returns-clause-follows
returns-clause-follows c =
    let same : c.of.result ≡ c.loop-line.rec.facts.items = search rules in
    let long : length c.lines-line-items.result.now ≤ c.loop-line.line-index = omega arith in
    let whole = take_all c.loop-line.line-index c.lines-line-items.result.now long in
    let all : FollowsFrom c.args.script.now empty_stage c.loop-line.rec.facts.items (stage_of c.loop-line.stage) =
    subst (λ (ls : List Line). FollowsFrom ls empty_stage c.loop-line.rec.facts.items
    (stage_of c.loop-line.stage)) (whole ∙ c.lines-line-items.ensures.lines)
    c.loop-line.invariant.0 in
    rw same (follows-by _ _ c.loop-line.stage all c.loop-line.invariant.1)

pub execute-requires-clause-ranges : goal.execute-requires-clause-ranges
execute-requires-clause-ranges c =
    let within : c.loop-line.line-index < length c.lines-line-items.result.now = omega arith in
    (ready _ _ _ _ _ c.lines-line-items.ensures.lines c.lines-line-items.ensures.script
    within c.line-item.is c.loop-line.invariant.2).ranges

pub execute-requires-clause-names : goal.execute-requires-clause-names
execute-requires-clause-names c =
    let within : c.loop-line.line-index < length c.lines-line-items.result.now = omega arith in
    (ready _ _ _ _ _ c.lines-line-items.ensures.lines c.lines-line-items.ensures.script
    within c.line-item.is c.loop-line.invariant.2).names

pub execute-requires-clause-clock : goal.execute-requires-clause-clock
execute-requires-clause-clock c =
    let within : c.loop-line.line-index < length c.lines-line-items.result.now = omega arith in
    (ready _ _ _ _ _ c.lines-line-items.ensures.lines c.lines-line-items.ensures.script
    within c.line-item.is c.loop-line.invariant.2).clock

pub execute-requires-clause-anew : goal.execute-requires-clause-anew
execute-requires-clause-anew c =
    let within : c.loop-line.line-index < length c.lines-line-items.result.now = omega arith in
    (ready _ _ _ _ _ c.lines-line-items.ensures.lines c.lines-line-items.ensures.script
    within c.line-item.is c.loop-line.invariant.2).anew

pub execute-requires-clause-numbered : goal.execute-requires-clause-numbered
execute-requires-clause-numbered c = c.loop-line.invariant.2.numbered

pub invariant_of-result : goal.invariant_of-result
invariant_of-result c =
    let same : c.of.result ≡ c.loop-line.rec.facts.items = search rules in
    let long : length c.lines-line-items.result.now ≤ c.loop-line.line-index = omega arith in
    let whole = take_all c.loop-line.line-index c.lines-line-items.result.now long in
    let all : FollowsFrom c.args.script.now empty_stage c.loop-line.rec.facts.items
    (stage_of c.loop-line.stage) =
    subst (λ (ls : List Line). FollowsFrom ls empty_stage c.loop-line.rec.facts.items
    (stage_of c.loop-line.stage)) (whole ∙ c.lines-line-items.ensures.lines)
    c.loop-line.invariant.0 in
    let is = c.lines-line-items.ensures.script in
    let plain = c.loop-line.invariant.1 in
    let ran = script-runs c.args.script.now c.loop-line.rec.facts.items (stage_of c.loop-line.stage)
    (script-two _ is) (script-few _ is)
    (record { commands = all; answers = λ n. (plain.serves n [] refl).0; whole = plain.whole }) in
    rw (same, ap (λ (z : Play). z.ends) c.stage-2.view_is) (all-stand _ c.loop-line.stage
    plain c.loop-line.invariant.2.numbered.playing ran)
