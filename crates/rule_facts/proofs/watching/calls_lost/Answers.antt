use Rattle.std.proofs.Common.{◌≡◌, ℕ, Some, List, arith, map, subst, sym, ◌∙◌}
use Rattle.rpc_base.specs.declared.event.Event.TheVariants.{DonePeerLost}
use Rattle.rpc_base.specs.declared.fact.Fact.{Fact}
use Rattle.rpc_laws.specs.declared.tables.Call.{Call}
use Rattle.rpc_laws.specs.Facts.{plain}
use Rattle.rule_facts.specs.Fronts.{Fronts}
use Rattle.rule_facts.proofs.WatchLemmas.{each-next, each-short, each-stop, taken-all}
use Rattle.rule_facts.proofs.watching.calls_lost.Goals as goal

pub returns-then-facts-place : goal.returns-then-facts-place
returns-then-facts-place c =
    let of : Call → Fact = λ d. plain c.args.me (DonePeerLost d.what.number) in
    each-short of c.args.calls.now c.loop-place.place c.at-call.result.now c.args.facts.now
    c.at-call.ensures
    c.loop-place.invariant c.if-facts-place.true

pub returns-then-not-says_lost : goal.returns-then-not-says_lost
returns-then-not-says_lost c =
    let of : Call → Fact = λ d. plain c.args.me (DonePeerLost d.what.number) in
    each-stop of c.args.calls.now c.loop-place.place c.at-call.result.now c.args.facts.now
    c.index-facts-place.result
    c.at-call.ensures c.loop-place.invariant c.if-facts-place.false c.index-facts-place.is
    (λ is. let said = c.says_lost.ensures.1 is in let clash = sym c.if-not-says_lost.true ∙ said in
    cc)

pub loop-place-preserved : goal.loop-place-preserved
loop-place-preserved c =
    let of : Call → Fact = λ d. plain c.args.me (DonePeerLost d.what.number) in
    each-next of c.args.calls.now c.loop-place.place c.at-call.result.now c.args.facts.now
    c.index-facts-place.result
    c.at-call.ensures c.loop-place.invariant c.if-facts-place.false c.index-facts-place.is
    (c.says_lost.ensures.0 c.if-not-says_lost.false)

pub returns : goal.returns
returns c =
    let of : Call → Fact = λ d. plain c.args.me (DonePeerLost d.what.number) in
    let end : c.loop-place.place ≡ c.len-end.result = omega arith in
    let all = taken-all c.args.calls.now c.loop-place.place (omega arith) in
    subst (λ (n : ℕ). Fronts (map of c.args.calls.now) c.args.facts.now (Some n)) end
    (subst (λ (z : List Call). Fronts (map of z) c.args.facts.now (Some c.loop-place.place)) all
    c.loop-place.invariant)
