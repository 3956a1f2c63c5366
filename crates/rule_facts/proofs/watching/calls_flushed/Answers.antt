use Rattle.std.proofs.Common.{◌∙◌, ◌+◌, ◌-◌, ℕ, List, Option, Some, None, arith, drop, length, subst}
use Rattle.std.proofs.Common.{take}
use Rattle.std.specs.Prelude.{flat_map}
use Rattle.rpc_base.specs.declared.fact.Fact.{Fact}
use Rattle.rpc_laws.specs.declared.tables.Call.{Call}
use Rattle.rpc_laws.specs.GoBackN.{flushes_of}
use Rattle.rule_facts.specs.Fronts.{Fronts}
use Rattle.rule_facts.proofs.FrontLemmas.{fronts-within, rest-is}
use Rattle.rule_facts.proofs.WatchLemmas.{calls-next, calls-stop, taken-all}
use Rattle.rule_facts.proofs.watching.calls_flushed.Goals as goal

pub returns-in_default-clause-fronts : goal.returns-in_default-clause-fronts
returns-in_default-clause-fronts c =
    let of : Call → List Fact =
    λ d. flushes_of c.args.me c.args.session c.args.queued.now d.progress in
    let facts : List Fact = c.args.facts.now in
    let count : ℕ = c.loop-place.count in
    let call : Call = c.at-call.result.now in
    let whole = rest-is facts count c.loop-place.invariant.1 in
    let none : Fronts (of call) (take (length facts - count) (drop count facts)) None =
    subst (λ (o : Option ℕ). Fronts (of call) (take (length facts - count) (drop count facts)) o)
    c.in_default.is
    c.in_ok-more.ensures.fronts in
    calls-stop of c.args.calls.now c.loop-place.place call facts count c.at-call.ensures
    c.loop-place.invariant.0
    (subst (λ (z : List Fact). Fronts (of call) z None) whole none)

pub loop-place-preserved : goal.loop-place-preserved
loop-place-preserved c =
    let of : Call → List Fact =
    λ d. flushes_of c.args.me c.args.session c.args.queued.now d.progress in
    let facts : List Fact = c.args.facts.now in
    let count : ℕ = c.loop-place.count in
    let call : Call = c.at-call.result.now in
    let more : ℕ = c.in-Some.more in
    let whole = rest-is facts count c.loop-place.invariant.1 in
    let some : Fronts (of call) (take (length facts - count) (drop count facts)) (Some more) =
    subst (λ (o : Option ℕ). Fronts (of call) (take (length facts - count) (drop count facts)) o)
    c.in-Some.is
    c.in_ok-more.ensures.fronts in
    let next =
    calls-next of c.args.calls.now c.loop-place.place call facts count more c.at-call.ensures
    c.loop-place.invariant.0 (subst (λ (z : List Fact). Fronts (of call) z (Some more)) whole some)
    in
    (next, fronts-within _ facts (count + more) next, c.in_ok-more.ensures.cause ∙ c.loop-place.invariant.2)

pub returns-clause-fronts : goal.returns-clause-fronts
returns-clause-fronts c =
    let of : Call → List Fact =
    λ d. flushes_of c.args.me c.args.session c.args.queued.now d.progress in
    let all = taken-all c.args.calls.now c.loop-place.place (omega arith) in
    subst (λ (z : List Call). Fronts (flat_map of z) c.args.facts.now (Some c.loop-place.count)) all
    c.loop-place.invariant.0
