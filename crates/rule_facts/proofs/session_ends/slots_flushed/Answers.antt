use Rattle.std.proofs.Common.{◌≡◌, ◌+◌, ◌-◌, ℕ, List, Option, Some, None, arith, drop, length, subst, take, ◌∙◌}
use Rattle.std.specs.List.{find}
use Rattle.rpc_base.specs.declared.fact.Fact.{Fact}
use Rattle.rpc_laws.specs.Requests.{in_slot_of}
use Rattle.rpc_laws.specs.ServerTable.{flushes}
use Rattle.rule_facts.specs.Fronts.{Fronts}
use Rattle.rule_facts.proofs.FrontLemmas.{flats-next, flats-stop, fronts-within, rest-is, slot-at, slots}
use Rattle.rule_facts.proofs.session_ends.slots_flushed.Goals as goal

pub returns-in_default-clause-fronts : goal.returns-in_default-clause-fronts
returns-in_default-clause-fronts c =
    let of : ℕ → List Fact =
    λ slot. flushes c.args.me c.args.queued.now c.args.server.now.way.number
    (find (in_slot_of slot) c.args.server.now.slots) in
    let i : ℕ = c.loop-slot.slot in
    let k : ℕ = c.of-first.result in
    let facts : List Fact = c.args.facts.now in
    let count : ℕ = c.loop-slot.count in
    let whole = rest-is facts count c.loop-slot.invariant.1 in
    let at : k ≡ i = c.of-first.ensures ∙ omega arith in
    let none : Fronts (of k) (take (length facts - count) (drop count facts)) None =
    subst (λ (o : Option ℕ). Fronts (of k) (take (length facts - count) (drop count facts)) o) c.in_default.is
    c.in_ok-more.ensures.fronts in
    flats-stop of slots i k facts count c.loop-slot-test.true (at ∙ slot-at i c.loop-slot-test.true)
    c.loop-slot.invariant.0 (subst (λ (z : List Fact). Fronts (of k) z None) whole none)

pub loop-slot-preserved : goal.loop-slot-preserved
loop-slot-preserved c =
    let of : ℕ → List Fact =
    λ slot. flushes c.args.me c.args.queued.now c.args.server.now.way.number
    (find (in_slot_of slot) c.args.server.now.slots) in
    let i : ℕ = c.loop-slot.slot in
    let k : ℕ = c.of-first.result in
    let facts : List Fact = c.args.facts.now in
    let count : ℕ = c.loop-slot.count in
    let more : ℕ = c.in-Some.more in
    let whole = rest-is facts count c.loop-slot.invariant.1 in
    let at : k ≡ i = c.of-first.ensures ∙ omega arith in
    let some : Fronts (of k) (take (length facts - count) (drop count facts)) (Some more) =
    subst (λ (o : Option ℕ). Fronts (of k) (take (length facts - count) (drop count facts)) o) c.in-Some.is
    c.in_ok-more.ensures.fronts in
    let next =
    flats-next of slots i k facts count more c.loop-slot-test.true (at ∙ slot-at i c.loop-slot-test.true)
    c.loop-slot.invariant.0 (subst (λ (z : List Fact). Fronts (of k) z (Some more)) whole some) in
    (next, fronts-within _ facts (count + more) next, c.in_ok-more.ensures.cause ∙ c.loop-slot.invariant.2)
