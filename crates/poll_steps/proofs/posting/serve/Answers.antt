use Rattle.std.proofs.Common.{ℕ, List, Option, Some, None, drop, subst, sym, ◌∙◌}
use Rattle.rpc_base.specs.declared.fact.Fact.{Fact}
use Rattle.rpc_laws.specs.declared.tables.Timed.{Timed}
use Rattle.rpc_laws.specs.Posting.{next_begun, next_posted}
use Rattle.rpc_laws.specs.Steps.{NotesAll}
use Rattle.front_laws.proofs.OneWayLemmas.{notes-one}
use Rattle.node_rules.specs.SingleFacts.{at_clock}
use Rattle.poll_steps.specs.Steps.{IsStep}
use Rattle.poll_steps.proofs.PostLemmas.{rest-from, then-none, then-some}
use Rattle.poll_steps.proofs.RestLemmas.{rests-in-posting}
use Rattle.poll_steps.proofs.posting.serve.Goals as goal

pub returns-then-rests-clause-step : goal.returns-then-rests-clause-step
returns-then-rests-clause-step c =
    rests-in-posting c.args.i c.args.clock c.args.lists.now c.args.facts.now
    (sym c.rests.ensures ∙ c.if-rests.true)

pub returns-in_default-2-clause-step : goal.returns-in_default-2-clause-step
returns-in_default-2-clause-step c =
    let facts : List Fact = c.args.facts.now in
    let s : Timed = at_clock c.args.clock c.args.lists.now in
    let t : Timed = at_clock c.args.clock c.begin_calls.new.lists in
    let u : Timed = at_clock c.args.clock c.post_packets.new.lists in
    let one : IsStep (NotesAll (next_begun c.args.i)) s facts t (Some c.in-Some.begun) =
    subst (λ (o : Option ℕ). IsStep (NotesAll (next_begun c.args.i)) s facts t o) c.in-Some.is c.in_ok-begun.ensures.step in
    let two : IsStep (NotesAll (next_posted c.args.i)) t (drop c.in-Some.begun facts) u None =
    subst (λ (o : Option ℕ). IsStep (NotesAll (next_posted c.args.i)) t (drop c.in-Some.begun facts) u o)
    c.in_default-2.is
    (subst (λ (z : List Fact). IsStep (NotesAll (next_posted c.args.i)) t z u c.in_ok-posted.field-0)
    (rest-from facts c.in-Some.begun) c.in_ok-posted.ensures.step) in
    then-none (NotesAll (next_begun c.args.i)) (NotesAll (next_posted c.args.i)) (notes-one (next_begun c.args.i)) s
    facts c.in-Some.begun t u u one two

pub returns-clause-step : goal.returns-clause-step
returns-clause-step c =
    let facts : List Fact = c.args.facts.now in
    let s : Timed = at_clock c.args.clock c.args.lists.now in
    let t : Timed = at_clock c.args.clock c.begin_calls.new.lists in
    let u : Timed = at_clock c.args.clock c.post_packets.new.lists in
    let one : IsStep (NotesAll (next_begun c.args.i)) s facts t (Some c.in-Some.begun) =
    subst (λ (o : Option ℕ). IsStep (NotesAll (next_begun c.args.i)) s facts t o) c.in-Some.is c.in_ok-begun.ensures.step in
    let two : IsStep (NotesAll (next_posted c.args.i)) t (drop c.in-Some.begun facts) u (Some c.in-Some-2.posted) =
    subst (λ (o : Option ℕ). IsStep (NotesAll (next_posted c.args.i)) t (drop c.in-Some.begun facts) u o)
    c.in-Some-2.is
    (subst (λ (z : List Fact). IsStep (NotesAll (next_posted c.args.i)) t z u c.in_ok-posted.field-0)
    (rest-from facts c.in-Some.begun) c.in_ok-posted.ensures.step) in
    then-some (NotesAll (next_begun c.args.i)) (NotesAll (next_posted c.args.i)) s facts c.in-Some.begun
    c.in-Some-2.posted t u one two
