use Rattle.std.proofs.Common.{◌≡◌, ◌≢◌, Some, None, sym, ◌∙◌}
use Rattle.server_core.specs.contracts.session.ServerSession.{the_view}
use Rattle.server_core.specs.KeepsPool.{IsKept, IsStored}
use Rattle.server_core.specs.Session.{answer_of, is_in_slot, newest}
use Rattle.server_core.proofs.AskedLemmas.{answer-later, answer-none, answer-own, answer-placed, answer-unplaced}
use Rattle.server_core.proofs.session.ServerSession.answer.Goals as goal
use Rattle.rpc_base.proofs.FirstLemmas.{found-holds}

pub returns-in_default : goal.returns-in_default
returns-in_default c =
    let none : newest c.args.request (the_view c.self.inside) ≡ None =
    rw c.slot.ensures at (sym c.in_default.ensures) in
    rw (← c.self.view_is) (answer-none c.args.pool.now (the_view c.self.inside) c.args.request
    c.self.invariant (rw none tt))

pub returns-then-get : goal.returns-then-get
returns-then-get c =
    let slot : newest c.args.request (the_view c.self.inside) ≡ Some c.in-Some.newest =
    rw c.slot.ensures at (sym c.in-Some.ensures) in
    let away : c.in-Some.newest.number ≢ c.args.request =
    λ same. c.if-get.true (c.get.ensures.value ∙ same ∙ sym c.get-2.ensures.value) in
    rw (← c.self.view_is) (answer-none c.args.pool.now (the_view c.self.inside) c.args.request
    c.self.invariant (rw slot away))

pub returns-in_default-answer_place : goal.returns-in_default-answer_place
returns-in_default-answer_place c =
    let slot : newest c.args.request (the_view c.self.inside) ≡ Some c.in-Some.newest =
    rw c.slot.ensures at (sym c.in-Some.ensures) in
    let same : c.in-Some.newest.number ≡ c.args.request =
    sym c.get.ensures.value ∙ c.if-get.false ∙ c.get-2.ensures.value in
    let none = answer-unplaced (answer_of c.in-Some.newest.state)
    (sym c.answer_place.ensures ∙ c.in_default-answer_place.is) in
    rw (← c.self.view_is) (answer-later c.args.pool.now (the_view c.self.inside) c.args.request
    c.in-Some.newest c.self.invariant slot same none)

pub get-requires-3 : goal.get-requires-3
get-requires-3 c =
    let keeps = rw (← c.self.view_is) at c.requires.keeps_pool in
    let kept = found-holds (is_in_slot c.slot.result)
    (IsKept c.args.pool.now) c.self.inside.slots c.in-Some.newest keeps.kept
    (sym c.in-Some.ensures) in
    let (a, is, place) =
    answer-placed (answer_of c.in-Some.newest.state) c.in-Some-answer_place.place
    (sym c.answer_place.ensures ∙ c.in-Some-answer_place.is) in
    let stored : IsStored c.args.pool.now a = rw is at kept.answer in
    rw (← place) stored.full

pub returns : goal.returns
returns c =
    let slot : newest c.args.request (the_view c.self.inside) ≡ Some c.in-Some.newest =
    rw c.slot.ensures at (sym c.in-Some.ensures) in
    let same : c.in-Some.newest.number ≡ c.args.request =
    sym c.get.ensures.value ∙ c.if-get.false ∙ c.get-2.ensures.value in
    rw (← c.self.view_is, c.bytes.ensures.message)
    (answer-own c.args.pool.now (the_view c.self.inside) c.args.request c.in-Some.newest
    c.in-Some-answer_place.place c.get-3.result.now c.self.invariant slot same
    (sym c.answer_place.ensures ∙ c.in-Some-answer_place.is) c.get-3.ensures)
