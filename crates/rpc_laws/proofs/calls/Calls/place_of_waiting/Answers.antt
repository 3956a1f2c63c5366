use Rattle.std.proofs.Common.{ap, ◌∙◌, arith}
use Rattle.std.specs.List.{position}
use Rattle.rpc_laws.specs.Calls.{is_waiting}
use Rattle.rpc_laws.proofs.PartsLemmas.{place-front, place-behind, place-nowhere}
use Rattle.rpc_laws.proofs.calls.Calls.place_of_waiting.Goals as goal

pub returns-in-Some : goal.returns-in-Some
returns-in-Some c =
    place-front is_waiting c.self.inside.begun.items c.self.inside.waiting.items c.args.self.now
    c.in-Some.place c.self.view_is (c.in-Some.ensures
    ∙ ap (position is_waiting) c.as_slice.ensures.value)

pub returns-in-Some-waiting_behind : goal.returns-in-Some-waiting_behind
returns-in-Some-waiting_behind c =
    place-behind is_waiting c.self.inside.begun.items c.self.inside.waiting.items c.args.self.now
    c.in-Some-waiting_behind.place c.len.result c.self.view_is
    (c.in-None.ensures
    ∙ ap (position is_waiting) c.as_slice.ensures.value) c.in-Some-waiting_behind.ensures
    (omega arith)

pub returns-in-None-waiting_behind : goal.returns-in-None-waiting_behind
returns-in-None-waiting_behind c =
    place-nowhere is_waiting c.self.inside.begun.items c.self.inside.waiting.items c.args.self.now
    c.self.view_is (c.in-None.ensures
    ∙ ap (position is_waiting) c.as_slice.ensures.value) c.in-None-waiting_behind.ensures
