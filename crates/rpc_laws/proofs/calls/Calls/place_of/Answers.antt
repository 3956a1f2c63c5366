use Rattle.std.proofs.Common.{ap, ◌∙◌, arith}
use Rattle.std.specs.List.{position}
use Rattle.rpc_laws.specs.Calls.{is_call}
use Rattle.rpc_laws.proofs.PartsLemmas.{place-front, place-behind, place-nowhere}
use Rattle.rpc_laws.proofs.calls.Calls.place_of.Goals as goal

pub returns-in-Some : goal.returns-in-Some
returns-in-Some c =
    place-front
    (is_call c.args.number) c.self.inside.begun.items c.self.inside.waiting.items
    c.args.self.now
    c.in-Some.place c.self.view_is (c.in-Some.ensures
    ∙ ap (position (is_call c.args.number)) c.as_slice.ensures.value)

pub returns-in-Some-place_behind : goal.returns-in-Some-place_behind
returns-in-Some-place_behind c =
    place-behind
    (is_call c.args.number) c.self.inside.begun.items c.self.inside.waiting.items
    c.args.self.now
    c.in-Some-place_behind.place c.len.result c.self.view_is
    (c.in-None.ensures
    ∙ ap (position
    (is_call c.args.number)) c.as_slice.ensures.value) c.in-Some-place_behind.ensures
    (omega arith)

pub returns-in-None-place_behind : goal.returns-in-None-place_behind
returns-in-None-place_behind c =
    place-nowhere
    (is_call c.args.number) c.self.inside.begun.items c.self.inside.waiting.items
    c.args.self.now
    c.self.view_is (c.in-None.ensures
    ∙ ap (position
    (is_call c.args.number)) c.as_slice.ensures.value) c.in-None-place_behind.ensures
