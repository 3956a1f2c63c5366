use Rattle.std.proofs.Common.{sym, ap, ◌∙◌, ◌++◌}
use Rattle.std.specs.List.{position}
use Rattle.rpc_base.proofs.FirstLemmas.{all-left}
use Rattle.rpc_laws.specs.BegunPart.{IsWaiting}
use Rattle.rpc_laws.specs.Calls.{is_call}
use Rattle.rpc_laws.proofs.PartsLemmas.{taken-front, taken-behind}
use Rattle.rpc_laws.proofs.calls.Calls.end.Goals as goal

pub returns-in-Some : goal.returns-in-Some
returns-in-Some c =
    ap (λ xs. xs ++ c.self.inside.waiting.items) c.remove.ensures.items
    ∙ taken-front
    (is_call c.args.number) c.self.inside.begun.items c.self.inside.waiting.items c.args.self.now
    c.in-Some.place c.self.view_is
    (sym (c.in-Some.ensures ∙ ap (position (is_call c.args.number)) c.as_slice.ensures.value))

pub invariant_of-self-2 : goal.invariant_of-self-2
invariant_of-self-2 c =
    rw c.end_behind.ensures
    (all-left (is_call c.args.number) IsWaiting c.self.inside.waiting.items c.self.invariant)

pub returns : goal.returns
returns c =
    ap (λ xs. c.self.inside.begun.items ++ xs) c.end_behind.ensures
    ∙ taken-behind
    (is_call c.args.number) c.self.inside.begun.items c.self.inside.waiting.items c.args.self.now
    c.self.view_is
    (sym (c.in_default.ensures ∙ ap
    (position (is_call c.args.number)) c.as_slice.ensures.value))
