use Rattle.std.proofs.Common.{◌≡◌, ◌∙◌}
use Rattle.rpc_world.proofs.PairLemmas.{client-refuses, client-agrees, seen-at}
use Rattle.rpc_world.proofs.pairing.pair.Goals as goal

pub returns-clause-performed : goal.returns-clause-performed
returns-clause-performed c =
    let is_a : c.from.result ≡ c.args.a = c.from.ensures ∙ c.a.view_is in
    client-agrees c.args.a c.args.b c.args.credits _ _ _ _ _ _ _
    (seen-at _ _ _ _ c.stage.view_is (rw is_a at c.at.ensures)) c.if-branch.false
    c.in_ok-refuse.ensures.refusal c.in_ok-pair_at_server.ensures.performed

pub returns-then-branch-clause-performed : goal.returns-then-branch-clause-performed
returns-then-branch-clause-performed c =
    let is_a : c.from.result ≡ c.args.a = c.from.ensures ∙ c.a.view_is in
    client-refuses c.args.a c.args.b c.args.credits c.args.stage.now _ _ _ _ c.requires.server
    (seen-at _ _ _ _ c.stage.view_is (rw is_a at c.at.ensures)) c.if-branch.true
    c.in_ok-refuse.ensures.refusal
