use Rattle.std.proofs.Common.{◌≡◌, ◌∙◌}
use Rattle.rpc_world.proofs.PairLemmas.{server-refuses, server-agrees, seen-at}
use Rattle.rpc_world.proofs.pairing.pair_at_server.Goals as goal

pub returns-clause-performed : goal.returns-clause-performed
returns-clause-performed c =
    let is_b : c.from.result ≡ c.args.b = c.from.ensures ∙ c.b.view_is in
    server-agrees c.args.a c.args.b c.args.credits _ _ _ _ _ _ _
    (seen-at _ _ _ _ c.stage.view_is (rw is_b at c.at.ensures)) c.if-branch.false
    c.in_ok-refuse.ensures.refusal c.in_ok-make_ends.ensures.performed

pub returns-then-branch-clause-performed : goal.returns-then-branch-clause-performed
returns-then-branch-clause-performed c =
    let is_b : c.from.result ≡ c.args.b = c.from.ensures ∙ c.b.view_is in
    server-refuses c.args.a c.args.b c.args.credits c.args.stage.now _ _ _ _ c.requires.client
    (seen-at _ _ _ _ c.stage.view_is (rw is_b at c.at.ensures)) c.if-branch.true
    c.in_ok-refuse.ensures.refusal
