use Rattle.std.proofs.Common.{◌≡◌, ◌∙◌, add-one, ap, arith, length, refl}
use Rattle.rpc_world.specs.Answered.{Play}
use Rattle.rpc_world.proofs.StageLemmas.{performed-none, performed-joins}
use Rattle.rpc_world.proofs.StaysLemmas.{performed-numbered, stays-carries, times-flight}
use Rattle.sim_script.specs.FollowsScript.{Carries, Times}
use Rattle.rpc_world.proofs.settling.carry_all.Goals as goal

pub copies-init : goal.copies-init
copies-init c = (performed-none _ _ _ (refl, refl), omega arith)

pub copies-preserved : goal.copies-preserved
copies-preserved c = (
  rw add-one (performed-joins _ _ _ _ _ _ _ _ c.copies.invariant.0 c.in_ok-carry_first.ensures.performed),
  omega (arith, c.in_ok-carry_first.ensures.cause, c.copies.invariant.1),
)

pub carry_first-requires-clause-some : goal.carry_first-requires-clause-some
carry_first-requires-clause-some c =
    let gone = times-flight c.copies.i _ _ _ c.copies.invariant.0.does in
    let there : c.len-count.result ≡ length c.args.stage.now.flight =
    c.len-count.ensures ∙ ap (λ (z : Play). length z.flight) c.stage.view_is in
    omega (arith, gone, there, c.copies-test.true)

pub carry_first-requires-clause-numbered : goal.carry_first-requires-clause-numbered
carry_first-requires-clause-numbered c =
    performed-numbered (Times (Carries 0) c.copies.i) (stays-carries c.copies.i) _ _ _ _ c.copies.invariant.0
    c.requires.numbered
