-- The fact that ends a poll.
use Rattle.std.proofs.Common.{◌≡◌, ◌++◌, ℕ, suc, Some, None, List, [], ◌∷◌, length, drop, refl, sym}
use Rattle.std.proofs.Common.{ap, ◌∙◌}
use Rattle.std.proofs.Common.{arith, slice_get}
use Rattle.rpc_base.specs.declared.event.Event.TheVariants.{Polled}
use Rattle.rpc_base.specs.declared.fact.Fact.{Fact}
use Rattle.rpc_laws.specs.declared.tables.Lists.{Lists}
use Rattle.rpc_laws.specs.declared.tables.Timed.{Timed}
use Rattle.rpc_laws.specs.Facts.{plain}
use Rattle.rpc_laws.specs.NodeLists.{after}
use Rattle.rpc_laws.specs.PollOrder.{Closes}
use Rattle.node_rules.specs.SingleFacts.{at_clock}
use Rattle.poll_steps.specs.Steps.{IsStep}
use Rattle.poll_steps.proofs.PostLemmas.{drop-at}
use Rattle.poll_steps.proofs.StepLemmas.{step-first}

-- no fact is left
pub closes-past : (s : Timed) (facts : List Fact) (v : Timed) → length facts ≡ 0
    → IsStep Closes s facts v None
closes-past s [] v e = record {
  some = tt;
  only = λ no x u begins h.
      let both : [] ≡ plain s.lists.me (Polled s.clock) ∷ begins.rest =
      begins.parted ∙ ap (λ (z : List Fact). z ++ begins.rest) h.facts in cc;
}
closes-past s (f ∷ facts) v e = absurd (omega (arith, e))

-- the first isn't the end
pub closes-other : (s : Timed) (facts : List Fact) (f : Fact) (v : Timed)
    → slice_get facts 0 ≡ Some f
    → (f ≡ plain s.lists.me (Polled s.clock) → ⊥) → IsStep Closes s facts v None
closes-other s facts f v at differs = record {
  some = tt;
  only = λ no x u begins h.
      let both : f ∷ drop (suc 0) facts ≡ plain s.lists.me (Polled s.clock) ∷ begins.rest =
      sym (drop-at facts 0 f at) ∙ (begins.parted ∙ ap (λ (z : List Fact). z ++ begins.rest)
      h.facts) in
      let same : f ≡ plain s.lists.me (Polled s.clock) = cc in
      differs same;
}

-- it is
pub closes-now : (clock : ℕ) (s new : Lists) (facts : List Fact) (f : Fact)
    → slice_get facts 0 ≡ Some f
    → f ≡ plain s.me (Polled clock) → new ≡ after clock s f
    → IsStep Closes (at_clock clock s) facts (at_clock clock new) (Some 1)
closes-now clock s new facts f at is e =
    step-first Closes clock s new facts f at (record
    { facts = ap (λ (z : Fact). z ∷ []) is; goes = refl }) e
