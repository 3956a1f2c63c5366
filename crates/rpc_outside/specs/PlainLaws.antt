-- What a worker answers does not depend on what was served.
use Rattle.std.proofs.Common.{◌≡◌, ℕ, Bool, true, false, List, refl, ◌==◌, eqb-true, subst}
use Rattle.rpc_outside.specs.declared.service.Mode.TheVariants.{Inline, Background}
use Rattle.rpc_outside.specs.PlainAnswer.{plain_mode, plain_answer}
use Rattle.rpc_outside.specs.Served.{Served}

not-tally : (t : ℕ) (b : Bool) → (t == 3) ≡ b → plain_mode t ≡ Background → b ≡ false
not-tally t false e h = refl
not-tally t true e h =
    absurd (not-inline (subst (λ x. plain_mode x ≡ Background) (eqb-true t 3 e) h)) where
      not-inline : Inline ≡ Background → ⊥
      not-inline e = cc

pub steady-plain : (req_type : ℕ) (ask : List ℕ) (one other : Served)
    → plain_mode req_type ≡ Background → plain_answer one req_type ask
    ≡ plain_answer other req_type ask
steady-plain req_type ask one other h = rw (not-tally req_type (req_type == 3) refl h) refl
