-- Each call of a joint run ends with its own run's answer, whatever the services of its nodes.
use Rattle.std.proofs.Common.{◌≡◌, ℕ, List, [], ◌∷◌, subst}
use Rattle.end_laws.proofs.AnswerLemmas.{answers-each}
use Rattle.end_laws.proofs.GoodStart.{first-good, first-right, first-valid}
use Rattle.end_laws.proofs.JointLeads.{joint-leads}
use Rattle.end_laws.proofs.OwnLaw.{course-own}
use Rattle.end_laws.specs.JointRun.{services, JointAnswersOwn, PlainAnswersOwn}
use Rattle.end_laws.specs.Moments.{first_moment}
use Rattle.rpc_base.specs.declared.event.Event.{Event}
use Rattle.rpc_base.specs.declared.fact.Fact.{Fact}
use Rattle.rpc_base.specs.declared.fact.Who.{Who}
use Rattle.rpc_base.specs.declared.fact.Who.TheVariants.{Node, Net}
use Rattle.rpc_laws.specs.Endpoints.{Lived, present, told}
use Rattle.rpc_laws.specs.OwnAnswer.{AtEach, OwnAt, OwnEvent}
use Rattle.rpc_laws.specs.Service.{Serving, plain_serving}

pub joint-own : JointAnswersOwn
joint-own parties h t run =
    let made = joint-leads parties run.steps in
    let v = services parties in
    course-own v first_moment h made.end made.course first-right first-valid
    (answers-each v h run.answers) first-good

-- of nodes with the same services the same is so
module _ (v w : ℕ → Serving) (same : (n : ℕ) → v n ≡ w n) where
  at-same : (past : List Lived) (who : Who) (e : Event) (first second : List ℕ)
      → OwnAt v past who e first second → OwnAt w past who e first second
  at-same past (Node n) e first second own =
      subst (λ (s : Serving). OwnEvent s past (present n past) e first second) (same n) own
  at-same past Net e first second own = tt

  own-same : (past : List Lived) (h : List Fact)
      → AtEach (λ past f. OwnAt v past f.who f.event f.first f.second) past h
      → AtEach (λ past f. OwnAt w past f.who f.event f.first f.second) past h
  own-same past [] own = tt
  own-same past (f ∷ h) own =
      (at-same past f.who f.event f.first f.second own.0, own-same (told past f ∷ past) h own.1)

pub plain-own : PlainAnswersOwn
plain-own parties h t plain run =
    own-same (services parties) (λ n. plain_serving) plain [] h (joint-own parties h t run)
