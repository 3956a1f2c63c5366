use Rattle.end_laws.proofs.AnswerLemmas.{answers-each}
use Rattle.end_laws.proofs.GoodStart.{first-good, first-right, first-valid}
use Rattle.end_laws.proofs.OwnLaw.{course-own}
use Rattle.end_laws.proofs.PairLeads.{follows-course}
use Rattle.end_laws.specs.Moments.{first_moment}
use Rattle.rpc_laws.specs.Service.{plain_serving}
use Rattle.end_laws.proofs.laws.answers_own.Goals as goal

pub returns : goal.returns
returns c = λ script h two follows.
    let made = follows-course script h two follows in
    course-own (λ n. plain_serving) first_moment h made.end made.course first-right first-valid
    (answers-each (λ n. plain_serving) h follows.1.answers) first-good
