use Rattle.end_laws.proofs.GoodStart.{first-right, first-valid}
use Rattle.end_laws.proofs.PairLeads.{follows-course}
use Rattle.end_laws.specs.Moments.{first_moment}
use Rattle.ring_laws.proofs.RingLaw.{first-met, course-fits}
use Rattle.ring_laws.proofs.laws.messages_fit.Goals as goal

pub returns : goal.returns
returns c = λ script h two follows.
    let made = follows-course script h two follows in
    course-fits first_moment h made.end made.course first-right first-valid (λ calm. first-met)
