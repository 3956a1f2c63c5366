use Rattle.end_laws.proofs.GoodStart.{first-good, first-right, first-valid}
use Rattle.end_laws.proofs.TwoEndsLaw.{course-ends}
use Rattle.end_laws.proofs.PairLeads.{follows-course}
use Rattle.end_laws.specs.Moments.{first_moment}
use Rattle.end_laws.proofs.laws.two_ends.Goals as goal

pub returns : goal.returns
returns c = λ script h two follows.
    let made = follows-course script h two follows in
    course-ends first_moment h made.end made.course first-right first-valid first-good
