use Rattle.end_laws.proofs.GoodStart.{first-right, first-valid}
use Rattle.end_laws.proofs.JointLeads.{joint-leads}
use Rattle.end_laws.specs.Moments.{first_moment}
use Rattle.ring_laws.proofs.RingLaw.{course-fits, first-met}
use Rattle.ring_laws.proofs.laws.joint_messages_fit.Goals as goal

pub returns : goal.returns
returns c = λ parties h t run.
    let made = joint-leads parties run.steps in
    course-fits first_moment h made.end made.course first-right first-valid (λ calm. first-met)
