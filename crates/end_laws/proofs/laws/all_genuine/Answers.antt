use Rattle.end_laws.proofs.GenuineLaw.{course-genuine}
use Rattle.end_laws.proofs.PairLeads.{follows-course}
use Rattle.end_laws.specs.Moments.{first_moment}
use Rattle.end_laws.proofs.laws.all_genuine.Goals as goal
use Rattle.std.proofs.Common.{refl}

pub returns : goal.returns
returns c = λ script h two follows.
    let made = follows-course script h two follows in
    course-genuine first_moment h made.end made.course (λ j z is. absurd (cc))
    (λ j z is. absurd (cc)) (record { clock = refl; nodes = refl })
    (record {
      flight = tt;
      hand = tt;
      rings = λ n l is. absurd (cc);
      inboxes = λ n l is. absurd (cc);
    })
