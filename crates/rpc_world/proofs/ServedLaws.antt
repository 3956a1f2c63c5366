-- The laws of each history of a script.
use Rattle.std.proofs.Common.{◌≡◌, List}
use Rattle.rpc_base.specs.declared.fact.Fact.{Fact}
use Rattle.end_laws.proofs.AnswerLemmas.{answers-each}
use Rattle.end_laws.proofs.GoodStart.{first-good, first-right, first-valid}
use Rattle.end_laws.proofs.OwnLaw.{course-own}
use Rattle.end_laws.proofs.PairLeads.{follows-course}
use Rattle.end_laws.proofs.ScriptLemmas.{script-two}
use Rattle.end_laws.specs.Moments.{first_moment}
use Rattle.one_history.proofs.ScriptNet.{all-of-net}
use Rattle.one_history.proofs.ScriptTold.{all-told}
use Rattle.one_history.proofs.StagesOnce.{one-history}
use Rattle.ring_laws.specs.PairsOnce.{PairsOnce}
use Rattle.ring_laws.proofs.PairLaw.{course-pairs, first-tidy}
use Rattle.ring_laws.proofs.RingLaw.{course-fits, first-met}
use Rattle.rpc_laws.specs.Service.{plain_serving}
use Rattle.lawful_history.proofs.LawfulLemmas.{lawful-by}
use Rattle.lawful_history.specs.Lawful.{Lawful}
use Rattle.script_grammar.specs.Conditions.{IsScript}
use Rattle.script_grammar.specs.declared.line.Line.{Line}
use Rattle.sim_script.specs.FollowsScript.{Follows}
use Rattle.stall_laws.specs.NoStall.{NoStall}
use Rattle.stall_laws.proofs.StallLaw.{no-stall}
use Rattle.world_laws.proofs.FewLemmas.{script-few}
use Rattle.world_laws.proofs.NodeLaws.{script-each}
use Rattle.world_laws.proofs.TableLaws.{tables-tell}
use Rattle.world_laws.specs.Laws.{EndTells}

-- the history of a script is lawful
pub follows-lawful : (script : List Line) (h : List Fact) → IsScript script → Follows script h
    → Lawful h
follows-lawful script h is follows =
    let two = script-two script is in
    let few = script-few script is in
    let made = follows-course script h two follows in
    lawful-by h (script-each script h two few follows) (all-of-net script h follows)
    (course-own (λ n. plain_serving) first_moment h made.end made.course first-right first-valid
    (answers-each (λ n. plain_serving) h follows.1.answers) first-good)
    (course-fits first_moment h made.end made.course first-right first-valid (λ calm. first-met))
    (all-told script h follows)

-- so long each packet stands in one place at most, and only while it is unanswered
pub follows-stands-once : (script : List Line) (h : List Fact) → IsScript script → Follows script h
    → PairsOnce h
follows-stands-once script h is follows =
    let made = follows-course script h (script-two script is) follows in
    course-pairs first_moment h made.end made.course first-right first-valid (λ calm. first-tidy)

-- at each end of a command at which the history is settled, each call that isn't over has its cause
pub follows-no-stall : (script : List Line) (h : List Fact) → IsScript script → Follows script h
    → NoStall script h
follows-no-stall script h is follows =
    no-stall script h (script-two script is) (script-few script is) follows

-- no other history follows the script
pub follows-one : (script : List Line) (h : List Fact) → Follows script h → (g : List Fact) → Follows script g → g ≡ h
follows-one script h follows = λ g other. one-history script g h other follows

-- at the end the tables say what the facts tell
pub follows-requests : (script : List Line) (h : List Fact) → IsScript script → EndTells script h
follows-requests script h is = tables-tell script h (script-two script is) (script-few script is)
