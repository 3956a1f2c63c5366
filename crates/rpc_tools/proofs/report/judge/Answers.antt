use Rattle.std.proofs.Common.{ℕ, List, ◌≤◌, ◌≡◌, length, subst}
use Rattle.std.specs.Prelude.{MatchResult}
use Rattle.run_status.specs.declared.status.Status.TheVariants.{NoMemory}
use Rattle.memory_count.specs.Faults.{HasRisenBy}
use Rattle.rpc_tools.proofs.AuditLemmas.{judges-long, judges-whole}
use Rattle.rpc_tools.proofs.Headline.{later-risen, risen-none}
use Rattle.rpc_tools.specs.declared.reading.Input.{Input}
use Rattle.rpc_tools.specs.Audits.{Says}
use Rattle.rpc_tools.specs.Outcomes.{Gives, lacks_read}
use Rattle.rpc_tools.proofs.report.judge.Goals as goal

pub returns-in-Whole-clause-judges : goal.returns-in-Whole-clause-judges
returns-in-Whole-clause-judges c = λ before after gives.
    judges-whole c.judge_bytes.result c.in-Whole.octets before after
    (subst (λ (z : List ℕ). MatchResult c.judge_bytes.result (λ line. length z ≤ 67108864 → Says z line)
    (λ s. s ≡ NoMemory)) c.bytes.ensures c.judge_bytes.ensures.says)
    (subst (λ (i : Input). Gives 67108864 i before after) c.in-Whole.is gives)

pub returns-in-TooLong-clause-judges : goal.returns-in-TooLong-clause-judges
returns-in-TooLong-clause-judges c = λ before after gives.
    judges-long before after (subst (λ (i : Input). Gives 67108864 i before after) c.in-TooLong.is gives)

pub returns-in-Whole-clause-cause : goal.returns-in-Whole-clause-cause
returns-in-Whole-clause-cause c = λ before risen.
    later-risen _ before _ _ risen.no_less c.judge_bytes.ensures.cause

pub returns-in-TooLong-clause-cause : goal.returns-in-TooLong-clause-cause
returns-in-TooLong-clause-cause c = λ before risen. risen-none before _ risen.no_less

pub returns-in-Fault-clause-cause : goal.returns-in-Fault-clause-cause
returns-in-Fault-clause-cause c = λ before risen. risen-none before _ risen.no_less

pub returns-in-Memory-clause-cause : goal.returns-in-Memory-clause-cause
returns-in-Memory-clause-cause c = λ before risen.
    subst (λ (i : Input). HasRisenBy (lacks_read i) before c.args.memory.now) c.in-Memory.is risen
