-- A job that is out at the end wasn't finished before.
use Rattle.work_laws.proofs.PollLaws.{polls-known}
use Rattle.work_laws.proofs.laws.polls_by_order.Goals as goal

pub returns : goal.returns
returns c = polls-known
