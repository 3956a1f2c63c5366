-- the jobs before this one were found unfinished
use Rattle.worker_crew.specs.Dispatching.{FoundUnfinishedJobs}
use Rattle.worker_crew.proofs.dispatcher.Dispatcher.collect_first.Given as goal

abbrev pub invariant-loop-i : goal.invariant-loop-i
invariant-loop-i g l = FoundUnfinishedJobs l.i l.initial.self l.self
