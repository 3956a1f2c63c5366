use Rattle.deferred_calls.proofs.DeskLemmas.{none_of}
use Rattle.deferred_calls.proofs.desk.take_oldest.Goals as goal

pub returns-clause-none : goal.returns-clause-none
returns-clause-none c =
    none_of c.pop_front.result c.args.queue.now.items c.pop_front.new.self.items c.pop_front.ensures.items c.pop_front.ensures.rest
