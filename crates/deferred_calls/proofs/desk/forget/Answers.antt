use Rattle.deferred_calls.proofs.DeskLemmas.{takes_out}
use Rattle.deferred_calls.proofs.desk.forget.Goals as goal

pub returns-clause-taken : goal.returns-clause-taken
returns-clause-taken c =
    takes_out c.args.handled.now.items c.take_at-taken.new.handled.items c.args.job.now c.place_of-place.result
    c.requires.rises c.requires.there.0 c.requires.there.1 c.place_of-place.ensures c.take_at-taken.ensures.others
