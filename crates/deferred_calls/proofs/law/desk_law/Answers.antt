use Rattle.deferred_calls.proofs.LawLemmas.{desk_law}
use Rattle.deferred_calls.proofs.law.desk_law.Goals as goal

pub returns : goal.returns
returns c = desk_law
