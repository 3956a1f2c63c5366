use Rattle.front_laws.proofs.GroupLemmas.{group-next}
use Rattle.front_laws.proofs.laws.one_group_is_next.Goals as goal

pub returns : goal.returns
returns c = group-next
