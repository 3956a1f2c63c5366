use Rattle.front_laws.proofs.GroupLemmas.{polls-one}
use Rattle.front_laws.proofs.laws.one_front_is_a_poll.Goals as goal

pub returns : goal.returns
returns c = polls-one
