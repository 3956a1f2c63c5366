use Rattle.lawful_history.proofs.OwnComplete.{own-complete}
use Rattle.lawful_history.proofs.laws.what_is_own_is_told.Goals as goal

pub returns : goal.returns
returns c = own-complete
