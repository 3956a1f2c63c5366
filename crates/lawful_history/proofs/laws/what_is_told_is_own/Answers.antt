use Rattle.lawful_history.proofs.OwnSound.{own-sound}
use Rattle.lawful_history.proofs.laws.what_is_told_is_own.Goals as goal

pub returns : goal.returns
returns c = own-sound
