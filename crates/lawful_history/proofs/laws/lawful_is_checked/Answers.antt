use Rattle.lawful_history.proofs.CheckedLemmas.{lawful-checked}
use Rattle.lawful_history.proofs.laws.lawful_is_checked.Goals as goal

pub returns : goal.returns
returns c = lawful-checked
