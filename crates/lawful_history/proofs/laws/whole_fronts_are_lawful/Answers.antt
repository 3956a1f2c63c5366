use Rattle.lawful_history.proofs.FrontLemmas.{lawful-front}
use Rattle.lawful_history.proofs.laws.whole_fronts_are_lawful.Goals as goal

pub returns : goal.returns
returns c = lawful-front
