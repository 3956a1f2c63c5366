use Rattle.lawful_history.proofs.LawfulLemmas.{lawful-by}
use Rattle.lawful_history.proofs.laws.runs_are_lawful.Goals as goal

pub returns : goal.returns
returns c = lawful-by
