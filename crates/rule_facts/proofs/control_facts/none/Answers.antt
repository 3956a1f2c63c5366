use Rattle.rule_facts.proofs.FrontLemmas.{fronts-nothing}
use Rattle.rule_facts.proofs.control_facts.none.Goals as goal

pub returns : goal.returns
returns c = fronts-nothing c.args.facts.now
