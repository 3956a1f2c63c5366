use Rattle.rule_facts.proofs.SaysLemmas.{says-heard}
use Rattle.rule_facts.proofs.next.is_heard.Goals as goal

pub returns : goal.returns
returns c = rw c.says_heard-says.ensures (says-heard c.args.lists.now.me c.args.fact.now)
