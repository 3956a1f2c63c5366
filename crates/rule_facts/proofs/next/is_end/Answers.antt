use Rattle.rule_facts.proofs.SaysLemmas.{says-polled}
use Rattle.rule_facts.proofs.next.is_end.Goals as goal

pub returns : goal.returns
returns c = rw c.says_polled-says.ensures (says-polled c.args.lists.now.me c.args.clock c.args.fact.now)
