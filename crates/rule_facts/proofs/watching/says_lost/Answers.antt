use Rattle.rule_facts.proofs.SaysLemmas.{says-done-peer-lost}
use Rattle.rule_facts.proofs.watching.says_lost.Goals as goal

pub returns : goal.returns
returns c =
    rw c.says_done_peer_lost.ensures
    (says-done-peer-lost c.args.me c.args.call.now.what.number c.args.fact.now)
