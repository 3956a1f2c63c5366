use Rattle.rule_facts.proofs.HeadLemmas.{head-is}
use Rattle.rule_facts.proofs.heads.is_encoded.Goals as goal

pub returns : goal.returns
returns c =
    head-is c.args.packet.now c.args.told.now c.encoded-head.result c.is_same.result c.encoded-head.ensures
    c.is_same.ensures
