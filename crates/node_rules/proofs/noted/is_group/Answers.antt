use Rattle.node_rules.specs.SingleFacts.{at_clock}
use Rattle.node_rules.proofs.NotedLemmas.{group-noted, noted-group, poll-only}
use Rattle.node_rules.proofs.noted.is_group.Goals as goal

pub returns : goal.returns
returns c = record {
  some = λ h mode clock. noted-group mode (at_clock clock c.args.lists.now) c.args.fact.now (c.is_noted-noted.ensures.0 h);
  only = λ h mode clock rest t g.
      poll-only mode (at_clock clock c.args.lists.now) c.args.fact.now rest t c.is_noted-noted.result
      c.is_noted-noted.ensures.1 h
      (group-noted mode (at_clock clock c.args.lists.now) c.args.fact.now rest t g);
}
