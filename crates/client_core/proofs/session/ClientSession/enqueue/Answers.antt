use Rattle.std.proofs.Common.{rules}
use Rattle.client_core.proofs.HandingLemmas.{handed-waits}
use Rattle.client_core.proofs.ShownLemmas.{enqueue-step}
use Rattle.client_core.specs.contracts.session.ClientSession.{the_view}
use Rattle.client_core.proofs.session.ClientSession.enqueue.Goals as goal

pub returns-clause-waits : goal.returns-clause-waits
returns-clause-waits c = record {
  waits = search rules;
  step = λ pool clock peer. rw (← c.self.view_is, c.in_ok-wait.ensures.waits)
      (enqueue-step clock pool peer c.args.w (the_view c.self.inside));
  handed = λ pool. rw (← c.self.view_is, c.in_ok-wait.ensures.waits)
      (handed-waits pool c.args.w (the_view c.self.inside));
}
