use Rattle.std.proofs.Common.{ap}
use Rattle.std.specs.Prelude.{map}
use Rattle.node_steps.specs.Seen.{arrival_of}
use Rattle.node_steps.proofs.StatusSteps.{no-arrivals}
use Rattle.node_steps.proofs.inbox.Inbox.is_empty.Goals as goal

pub returns : goal.returns
returns c = rw (← c.self.view_is) (
  λ yes. ap (map arrival_of) (c.is_empty.ensures.0 yes),
  λ none. c.is_empty.ensures.1 (no-arrivals c.self.inside.ring.items none),
)
