use Rattle.rpc_outside.proofs.memory.clock.StepClockClock.now.Goals as goal
use Rattle.rpc_outside.proofs.Ticking.{goes_on}

pub returns : goal.returns
returns c = λ answers before. goes_on _ _ _ _ answers before c.saturating_add-self.ensures
