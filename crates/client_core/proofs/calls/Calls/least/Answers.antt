use Rattle.client_core.proofs.calls.Calls.least.Goals as goal

pub returns : goal.returns
returns c = rw (← c.in-Some.ensures) c.numbered.ensures
