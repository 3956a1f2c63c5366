use Rattle.endpoint_loop.proofs.endpoint.Endpoint.first_due.Goals as goal

pub returns : goal.returns
returns g c = rw (← c.self.view_is) c.first_due.ensures
