use Rattle.rpc_base.proofs.LeastLemmas.{least-none}
use Rattle.client_core.specs.Watching.{call_number, is_after}
use Rattle.client_core.proofs.session.ClientSession.active.Goals as goal

pub returns-in-Some-clause-none : goal.returns-in-Some-clause-none
returns-in-Some-clause-none c =
    rw (← c.self.view_is) (rw (← c.in-Some.ensures)
    at (least-none (is_after c.args.after) call_number c.self.inside.calls))

pub returns-in-None-clause-none : goal.returns-in-None-clause-none
returns-in-None-clause-none c =
    rw (← c.self.view_is) (rw (← c.in-None.ensures)
    at (least-none (is_after c.args.after) call_number c.self.inside.calls))
