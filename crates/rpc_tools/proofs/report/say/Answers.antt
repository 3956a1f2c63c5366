use Rattle.std.proofs.Common.{inl, inr, refl}
use Rattle.rpc_tools.proofs.report.say.Goals as goal

pub returns-in-Ok : goal.returns-in-Ok
returns-in-Ok g c = inl (c.status_of.ensures, c.in-Ok.ensures)

pub returns-in-Err : goal.returns-in-Err
returns-in-Err g c = inr (refl, c.in-Err.ensures)
