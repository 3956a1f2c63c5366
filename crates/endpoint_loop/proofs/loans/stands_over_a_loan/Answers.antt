use Rattle.endpoint_loop.proofs.StandingLoan.{stands-over}
use Rattle.endpoint_loop.proofs.loans.stands_over_a_loan.Goals as goal

pub returns : goal.returns
returns g c = stands-over g.V.Service g.W.Workers
