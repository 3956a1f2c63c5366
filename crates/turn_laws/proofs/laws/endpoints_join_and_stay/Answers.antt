use Rattle.turn_laws.proofs.JoinLemmas.{endpoint-stays, new-joins}
use Rattle.turn_laws.proofs.laws.endpoints_join_and_stay.Goals as goal

pub returns-clause-joins : goal.returns-clause-joins
returns-clause-joins g c = new-joins g.V.Service g.W.Workers

pub returns-clause-stays : goal.returns-clause-stays
returns-clause-stays g c = endpoint-stays g.V.Service g.W.Workers
