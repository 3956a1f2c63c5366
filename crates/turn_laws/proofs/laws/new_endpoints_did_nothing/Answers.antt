use Rattle.turn_laws.proofs.TurnLaws.{new-did-nothing}
use Rattle.turn_laws.proofs.laws.new_endpoints_did_nothing.Goals as goal

pub returns : goal.returns
returns g c = new-did-nothing g.V.Service g.W.Workers
