use Rattle.turn_laws.proofs.TurnLaws.{deliveries-are-deeds, polls-are-deeds, turns-are-deeds}
use Rattle.turn_laws.proofs.laws.turns_are_deeds.Goals as goal

pub returns-clause-turns : goal.returns-clause-turns
returns-clause-turns g c = turns-are-deeds g.V.Service g.W.Workers g.R.Recorder.log
    g.K.Continuation.given g.L.Link

pub returns-clause-polls : goal.returns-clause-polls
returns-clause-polls g c = polls-are-deeds g.V.Service g.W.Workers g.R.Recorder.log
    g.K.Continuation.given

pub returns-clause-deliveries : goal.returns-clause-deliveries
returns-clause-deliveries g c = deliveries-are-deeds g.V.Service g.W.Workers g.R.Recorder.log
