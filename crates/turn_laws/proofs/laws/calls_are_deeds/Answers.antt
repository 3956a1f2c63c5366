use Rattle.turn_laws.proofs.TurnLaws.{calls-are-deeds}
use Rattle.turn_laws.proofs.laws.calls_are_deeds.Goals as goal

pub returns : goal.returns
returns g c = calls-are-deeds g.V.Service g.W.Workers g.R.Recorder.log
