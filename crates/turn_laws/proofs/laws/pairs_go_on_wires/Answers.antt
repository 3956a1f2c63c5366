use Rattle.turn_laws.proofs.PairLemmas.{pairs-go}
use Rattle.turn_laws.proofs.laws.pairs_go_on_wires.Goals as goal

pub returns : goal.returns
returns g c = pairs-go g.R.Recorder.log g.V.Service g.W.Workers g.P.Recorder.log g.X.Service
    g.Y.Workers
