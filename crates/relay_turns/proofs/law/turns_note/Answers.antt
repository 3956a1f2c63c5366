use Rattle.relay_turns.proofs.KeepLemmas.{turns-keep}
use Rattle.rpc_turns.specs.Moments.{outside}
use Rattle.relay_turns.proofs.law.turns_note.Goals as goal

pub returns : goal.returns
returns g c =
    turns-keep g.V.Service g.D.Duty.answer (outside g.L.Link g.C.Clock.gave g.R.Recorder.log)
