-- the session is opened, or there is no memory for it
use Rattle.std.proofs.Common.{Err, ◌∙◌, subst}
use Rattle.memory_count.proofs.Risen.{risen-one}
use Rattle.memory_count.specs.Faults.{HasRisenBy}
use Rattle.relay_run.proofs.OpenLemmas.{session-opens, wants-memory}
use Rattle.session_mgmt.specs.Refusals.{lacks}
use Rattle.session_mgmt.specs.declared.answers.ConnectError.{ConnectError}
use Rattle.relay_run.proofs.opening.open_session.Goals as goal

pub returns-in-Ok-clause-opens : goal.returns-in-Ok-clause-opens
returns-in-Ok-clause-opens g c =
    session-opens g.R.Recorder.log c.args.peer c.args.endpoint.now c.connect.new.self
    c.args.rec.now c.connect.new.rec c.in-Ok.ensures.makes c.in-Ok.ensures.leaves c.requires.free
    c.in-Ok.ensures.handed

pub returns-in-Err-clause-unnoted : goal.returns-in-Err-clause-unnoted
returns-in-Err-clause-unnoted g c =
    c.in-Err.ensures.wanting (wants-memory _ (c.in-Err.ensures.refused ∙ c.requires.free))

pub returns-in-Err-clause-cause : goal.returns-in-Err-clause-cause
returns-in-Err-clause-cause g c =
    risen-one _ _
    (subst (λ (why : ConnectError). HasRisenBy (lacks (Err why)) c.args.memory.now
    c.connect.new.memory) (wants-memory _ (c.in-Err.ensures.refused ∙ c.requires.free))
    c.in-Err.ensures.cause)
