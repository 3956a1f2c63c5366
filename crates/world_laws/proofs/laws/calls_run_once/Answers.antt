-- Each end of a session is made once, and a call is asked and begins once, as one request.
use Rattle.world_laws.proofs.OneCallLaws.{calls-once}
use Rattle.world_laws.proofs.laws.calls_run_once.Goals as goal

pub returns : goal.returns
returns c = calls-once
