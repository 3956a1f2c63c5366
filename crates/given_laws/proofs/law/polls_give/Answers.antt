use Rattle.given_laws.proofs.GivenLemmas.{polls-given}
use Rattle.given_laws.proofs.law.polls_give.Goals as goal

pub returns : goal.returns
returns c = polls-given
