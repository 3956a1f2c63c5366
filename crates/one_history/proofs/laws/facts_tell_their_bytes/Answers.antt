-- Each group of facts of a script has no other bytes than its lines show.
use Rattle.one_history.proofs.ScriptTold.{all-told}
use Rattle.one_history.proofs.laws.facts_tell_their_bytes.Goals as goal

pub returns : goal.returns
returns c = all-told
