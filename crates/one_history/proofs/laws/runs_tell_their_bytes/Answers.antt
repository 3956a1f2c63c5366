-- Each group of facts of a node has no other bytes than its lines show.
use Rattle.one_history.proofs.RunTold.{runs-told}
use Rattle.one_history.proofs.laws.runs_tell_their_bytes.Goals as goal

pub returns : goal.returns
returns c = runs-told
