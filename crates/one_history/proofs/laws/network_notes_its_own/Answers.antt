-- No group of facts of a script has a fact of the network but those that the network notes.
use Rattle.one_history.proofs.ScriptNet.{all-of-net}
use Rattle.one_history.proofs.laws.network_notes_its_own.Goals as goal

pub returns : goal.returns
returns c = all-of-net
