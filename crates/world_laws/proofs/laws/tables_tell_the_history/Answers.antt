-- Each node's facts are those of a run.
use Rattle.world_laws.proofs.TableLaws.{tables-tell}
use Rattle.world_laws.proofs.laws.tables_tell_the_history.Goals as goal

pub returns : goal.returns
returns c = tables-tell
