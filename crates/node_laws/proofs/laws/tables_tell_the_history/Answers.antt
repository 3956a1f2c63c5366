-- Each fact changes the table as it changes what the facts tell.
use Rattle.node_laws.proofs.TableLaws.{table_tells}
use Rattle.node_laws.proofs.laws.tables_tell_the_history.Goals as goal

pub returns : goal.returns
returns c = table_tells
