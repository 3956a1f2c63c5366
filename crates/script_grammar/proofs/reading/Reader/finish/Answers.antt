use Rattle.std.proofs.Common.{refl, arith}
use Rattle.script_grammar.specs.Reader.{said_of}
use Rattle.script_grammar.proofs.ReaderLemmas.{ends_badly, ends_well}
use Rattle.script_grammar.proofs.reading.Reader.finish.Goals as goal

pub returns-then-self-lt-FEWEST_NODES-clause-bad : goal.returns-then-self-lt-FEWEST_NODES-clause-bad
unfolding said_of
returns-then-self-lt-FEWEST_NODES-clause-bad c = rw c.bad_at.ensures (ends_badly _ _ _ (omega arith))

pub returns-clause-ok : goal.returns-clause-ok
unfolding said_of
returns-clause-ok c = (ends_well _ _ _ (omega arith), refl)
