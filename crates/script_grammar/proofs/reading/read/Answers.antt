use Rattle.script_grammar.proofs.ScriptLemmas.{script_sound}
use Rattle.script_grammar.proofs.reading.read.Goals as goal

pub of-requires : goal.of-requires
of-requires c = script_sound _ _ c.in_ok-lines.ensures.ok c.in_ok-lines.ensures.ranges
