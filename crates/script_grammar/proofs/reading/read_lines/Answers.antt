use Rattle.std.proofs.Common.{ap, length, arith}
use Rattle.script_grammar.specs.Reader.{said_of}
use Rattle.script_grammar.proofs.ReaderLemmas.{put_nothing}
use Rattle.script_grammar.proofs.reading.read_lines.Goals as goal

pub loop-line-init : goal.loop-line-init
unfolding said_of
loop-line-init c = (
  rw c.new.ensures.items (put_nothing _),
  omega arith,
  λ k d l. absurd (omega (arith, ap (λ xs. length xs) c.new.ensures.items)),
  omega arith,
)
