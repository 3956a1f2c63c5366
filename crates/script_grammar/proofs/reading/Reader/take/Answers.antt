use Rattle.std.proofs.Common.{arith}
use Rattle.script_grammar.specs.Reader.{said_of}
use Rattle.script_grammar.proofs.ReaderLemmas.{too_many, passes_over, refuses, takes}
use Rattle.script_grammar.proofs.reading.Reader.take.Goals as goal

pub returns-then-self-gt-MOST_LINES-clause-bad : goal.returns-then-self-gt-MOST_LINES-clause-bad
unfolding said_of
returns-then-self-gt-MOST_LINES-clause-bad c = λ rest. rw c.bad_at.ensures (too_many _ _ _ _ rest (omega arith))

pub returns-then-is_passed_over-clause-taken : goal.returns-then-is_passed_over-clause-taken
unfolding said_of
returns-then-is_passed_over-clause-taken c = λ rest. passes_over _ _ _ _ rest (omega arith) (cc)

pub returns-in_ok-push-in-Ok-clause-taken : goal.returns-in_ok-push-in-Ok-clause-taken
unfolding said_of
returns-in_ok-push-in-Ok-clause-taken c =
    λ rest. takes _ _ _ _ _ _ _ rest (omega arith) (cc) c.in-Ok.ensures.value c.in_ok-push-in-Ok.ensures.pushed

pub returns-in-Err-Why-clause-bad : goal.returns-in-Err-Why-clause-bad
unfolding said_of
returns-in-Err-Why-clause-bad c =
    λ rest. rw c.bad_at-in-Err-Why.ensures (refuses _ _ _ _ rest _ (omega arith) (cc)
    (rw c.in-Err-Why.field-0-is at c.in-Err-Why.ensures.value))
