-- One line more of a script.
use Rattle.std.proofs.Common.{◌≡◌, ℕ, ◌+◌, ◌<◌, ◌≤◌, true, false, nat_lt, List, [], ◌∷◌, ◌++◌}
use Rattle.std.proofs.Common.{Result, Ok, Err, refl, sym, ap, append_assoc, append-nil, arith}
use Rattle.std.proofs.lemmas.Bool.Decides.{nat_tests}
use Rattle.script_grammar.specs.declared.bad.BadScript.{BadScript}
use Rattle.script_grammar.specs.declared.bad.BadWhy.{BadWhy}
use Rattle.script_grammar.specs.declared.bad.BadWhy.TheVariants.{Lines, Nodes}
use Rattle.script_grammar.specs.declared.before.Before.{Before}
use Rattle.script_grammar.specs.declared.line.Command.{Command}
use Rattle.script_grammar.specs.declared.line.Line.{Line}
use Rattle.script_grammar.specs.Script.{bad_at, put_before, is_passed_over, line_in, lines_in}

test_true : (a b : ℕ) → a < b → nat_lt a b ≡ true
test_true a b h = grind (arith, nat_tests)

test_false : (a b : ℕ) → b ≤ a → nat_lt a b ≡ false
test_false a b h = grind (arith, nat_tests)

-- line 100,001
pub too_many : (front : List Line) (number : ℕ) (before : Before) (line : List ℕ)
    (rest : List (List ℕ)) → 100000 < number
    → put_before front (lines_in number before (line ∷ rest)) ≡ bad_at number Lines
unfolding lines_in
too_many front number before line rest h = rw (test_true 100000 number h) refl

-- an empty line or a comment
pub passes_over : (front : List Line) (number : ℕ) (before : Before) (line : List ℕ)
    (rest : List (List ℕ)) → number ≤ 100000
    → is_passed_over line ≡ true
    → put_before front (lines_in number before (line ∷ rest))
    ≡ put_before front (lines_in (number + 1) before rest)
unfolding lines_in
passes_over front number before line rest h over = rw (test_false 100000 number h, over) refl

-- a bad line
pub refuses : (front : List Line) (number : ℕ) (before : Before) (line : List ℕ)
    (rest : List (List ℕ)) (why : BadWhy) → number ≤ 100000
    → is_passed_over line ≡ false → line_in before line ≡ Err why
    → put_before front (lines_in number before (line ∷ rest)) ≡ bad_at number why
unfolding lines_in
refuses front number before line rest why h over bad = rw (test_false 100000 number h, over, bad) refl

put_twice : (front more : List Line) (said : Result (List Line) BadScript)
    → put_before front (put_before more said) ≡ put_before (front ++ more) said
put_twice front more (Ok lines) = ap (λ l. Ok l) (sym (append_assoc front more lines))
put_twice front more (Err bad) = refl

-- a command
pub takes : (front items : List Line) (number : ℕ) (before after : Before) (line : List ℕ)
    (command : Command) (rest : List (List ℕ)) → number ≤ 100000
    → is_passed_over line ≡ false → line_in before line ≡ Ok (command, after)
    → items ≡ front ++ record { number = number; command = command } ∷ []
    → put_before front (lines_in number before (line ∷ rest)) ≡ put_before items (lines_in (number + 1) after rest)
unfolding lines_in
takes front items number before after line command rest h over good grown =
    rw (test_false 100000 number h, over, good, grown) (put_twice front _ (lines_in (number + 1) after rest))

-- the end
pub ends_badly : (front : List Line) (number : ℕ) (before : Before) → before.nodes < 2
    → put_before front (lines_in number before []) ≡ bad_at number Nodes
unfolding lines_in
ends_badly front number before h = rw (test_true before.nodes 2 h) refl

pub ends_well : (front : List Line) (number : ℕ) (before : Before) → 2 ≤ before.nodes
    → put_before front (lines_in number before []) ≡ Ok front
unfolding lines_in
ends_well front number before h = rw (test_false before.nodes 2 h) (ap (λ l. Ok l) (append-nil front))

-- nothing was read yet
pub put_nothing : (said : Result (List Line) BadScript) → put_before [] said ≡ said
put_nothing (Ok lines) = refl
put_nothing (Err bad) = refl
