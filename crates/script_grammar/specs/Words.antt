-- How a line falls into words, and what shape the words of a command have.
use Rattle.std.specs.Prelude.{◌==◌, ℕ, Bool, List, [], ◌∷◌, length, drop, nat_eq, Result, Ok, Err}
use Rattle.std.specs.Prelude.{if◌then◌else◌}
use Rattle.std.specs.List.{slice_split, starts_with}
use Rattle.std.specs.Str.{bytes_eq}
use Rattle.script_grammar.specs.declared.bad.BadWhy.{BadWhy}
use Rattle.script_grammar.specs.declared.bad.BadWhy.TheVariants.{Shape}

-- what follows, unless something was wrong before
infixl 10 ◌>>=◌
abbrev pub ◌>>=◌ : {A B : Type 0} → Result A BadWhy → (A → Result B BadWhy) → Result B BadWhy
Ok a >>= f = f a
Err why >>= f = Err why

-- whether a word is this name
unfoldable pub is_word : List ℕ → List ℕ → Bool
is_word word name = bytes_eq word name

-- the words of a line: what stands between its blanks, empty where two blanks meet
unfoldable pub words_of : List ℕ → List (List ℕ)
words_of line = slice_split (λ b. b == 32) line

-- a word that has to be there and may not be empty, and the words after it
unfoldable pub next_word : List (List ℕ) → Result (List ℕ × List (List ℕ)) BadWhy
next_word [] = Err Shape
next_word ([] ∷ words) = Err Shape
next_word (word ∷ words) = Ok (word, words)

-- the last word, which has to be there, after the key that it has to begin with; no word may be
-- empty
unfoldable pub last_word : List ℕ → List (List ℕ) → Result (List ℕ) BadWhy
last_word key ([] ∷ []) = Err Shape
last_word key (word ∷ []) =
    if starts_with nat_eq word key then Ok (drop (length key) word) else Err Shape
last_word key _ = Err Shape
