-- The words of a line, one after another, by where its first blank stands.
use Rattle.std.proofs.Common.{◌≡◌, ◌==◌, ℕ, ◌+◌, ◌-◌, ◌<◌, Bool, true, false, cond, List, [], ◌∷◌}
use Rattle.std.proofs.Common.{length, take, drop, take_all, length-drop, nat_eq, Some, None, Ok}
use Rattle.std.proofs.Common.{Err, refl, sym, ap, ◌∙◌, arith}
use Rattle.std.specs.List.{position, starts_with}
use Rattle.std.proofs.lemmas.List.Splits.{length-slice_split}
use Rattle.script_grammar.specs.declared.bad.BadWhy.TheVariants.{Shape}
use Rattle.script_grammar.specs.Words.{words_of, next_word, last_word}
use Rattle.script_grammar.proofs.SplitLemmas.{split_at_position, split_nowhere}

abbrev blank : ℕ → Bool
blank b = b == 32

pub words_whole : (line : List ℕ) → position (λ b. b == 32) line ≡ None → words_of line ≡ line ∷ []
unfolding words_of
words_whole line at = split_nowhere blank line at

pub words_cut : (line : List ℕ) (end : ℕ) → position (λ b. b == 32) line ≡ Some end
    → words_of line ≡ take end line ∷ words_of (take (length line - (end + 1)) (drop (end + 1) line))
unfolding words_of
words_cut line end at = split_at_position blank line end at

-- a nonempty first word is taken
taken : (word : List ℕ) (words : List (List ℕ)) → 0 < length word → next_word (word ∷ words) ≡ Ok (word, words)
unfolding next_word
taken [] words h = absurd (omega arith)
taken (b ∷ bs) words h = refl

empty : (word : List ℕ) (words : List (List ℕ)) → length word ≡ 0 → next_word (word ∷ words) ≡ Err Shape
unfolding next_word
empty [] words h = refl
empty (b ∷ bs) words h = absurd (omega arith)

pub next_of_none : next_word [] ≡ Err Shape
unfolding next_word
next_of_none = refl

-- with no blank, the line is its last word
pub next_whole : (line : List ℕ) → position (λ b. b == 32) line ≡ None → 0 < length line
    → next_word (words_of line) ≡ Ok (line, [])
unfolding words_of
next_whole line at h = ap next_word (split_nowhere blank line at) ∙ taken line [] h

pub next_nothing : (line : List ℕ) → position (λ b. b == 32) line ≡ None → length line ≡ 0
    → next_word (words_of line) ≡ Err Shape
unfolding words_of
next_nothing line at h = ap next_word (split_nowhere blank line at) ∙ empty line [] h

pub next_cut : (line : List ℕ) (end : ℕ) → position (λ b. b == 32) line ≡ Some end → 0 < length (take end line)
    → next_word (words_of line) ≡ Ok (take end line, words_of (take (length line - (end + 1)) (drop (end + 1) line)))
unfolding words_of
next_cut line end at h = ap next_word (split_at_position blank line end at) ∙ taken _ _ h

pub next_blank : (line : List ℕ) → position (λ b. b == 32) line ≡ Some 0 → next_word (words_of line) ≡ Err Shape
unfolding words_of
next_blank line at = ap next_word (split_at_position blank line 0 at) ∙ empty _ _ refl

not_last : (key word : List ℕ) (words : List (List ℕ)) → 0 < length words → last_word key (word ∷ words) ≡ Err Shape
unfolding last_word
not_last key word [] h = absurd (omega arith)
not_last key [] (next ∷ words) h = refl
not_last key (b ∷ bs) (next ∷ words) h = refl

pub last_of_none : (key : List ℕ) → last_word key [] ≡ Err Shape
unfolding last_word
last_of_none key = refl

-- a blank in it: it was not the last word
pub last_cut : (key line : List ℕ) (end : ℕ) → position (λ b. b == 32) line ≡ Some end
    → last_word key (words_of line) ≡ Err Shape
unfolding words_of
last_cut key line end at =
    ap (last_word key) (split_at_position blank line end at)
    ∙ not_last key _ _ (omega (
      arith,
      length-slice_split blank
          (take (length line - (end + 1)) (drop (end + 1) line)),
    ))

last_whole : (key word : List ℕ) → 0 < length word
    → last_word key (word ∷ []) ≡ cond (starts_with nat_eq word key) (Ok (drop (length key) word))
    (Err Shape)
unfolding last_word
last_whole key [] h = absurd (omega arith)
last_whole key (b ∷ bs) h = refl

pub last_fits : (key word : List ℕ) → position (λ b. b == 32) word ≡ None → 0 < length word
    → starts_with nat_eq word key ≡ true
    → last_word key (words_of word) ≡ Ok (take (length word - length key) (drop (length key) word))
unfolding words_of
last_fits key word at h fits =
    let whole : take (length word - length key) (drop (length key) word) ≡ drop (length key) word =
    take_all _ _ (omega (arith, length-drop {A = ℕ})) in
    ap (last_word key) (split_nowhere blank word at) ∙ last_whole key word h
    ∙ ap (λ b. cond b (Ok (drop (length key) word)) (Err Shape)) fits ∙ ap (λ w. Ok w) (sym whole)

pub last_misfits : (key word : List ℕ) → position (λ b. b == 32) word ≡ None
    → starts_with nat_eq word key ≡ false → last_word key (words_of word) ≡ Err Shape
unfolding words_of last_word
last_misfits key [] at misfits = refl
last_misfits key (b ∷ bs) at misfits =
    ap (last_word key) (split_nowhere blank (b ∷ bs) at)
    ∙ ap (λ t. cond t (Ok (drop (length key) (b ∷ bs))) (Err Shape)) misfits

pub last_empty : (key word : List ℕ) → length word ≡ 0 → last_word key (words_of word) ≡ Err Shape
unfolding words_of last_word
last_empty key [] h = refl
last_empty key (b ∷ bs) h = absurd (omega arith)
