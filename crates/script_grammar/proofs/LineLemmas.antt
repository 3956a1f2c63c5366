-- The lines of a text, one after another, by where its first line feed stands.
use Rattle.std.proofs.Common.{◌≡◌, ◌==◌, ℕ, ◌+◌, ◌-◌, ◌<◌, Bool, List, [], ◌∷◌, length, take, drop}
use Rattle.std.proofs.Common.{Some, None, refl, ap, ◌∙◌, arith}
use Rattle.std.specs.List.{position}
use Rattle.std.proofs.lemmas.List.Splits.{length-slice_split}
use Rattle.script_grammar.specs.Lines.{lines_of, without_empty_last}
use Rattle.script_grammar.proofs.SplitLemmas.{split_at_position, split_nowhere}

keeps_first : (part : List ℕ) (parts : List (List ℕ)) → 0 < length parts
    → without_empty_last (part ∷ parts) ≡ part ∷ without_empty_last parts
keeps_first [] [] h = absurd (omega arith)
keeps_first [] (next ∷ parts) h = refl
keeps_first (b ∷ bs) parts h = refl

abbrev line_feed : ℕ → Bool
line_feed b = b == 10

pub no_lines : (text : List ℕ) → length text ≡ 0 → lines_of text ≡ []
unfolding lines_of
no_lines [] h = refl
no_lines (b ∷ bs) h = absurd (omega arith)

pub first_line : (text : List ℕ) (end : ℕ) → position (λ b. b == 10) text ≡ Some end
    → lines_of text ≡ take end text ∷ lines_of (take (length text - (end + 1)) (drop (end + 1) text))
unfolding lines_of
first_line text end at = ap without_empty_last (split_at_position line_feed text end at)
    ∙ keeps_first _ _ (omega (
      arith,
      length-slice_split line_feed
          (take (length text - (end + 1)) (drop (end + 1) text)),
    ))

pub last_line : (text : List ℕ) → position (λ b. b == 10) text ≡ None → 0 < length text
    → lines_of text ≡ text ∷ lines_of []
unfolding lines_of
last_line [] at h = absurd (omega arith)
last_line (b ∷ bs) at h = ap without_empty_last (split_nowhere line_feed (b ∷ bs) at)
