-- The words of a line, one after another, by where its first blank stands.
use Rattle.std.proofs.Common.{◌≡◌, ◌==◌, ℕ, zero, suc, ◌+◌, ◌-◌, ◌<◌, List, [], ◌∷◌, length, take}
use Rattle.std.proofs.Common.{drop, Bool, Some, None, refl, sym, ap, ◌∙◌, arith}
use Rattle.std.specs.List.{position}
use Rattle.script_grammar.proofs.SplitLemmas.{split_at_position, split_nowhere}
use Rattle.report_reader.specs.Words.{word, words_of}

abbrev blank : ℕ → Bool
blank b = b == 32

whole : (line : List ℕ) → position (λ b. b == 32) line ≡ None → words_of line ≡ line ∷ []
unfolding words_of
whole line at = split_nowhere blank line at

abbrev rest_of : List ℕ → ℕ → List ℕ
rest_of line end = take (length line - (end + 1)) (drop (end + 1) line)

cut : (line : List ℕ) (end : ℕ) → position (λ b. b == 32) line ≡ Some end
    → words_of line ≡ take end line ∷ words_of (rest_of line end)
unfolding words_of
cut line end at = split_at_position blank line end at

first : (i : ℕ) (w : List ℕ) (ws : List (List ℕ)) → i ≡ 0 → w ≡ word i (w ∷ ws)
first zero w ws h = refl
first (suc i) w ws h = absurd (omega arith)

later : (i : ℕ) (w : List ℕ) (ws : List (List ℕ)) → 0 < i → word (i - 1) ws ≡ word i (w ∷ ws)
later zero w ws h = absurd (omega arith)
later (suc i) w ws h = let e : suc i - 1 ≡ i = omega arith in rw e refl

pub first-whole : (line : List ℕ) (i : ℕ) → position (λ b. b == 32) line ≡ None → i ≡ 0
    → line ≡ word i (words_of line)
first-whole line i at h =
    first i line [] h ∙ ap (λ (ws : List (List ℕ)). word i ws) (sym (whole line at))

pub later-whole : (line : List ℕ) (i : ℕ) → position (λ b. b == 32) line ≡ None → 0 < i
    → [] ≡ word i (words_of line)
later-whole line i at h =
    later i line [] h ∙ ap (λ (ws : List (List ℕ)). word i ws) (sym (whole line at))

pub first-cut : (line : List ℕ) (i end : ℕ) → position (λ b. b == 32) line ≡ Some end → i ≡ 0
    → take end line ≡ word i (words_of line)
first-cut line i end at h =
    first i (take end line) (words_of (rest_of line end)) h
    ∙ ap (λ (ws : List (List ℕ)). word i ws) (sym (cut line end at))

pub later-cut : (line : List ℕ) (i end : ℕ) → position (λ b. b == 32) line ≡ Some end → 0 < i
    → word (i - 1) (words_of (rest_of line end)) ≡ word i (words_of line)
later-cut line i end at h =
    later i (take end line) (words_of (rest_of line end)) h
    ∙ ap (λ (ws : List (List ℕ)). word i ws) (sym (cut line end at))
