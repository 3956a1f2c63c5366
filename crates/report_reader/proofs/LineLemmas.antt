-- A line falls into the words of its fact.
use Rattle.std.proofs.Common.{◌≡◌, ℕ, Bool, true, not, ◌==◌, List, [], ◌∷◌, ◌++◌}
use Rattle.std.proofs.Common.{refl, ap, ◌∙◌, eq-eqb}
use Rattle.std.specs.List.{slice_split}
use Rattle.std.proofs.lemmas.Bool.{and_parts}
use Rattle.rpc_base.proofs.BasicLemmas.{not-true}
use Rattle.report_text.proofs.LineWords.{AllWords, free, joined}

abbrev blank : ℕ → Bool
blank b = b == 32

-- what stands before a byte that parts
pub part-then : (c : ℕ) (w rest : List ℕ) → free c w ≡ true
    → slice_split (λ b. b == c) (w ++ c ∷ rest) ≡ w ∷ slice_split (λ b. b == c) rest
part-then c [] rest f = rw (eq-eqb c c refl) refl
part-then c (x ∷ xs) rest f =
    let p = and_parts (not (x == c)) (free c xs) f in
    rw (not-true (x == c) p.0, part-then c xs rest p.1) refl

pub word-then : (w rest : List ℕ) → free 32 w ≡ true
    → slice_split blank (w ++ 32 ∷ rest) ≡ w ∷ slice_split blank rest
word-then w rest f = part-then 32 w rest f

word-last : (w : List ℕ) → free 32 w ≡ true → slice_split blank w ≡ w ∷ []
word-last [] f = refl
word-last (x ∷ xs) f =
    let p = and_parts (not (x == 32)) (free 32 xs) f in
    rw (not-true (x == 32) p.0, word-last xs p.1) refl

words-joined : (w : List ℕ) (ws : List (List ℕ)) → AllWords (w ∷ ws)
    → slice_split blank (joined (w ∷ ws)) ≡ w ∷ ws
words-joined w [] a = word-last w a.0.0
words-joined w (v ∷ vs) a =
    word-then w (joined (v ∷ vs)) a.0.0 ∙ ap (λ (t : List (List ℕ)). w ∷ t) (words-joined v vs a.1)

-- some words, with a blank between
pub words-of-joined : (ws : List (List ℕ)) → (ws ≡ [] → ⊥) → AllWords ws
    → slice_split blank (joined ws) ≡ ws
words-of-joined [] some a = absurd (some refl)
words-of-joined (w ∷ ws) some a = words-joined w ws a
