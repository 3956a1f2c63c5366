-- Words with a space between, and lines that are ended by line feeds, are read off their text.
use Rattle.std.proofs.Common.{◌≡◌, ℕ, zero, suc, Bool, true, false, not, ◌&&◌, ◌==◌, List, [], ◌∷◌}
use Rattle.std.proofs.Common.{◌++◌, refl, sym, ap, ap₂, ◌∙◌, append_assoc, true≢false}
use Rattle.std.proofs.lemmas.Bool.{and_parts}
use Rattle.std.proofs.Common.{eq-eqb}
use Rattle.rpc_base.proofs.BasicLemmas.{not-true}

-- whether a list is without this element
abbrev pub free : ℕ → List ℕ → Bool
free c [] = true
free c (x ∷ xs) = not (x == c) && free c xs

-- a word has neither a space nor a line feed
abbrev pub IsWord : List ℕ → Type 0
IsWord w = (free 32 w ≡ true) × (free 10 w ≡ true)

abbrev pub AllWords : List (List ℕ) → Type 0
AllWords [] = Unit {0}
AllWords (w ∷ ws) = IsWord w × AllWords ws

abbrev joined_from : List ℕ → List (List ℕ) → List ℕ
joined_from w [] = w
joined_from w (v ∷ vs) = w ++ 32 ∷ joined_from v vs

-- words with a space between
abbrev pub joined : List (List ℕ) → List ℕ
joined [] = []
joined (w ∷ ws) = joined_from w ws

-- whether two words are one
abbrev pub same : List ℕ → List ℕ → Bool
same [] [] = true
same (x ∷ xs) (y ∷ ys) = (x == y) && same xs ys
same [] (y ∷ ys) = false
same (x ∷ xs) [] = false

-- word i of a line
abbrev pub word : ℕ → List (List ℕ) → List ℕ
word i [] = []
word zero (w ∷ ws) = w
word (suc i) (w ∷ ws) = word i ws

abbrev tail : List ℕ → List ℕ
tail [] = []
tail (x ∷ xs) = xs

abbrev head : List ℕ → ℕ
head [] = 0
head (x ∷ xs) = x

clash : (c y : ℕ) (b : Bool) → y ≡ c → not (y == c) && b ≡ true → ⊥
clash c y b e f = true≢false (sym (eq-eqb y c e) ∙ not-true (y == c) (and_parts _ _ f).0)

-- what stands before the first c, and what after it
pub split : (c : ℕ) (xs ys us vs : List ℕ) → free c xs ≡ true → free c ys ≡ true
    → xs ++ c ∷ us ≡ ys ++ c ∷ vs → (xs ≡ ys) × (us ≡ vs)
split c [] [] us vs f g e = (refl, ap tail e)
split c [] (y ∷ ys) us vs f g e = absurd (clash c y (free c ys) (sym (ap head e)) g)
split c (x ∷ xs) [] us vs f g e = absurd (clash c x (free c xs) (ap head e) f)
split c (x ∷ xs) (y ∷ ys) us vs f g e =
    let t = split c xs ys us vs (and_parts _ _ f).1 (and_parts _ _ g).1 (ap tail e) in
    (ap₂ (λ z zs. z ∷ zs) (ap head e) t.0, t.1)

-- the words, each with a space after it
ended : List (List ℕ) → List ℕ
ended [] = []
ended (w ∷ ws) = w ++ 32 ∷ ended ws

ended-from : (w : List ℕ) (ws : List (List ℕ)) → joined_from w ws ++ 32 ∷ [] ≡ ended (w ∷ ws)
unfolding ended
ended-from w [] = refl
ended-from w (v ∷ vs) = append_assoc w (32 ∷ joined_from v vs) (32 ∷ []) ∙ ap (λ t. w ++ 32 ∷ t) (ended-from v vs)

short : (w us : List ℕ) → [] ≡ w ++ 32 ∷ us → ⊥
short [] us e = cc
short (x ∷ xs) us e = cc

ended-same : (ws vs : List (List ℕ)) → AllWords ws → AllWords vs → ended ws ≡ ended vs → ws ≡ vs
unfolding ended
ended-same [] [] f g e = refl
ended-same [] (v ∷ vs) f g e = absurd (short v (ended vs) e)
ended-same (w ∷ ws) [] f g e = absurd (short w (ended ws) (sym e))
ended-same (w ∷ ws) (v ∷ vs) f g e =
    let t = split 32 w v (ended ws) (ended vs) f.0.0 g.0.0 e in
    ap₂ (λ z zs. z ∷ zs) t.0 (ended-same ws vs f.1 g.1 t.1)

-- lines with the same words are the same
pub joined-same : (w v : List ℕ) (ws vs : List (List ℕ)) → AllWords (w ∷ ws) → AllWords (v ∷ vs)
    → joined (w ∷ ws) ≡ joined (v ∷ vs) → w ∷ ws ≡ v ∷ vs
joined-same w v ws vs f g e =
    ended-same (w ∷ ws) (v ∷ vs) f g (sym (ended-from w ws) ∙ ap (λ t. t ++ 32 ∷ []) e ∙ ended-from v vs)

both-true : (a b : Bool) → a ≡ true → b ≡ true → a && b ≡ true
both-true a b f g = rw (f, g) refl

free-append : (c : ℕ) (xs ys : List ℕ) → free c xs ≡ true → free c ys ≡ true → free c (xs ++ ys) ≡ true
free-append c [] ys f g = g
free-append c (x ∷ xs) ys f g =
    let k = and_parts (not (x == c)) (free c xs) f in
    both-true (not (x == c)) (free c (xs ++ ys)) k.0 (free-append c xs ys k.1 g)

free-from : (w : List ℕ) (ws : List (List ℕ)) → AllWords (w ∷ ws) → free 10 (joined_from w ws) ≡ true
free-from w [] f = f.0.1
free-from w (v ∷ vs) f = free-append 10 w (32 ∷ joined_from v vs) f.0.1 (free-from v vs f.1)

-- a line of words has no line feed
pub free-joined : (ws : List (List ℕ)) → AllWords ws → free 10 (joined ws) ≡ true
free-joined [] f = refl
free-joined (w ∷ ws) f = free-from w ws f

pub joined-other : (ws vs : List (List ℕ)) → (ws ≡ [] → ⊥) → (vs ≡ [] → ⊥) → AllWords ws
    → AllWords vs → joined ws ≡ joined vs → ws ≡ vs
joined-other [] vs a b f g e = absurd (a refl)
joined-other (w ∷ ws) [] a b f g e = absurd (b refl)
joined-other (w ∷ ws) (v ∷ vs) a b f g e = joined-same w v ws vs f g e
