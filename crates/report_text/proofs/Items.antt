-- Putting the text of one item after another on a page.
use Rattle.std.proofs.Common.{◌≡◌, ℕ, ◌+◌, ◌<◌, List, [], ◌∷◌, ◌++◌, length, get_or, take}
use Rattle.std.proofs.Common.{drop, sym, ap, subst, ◌∙◌, append-nil, take-append-drop}
use Rattle.std.proofs.lemmas.List.{take_more}
use Rattle.std.proofs.lemmas.Grind.{flat_map-append}
use Rattle.std.specs.Prelude.{flat_map}
use Rattle.rpc_outside.specs.Writing.{Written}
use Rattle.report_text.specs.Page.{Puts, Breaks}
use Rattle.report_text.proofs.Putting.{puts-then, puts-breaks, breaks-further}

-- the items up to x have the text of those before, and its own
pub flat_map-more : {X : Type 0} (f : X → List ℕ) (xs : List X) (i : ℕ) (d x : X) → i < length xs → get_or xs i d ≡ x
    → flat_map f (take (i + 1) xs) ≡ flat_map f (take i xs) ++ f x
flat_map-more f xs i d x below is =
    ap (flat_map f) (take_more xs i d below) ∙ flat_map-append f (take i xs) (get_or xs i d ∷ [])
    ∙ ap (λ y. flat_map f (take i xs) ++ (f y ++ [])) is ∙ ap (λ l. flat_map f (take i xs) ++ l) (append-nil (f x))

-- all items: those up to x, and the rest
pub flat_map-around : {X : Type 0} (f : X → List ℕ) (xs : List X) (i : ℕ) (d x : X) → i < length xs
    → get_or xs i d ≡ x
    → (flat_map f (take i xs) ++ f x) ++ flat_map f (drop (i + 1) xs) ≡ flat_map f xs
flat_map-around f xs i d x below is =
    ap (λ l. l ++ flat_map f (drop (i + 1) xs)) (sym (flat_map-more f xs i d x below is))
    ∙ sym (flat_map-append f (take (i + 1) xs) (drop (i + 1) xs)) ∙ ap (flat_map f) (take-append-drop (i + 1) xs)

-- the item x was put after those before it
pub puts-item : {X : Type 0} (f : X → List ℕ) (xs : List X) (i : ℕ) (d x : X) → i < length xs → get_or xs i d ≡ x
    → (a b c : List ℕ) (old mid new : Written)
    → Puts a b old mid (flat_map f (take i xs)) → Puts b c mid new (f x)
    → Puts a c old new (flat_map f (take (i + 1) xs))
puts-item f xs i d x below is a b c old mid new first second =
    rw (flat_map-more f xs i d x below is) (puts-then a b c old mid new _ _ first second)

-- a fault came in the item x
pub breaks-item : {X : Type 0} (f : X → List ℕ) (xs : List X) (i : ℕ) (d x : X) → i < length xs → get_or xs i d ≡ x
    → (a b : List ℕ) (old mid new : Written)
    → Puts a b old mid (flat_map f (take i xs)) → Breaks b mid new (f x)
    → Breaks a old new (flat_map f xs)
breaks-item f xs i d x below is a b old mid new first second =
    subst (Breaks a old new) (flat_map-around f xs i d x below is)
    (breaks-further a old new _ (flat_map f (drop (i + 1) xs))
    (puts-breaks a b old mid new _ _ first second))

-- a part of the items was put after those before it
pub puts-part : {X : Type 0} (f : X → List ℕ) (done part : List X)
    → (a b c : List ℕ) (old mid new : Written)
    → Puts a b old mid (flat_map f done) → Puts b c mid new (flat_map f part)
    → Puts a c old new (flat_map f (done ++ part))
puts-part f done part a b c old mid new first second =
    rw (flat_map-append f done part) (puts-then a b c old mid new _ _ first second)

-- a fault came in a part of the items
pub breaks-part : {X : Type 0} (f : X → List ℕ) (whole done part rest : List X) → whole ≡ (done ++ part) ++ rest
    → (a b : List ℕ) (old mid new : Written)
    → Puts a b old mid (flat_map f done) → Breaks b mid new (flat_map f part)
    → Breaks a old new (flat_map f whole)
breaks-part f whole done part rest is a b old mid new first second =
    let both : Breaks a old new (flat_map f (done ++ part)) =
    rw (flat_map-append f done part) (puts-breaks a b old mid new _ _ first second) in
    rw (is, flat_map-append f (done ++ part) rest) (breaks-further a old new _ (flat_map f rest) both)
