-- A drawing, one fact after another.
use Rattle.std.proofs.Common.{◌≡◌, ℕ, zero, suc, ◌+◌, List, [], ◌∷◌, ◌++◌, map, drop, Some}
use Rattle.std.proofs.Common.{refl, sym, ap, ◌∙◌, subst, length, append_assoc, add-one, arith}
use Rattle.std.proofs.lemmas.List.{append-nil}
use Rattle.std.proofs.lemmas.Option.{slice_get_past}
use Rattle.std.specs.Prelude.{◌≤◌, option_to_list, slice_get}
use Rattle.rpc_base.specs.declared.fact.Fact.{Fact}
use Rattle.sequence_picture.specs.declared.things.Drawn.{Drawn}
use Rattle.sequence_picture.specs.declared.things.Track.{Track}
use Rattle.sequence_picture.specs.Drawing.{drawing, drawing_from, flying, things_at}
use Rattle.sequence_picture.specs.Tracks.{tracks_after}

drop-at : (h : List Fact) (n : ℕ) (f : Fact) → slice_get h n ≡ Some f
    → drop n h ≡ f ∷ drop (suc n) h
drop-at [] n f e = cc
drop-at (x ∷ xs) zero f e = let same : x ≡ f = cc in ap (λ (g : Fact). g ∷ xs) same
drop-at (x ∷ xs) (suc n) f e = drop-at xs n f e

drop-past : {A : Type 0} (xs : List A) (n : ℕ) → n ≡ length xs → drop n xs ≡ []
drop-past [] zero e = refl
drop-past [] (suc n) e = refl
drop-past (x ∷ xs) zero e = absurd (omega arith)
drop-past (x ∷ xs) (suc n) e = drop-past xs n (omega arith)

-- what was drawn, and what the facts from this place on will show
abbrev pub Shows : List Fact → ℕ → List Track → List Drawn → Type 0
Shows h place tracks drawn = drawn ++ drawing_from h place (drop place h) tracks ≡ drawing h

pub draw-none : (h : List Fact) → Shows h 0 [] []
draw-none h = refl

pub draw-step : (h : List Fact) (place : ℕ) (f : Fact) (tracks : List Track) (drawn : List Drawn)
    → slice_get h place ≡ Some f → Shows h place tracks drawn
    → Shows h (place + 1) (tracks_after place f tracks) (drawn ++ things_at h place f tracks)
draw-step h place f tracks drawn at shows =
    let here : drop place h ≡ f ∷ drop (place + 1) h =
    drop-at h place f at ∙ ap (λ (n : ℕ). f ∷ drop n h) (sym (add-one place)) in
    let whole : drawn ++ (things_at h place f tracks
    ++ drawing_from h (place + 1) (drop (place + 1) h) (tracks_after place f tracks)) ≡ drawing h =
    subst (λ (fs : List Fact). drawn ++ drawing_from h place fs tracks ≡ drawing h) here shows in
    append_assoc drawn (things_at h place f tracks)
    (drawing_from h (place + 1) (drop (place + 1) h) (tracks_after place f tracks)) ∙ whole

pub draw-end : (h : List Fact) (place : ℕ) (tracks : List Track) (drawn : List Drawn)
    → place ≡ length h → Shows h place tracks drawn → drawn ++ map flying tracks ≡ drawing h
draw-end h place tracks drawn all shows =
    subst (λ (fs : List Fact). drawn ++ drawing_from h place fs tracks ≡ drawing h) (drop-past h place all) shows

-- where no copy has this number, nothing more is drawn, or in flight
pub nothing-more : {A B : Type 0} (f : A → B) (ts : List A) (count number : ℕ) (drawn : List B)
    → count ≡ length ts → count ≤ number
    → drawn ≡ drawn ++ map f (option_to_list (slice_get ts number))
nothing-more f ts count number drawn e h =
    rw (slice_get_past ts number (omega arith)) (sym (append-nil drawn))
